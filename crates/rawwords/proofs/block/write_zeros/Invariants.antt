use Rattle.std.proofs.Common.{◌≡◌, ◌-◌, ◌++◌, take, drop, replicate, Some}
use Rattle.rawwords.proofs.block.write_zeros.Given as goal

abbrev pub invariant-loop-place : goal.invariant-loop-place
invariant-loop-place l = record {
  at : l.block.at ≡ l.initial.block.at;
  places : l.block.places ≡ take l.from l.initial.block.places ++ replicate (l.place - l.from) (Some 0) ++ drop l.place l.initial.block.places;
}
