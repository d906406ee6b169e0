use Rattle.std.proofs.Common.{◌≡◌, ◌+◌, ◌≤◌, ◌++◌, drop, reverse}
use Rattle.frames.proofs.Room.{slots}
use Rattle.frames.proofs.listing.stack_with.Given as goal

abbrev pub invariant-loop-t : goal.invariant-loop-t
invariant-loop-t l = record {
  types : reverse (drop l.t-index l.types) ++ l.stack ≡ reverse l.types;
  sum : slots (drop l.t-index l.types) + slots l.stack ≡ slots l.types;
  within : slots l.stack ≤ l.max;
}
