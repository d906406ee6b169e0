use Rattle.std.proofs.Common.{◌≡◌, ◌≤◌, ◌++◌, drop, length, vec_capacity}
use Rattle.invokeall.specs.Collected.{listed}
use Rattle.invokeall.proofs.all.list.Given as goal

abbrev pub invariant-loop-i : goal.invariant-loop-i
invariant-loop-i l = record {
  told : l.results.items ++ listed (drop l.i l.keys) (drop l.i l.answers) ≡ listed l.keys l.answers;
  room : length l.results.items ≤ l.i;
  capacity : length l.keys ≤ vec_capacity l.results;
}
