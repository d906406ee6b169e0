use Rattle.std.proofs.Common.{◌≡◌, ◌≤◌, length, drop}
use Rattle.loop_bounds.specs.Tables.{greatest_cell}
use Rattle.loop_bounds.proofs.costs.greatest.Given as goal

abbrev pub invariant-loop-left : goal.invariant-loop-left
invariant-loop-left l = record {
  within : l.left ≤ length l.numbers;
  most : l.most ≡ greatest_cell l.costs (drop l.left l.numbers);
}

abbrev pub decreases-loop-left : goal.decreases-loop-left
decreases-loop-left l = l.left
