use Rattle.std.proofs.Common.{◌≡◌, ◌-◌, ◌≤◌, length, drop}
use Rattle.std.specs.Prelude.{slice_get}
use Rattle.typecheck.specs.Calls.{AreRising}
use Rattle.bounds.specs.Cells.{cells_of, size_by}
use Rattle.bounds.proofs.costs.greatest.Given as goal

abbrev pub invariant-loop-left : goal.invariant-loop-left
invariant-loop-left l =
    (l.left ≤ length l.code) × (AreRising l.method.calls.items → l.costs.items ≡ cells_of l.method l.known (size_by (slice_get l.method.code (length l.method.code - 1))) (drop l.left l.code))

abbrev pub decreases-loop-left : goal.decreases-loop-left
decreases-loop-left l = l.left
