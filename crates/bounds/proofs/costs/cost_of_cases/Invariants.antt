use Rattle.std.proofs.Common.{◌≡◌, ◌≤◌, length, drop}
use Rattle.decode.specs.Places.{cases_of}
use Rattle.bounds.specs.Cells.{cell_among}
use Rattle.bounds.proofs.costs.cost_of_cases.Given as goal

abbrev pub invariant-loop-left : goal.invariant-loop-left
invariant-loop-left l =
    (l.left ≤ length (cases_of l.p.instruction)) × (l.greatest ≡ cell_among l.costs (drop l.left (cases_of l.p.instruction)) l.fn.default)

abbrev pub decreases-loop-left : goal.decreases-loop-left
decreases-loop-left l = l.left
