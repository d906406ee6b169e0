use Rattle.std.proofs.Common.{◌-◌, ◌^◌, length}
use Rattle.search.specs.Orders.{items_of}
use Rattle.search.specs.Points.{point_seen}
use Rattle.loop_bounds.specs.Graphs.{IsExploring}
use Rattle.loop_bounds.proofs.explore.explore.Given as goal

abbrev pub invariant-loop-alloc : goal.invariant-loop-alloc
invariant-loop-alloc l = IsExploring l.methods l.fs (point_seen l.fn.start) l.found (items_of l.links.items)

abbrev pub decreases-loop-alloc : goal.decreases-loop-alloc
decreases-loop-alloc l = 2 ^ 64 - length l.links.items
