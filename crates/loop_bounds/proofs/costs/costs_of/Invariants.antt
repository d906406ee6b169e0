use Rattle.std.proofs.Common.{◌≡◌, length, reverse, take}
use Rattle.search.specs.Orders.{items_of}
use Rattle.loop_bounds.specs.Found.{points_seen}
use Rattle.loop_bounds.specs.Tables.{AreCosts}
use Rattle.loop_bounds.proofs.costs.costs_of.Given as goal

abbrev pub invariant-loop-i : goal.invariant-loop-i
invariant-loop-i l = record {
  size : length l.costs.items ≡ length l.points;
  costs : AreCosts l.methods (points_seen l.points) (items_of l.links) (reverse (take l.i l.order)) l.costs.items;
}
