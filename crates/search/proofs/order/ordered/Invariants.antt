use Rattle.std.proofs.Common.{reverse}
use Rattle.search.specs.Orders.{items_of}
use Rattle.search.specs.Passes.{IsPass, work}
use Rattle.search.proofs.order.ordered.Given as goal

abbrev pub invariant-loop-top : goal.invariant-loop-top
invariant-loop-top l = IsPass (items_of l.links) l.states.items (reverse l.path.items) (reverse l.order.items)

abbrev pub decreases-loop-top : goal.decreases-loop-top
decreases-loop-top l = work (items_of l.links) l.states.items (reverse l.path.items)
