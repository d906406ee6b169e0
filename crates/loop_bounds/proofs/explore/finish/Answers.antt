use Rattle.std.proofs.Common.{arith}
use Rattle.search.specs.Orders.{items_of}
use Rattle.search.proofs.Steps.{length-items_of}
use Rattle.loop_bounds.proofs.Exploring.{more, whole}
use Rattle.loop_bounds.proofs.explore.finish.Goals as goal

pub returns-then-exceeds : goal.returns-then-exceeds
returns-then-exceeds c rows fs start is all = (c.exceeds.ensures.limited cc, more rows fs start c.args.found (items_of c.args.links.items) is (c.exceeds.ensures.more cc))

pub returns : goal.returns
returns c rows fs start is all =
    let size = length-items_of c.args.links.items in
    whole rows fs start c.args.found (items_of c.args.links.items) c.args.limited is (omega (arith, size, all)) (c.exceeds.ensures.nodes cc) (c.exceeds.ensures.values cc)
