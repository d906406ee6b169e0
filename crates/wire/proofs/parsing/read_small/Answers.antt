use Rattle.wire.specs.Bodies.{small}
use Rattle.wire.proofs.parsing.read_small.Goals as goal

pub returns-in-2 : goal.returns-in-2
unfolding small
returns-in-2 c = rw c.in-2.is (c.read_put.ensures c.args.args.now.items)

pub returns-in-10 : goal.returns-in-10
unfolding small
returns-in-10 c = rw c.in-10.is (c.read_forget.ensures c.args.args.now.items)
