use Rattle.std.proofs.Common.{arith}
use Rattle.search.proofs.Stacks.{operands_popped}
use Rattle.search.proofs.operands.pop.Goals as goal

pub returns : goal.returns
returns c = operands_popped c.pop.result c.args.operands.now.items c.pop.new.self.items _ _ (omega arith) (omega arith) c.pop.ensures.items c.pop.ensures.cases
