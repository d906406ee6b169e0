use Rattle.search.proofs.Stacks.{operand_found, operand_lacks}
use Rattle.search.proofs.operands.peek.Goals as goal

pub returns-then-i-operands : goal.returns-then-i-operands
returns-then-i-operands c = operand_found c.args.operands.now c.args.i c.index-operands-operands.result c.if-i-operands.true c.index-operands-operands.is

pub returns-else-i-operands : goal.returns-else-i-operands
returns-else-i-operands c = operand_lacks c.args.operands.now c.args.i c.if-i-operands.false
