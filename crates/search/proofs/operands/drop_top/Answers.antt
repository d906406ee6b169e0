use Rattle.std.proofs.Common.{arith}
use Rattle.search.proofs.Stacks.{operands_left}
use Rattle.search.proofs.operands.drop_top.Goals as goal

pub returns : goal.returns
returns c =
    operands_left c.args.operands.now.items c.truncate.new.self.items c.args.count c.saturating_sub.result c.truncate.ensures.items (omega arith)
