use Rattle.std.proofs.Common.{◌∙◌, ap}
use Rattle.search.specs.Seen.{operands_seen}
use Rattle.search.proofs.Stacks.{operands_pushed}
use Rattle.search.proofs.operands.push.Goals as goal

pub returns : goal.returns
returns c = ap operands_seen c.in_ok-push.ensures.items ∙ operands_pushed _ c.args.k
