use Rattle.constpool.proofs.Fronts.{after_stripped}
use Rattle.constpool.proofs.bytes.after_front.Goals as goal

pub returns : goal.returns
returns c = after_stripped c.args.front.now c.args.bytes.now c.strip_prefix.result c.strip_prefix.ensures.cases
