use Rattle.std.proofs.Common.{arith}
use Rattle.locals.proofs.Same.{part_same}
use Rattle.locals.proofs.pages.has.Goals as goal

pub returns : goal.returns
returns c = part_same c.args.page.now c.args.types.now c.args.at _ c.eq.result c.requires (omega arith) c.eq.ensures
