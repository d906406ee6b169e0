use Rattle.std.proofs.lemmas.List.{map-set}
use Rattle.search.specs.Seen.{known_seen}
use Rattle.search.proofs.node.set_local.Goals as goal

pub returns-then-n-locals : goal.returns-then-n-locals
returns-then-n-locals c = map-set known_seen c.args.locals.now c.args.n c.args.k
