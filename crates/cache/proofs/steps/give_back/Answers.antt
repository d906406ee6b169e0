use Rattle.std.proofs.Common.{rules}
use Rattle.cache.proofs.Moves.{may_return_as}
use Rattle.cache.proofs.steps.give_back.Goals as goal

pub swap-word-requires : goal.swap-word-requires
swap-word-requires g c = (search rules, search rules, may_return_as g.L.Loader.ASKS (g.L.Loader.gives c.args.board.now.key.loader.value) c.args.board.now.key c.args.board.now.table_id.slots c.args.pass.now.id c.args.index c.args.pass.now.me c.requires.held)
