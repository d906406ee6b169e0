use Rattle.std.proofs.Common.{rules}
use Rattle.claims.proofs.Draws.{may_draw_as}
use Rattle.claims.proofs.claimer.draw.Goals as goal

pub fetch_add-requires : goal.fetch_add-requires
fetch_add-requires c = (search rules, search rules, may_draw_as c.args.board.now.key c.args.board.now.table_id.slots c.args.place.now.id c.requires.open.0 c.args.place.now.me c.requires.open.1)
