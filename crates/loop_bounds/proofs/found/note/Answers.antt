use Rattle.std.proofs.Common.{sym}
use Rattle.loop_bounds.proofs.Growth.{grows_none, numbered_at}
use Rattle.loop_bounds.proofs.found.note.Goals as goal

pub add-requires-clause-new : goal.add-requires-clause-new
add-requires-clause-new c = sym c.in-None.ensures

pub returns-in-Some-clause-grows : goal.returns-in-Some-clause-grows
returns-in-Some-clause-grows c = grows_none _ _

pub returns-in-Some-clause-number : goal.returns-in-Some-clause-number
returns-in-Some-clause-number c = numbered_at c.args.found.now.numbers c.args.found.now.points.items c.args.k c.in-Some.n c.requires.numbers (sym c.in-Some.ensures)
