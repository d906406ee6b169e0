use Rattle.std.proofs.Common.{arith}
use Rattle.cache.proofs.steps.hold_within.Goals as goal

pub take_within-requires-clause-idle : goal.take_within-requires-clause-idle
take_within-requires-clause-idle g c =
    let h = c.requires.known in
    record { made = h.0; part = h.1; is = c.leave.ensures.left h.0 h.1 h.2 }

pub returns-clause-known : goal.returns-clause-known
returns-clause-known g c = λ made p known.
    let board = c.requires.board in
    (omega (arith, c.requires.index, board.words, board.slots), c.take_within.ensures.taken c.if-not-take_within.false made p (c.leave.ensures.left made p known))
