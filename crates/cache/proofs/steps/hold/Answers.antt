use Rattle.cache.proofs.steps.hold.Goals as goal

pub take-requires-clause-idle : goal.take-requires-clause-idle
take-requires-clause-idle g c =
    let h = c.requires.known in
    record { made = h.0; part = h.1; is = c.leave.ensures.left h.0 h.1 h.2 }

pub returns-clause-holds : goal.returns-clause-holds
returns-clause-holds g c = λ made p known. c.take.ensures.taken made p (c.leave.ensures.left made p known)
