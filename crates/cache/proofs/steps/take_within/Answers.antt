use Rattle.std.proofs.Common.{◌∙◌}
use Rattle.cache.proofs.steps.take_within.Goals as goal

pub returns-then-try_take-clause-taken : goal.returns-then-try_take-clause-taken
returns-then-try_take-clause-taken g c = λ taken made p is. c.try_take.ensures.taken c.if-try_take.true made p (c.take_free.ensures.left c.if-take_free.false ∙ is)

pub returns-clause-taken : goal.returns-clause-taken
returns-clause-taken g c = λ taken made p is. c.try_take-2.ensures.taken taken made p (c.try_take.ensures.left c.if-try_take.false ∙ c.take_free.ensures.left c.if-take_free.false ∙ is)
