use Rattle.std.proofs.Common.{◌∙◌}
use Rattle.cache.proofs.steps.take.Goals as goal

pub returns-then-try_take-clause-taken : goal.returns-then-try_take-clause-taken
returns-then-try_take-clause-taken g c = λ made p is. c.try_take.ensures.taken c.if-try_take.true made p is

pub returns-then-try_take-2-clause-taken : goal.returns-then-try_take-2-clause-taken
returns-then-try_take-2-clause-taken g c = λ made p is. c.try_take-in-loop.ensures.taken c.if-try_take-2.true made p (c.loop.invariant.1 ∙ c.try_take.ensures.left c.if-try_take.false ∙ is)
