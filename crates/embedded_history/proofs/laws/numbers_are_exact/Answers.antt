use Rattle.embedded_history.proofs.Exact.{outcomes_are_numbered, effects_are_numbered}
use Rattle.embedded_history.proofs.laws.numbers_are_exact.Goals as goal

pub returns-clause-outcomes : goal.returns-clause-outcomes
returns-clause-outcomes c = outcomes_are_numbered

pub returns-clause-effects : goal.returns-clause-effects
returns-clause-effects c = effects_are_numbered
