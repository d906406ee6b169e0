use Rattle.embedded.specs.Answers.{of_accepted, of_refused}
use Rattle.embedded.proofs.answers.define.Goals as goal

pub returns-in-Ok-clause-verdict : goal.returns-in-Ok-clause-verdict
returns-in-Ok-clause-verdict c = of_accepted c.in-Ok.defined c.in-Ok.ensures.defined c.accepted.ensures

pub returns-in-Err-clause-verdict : goal.returns-in-Err-clause-verdict
returns-in-Err-clause-verdict c = of_refused c.in-Err.refusal c.in-Err.ensures.refused c.in-Err.ensures.unchanged c.refused.ensures
