use Rattle.spec_examples.proofs.laws.first_profile_refuses.Goals as goal
use Rattle.spec_examples.proofs.FirstRefuses.{refuses_switch, refuses_more_steps}

pub returns-clause-switch : goal.returns-clause-switch
returns-clause-switch c = refuses_switch

pub returns-clause-steps : goal.returns-clause-steps
returns-clause-steps c = refuses_more_steps
