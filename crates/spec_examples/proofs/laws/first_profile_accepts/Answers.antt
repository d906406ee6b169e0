use Rattle.spec_examples.proofs.laws.first_profile_accepts.Goals as goal
use Rattle.spec_examples.proofs.FirstAccepts.{accepts_small}

pub returns : goal.returns
returns c = accepts_small
