use Rattle.spec_examples.proofs.laws.one_meaning.Goals as goal
use Rattle.soundness.proofs.OneMeaning.{one_meaning}

pub returns : goal.returns
returns c = one_meaning
