use Rattle.spec_examples.proofs.laws.ordered_ends.Goals as goal
use Rattle.spec_examples.proofs.MeaningAndRanks.{ordered_not_recursive}

pub returns : goal.returns
returns c = ordered_not_recursive
