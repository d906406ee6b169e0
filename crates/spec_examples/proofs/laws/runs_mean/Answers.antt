use Rattle.spec_examples.proofs.laws.runs_mean.Goals as goal
use Rattle.spec_examples.proofs.MeaningAndRanks.{run_means}

pub returns : goal.returns
returns c = run_means
