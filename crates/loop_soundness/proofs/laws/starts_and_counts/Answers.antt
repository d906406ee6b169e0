use Rattle.loop_soundness.proofs.Counted.{starts, counts}
use Rattle.loop_soundness.proofs.laws.starts_and_counts.Goals as goal

pub returns-clause-starts : goal.returns-clause-starts
returns-clause-starts c = starts

pub returns-clause-counts : goal.returns-clause-counts
returns-clause-counts c = counts
