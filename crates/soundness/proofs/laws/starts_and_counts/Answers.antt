use Rattle.soundness.proofs.SafeRuns.{can_start, counts}
use Rattle.soundness.proofs.laws.starts_and_counts.Goals as goal

pub returns-clause-starts : goal.returns-clause-starts
returns-clause-starts c = can_start

pub returns-clause-counts : goal.returns-clause-counts
returns-clause-counts c = counts
