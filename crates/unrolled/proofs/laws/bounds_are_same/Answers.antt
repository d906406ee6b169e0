use Rattle.unrolled.proofs.SameBounds.{bounds_are_same, bounds_are_kept}
use Rattle.unrolled.proofs.laws.bounds_are_same.Goals as goal

pub returns-clause-same : goal.returns-clause-same
returns-clause-same c = bounds_are_same

pub returns-clause-kept : goal.returns-clause-kept
returns-clause-kept c = bounds_are_kept
