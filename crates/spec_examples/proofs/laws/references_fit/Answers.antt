use Rattle.spec_examples.proofs.laws.references_fit.Goals as goal
use Rattle.spec_examples.proofs.Fit.{passed_fits, fits_assignable}

pub returns-clause-casts : goal.returns-clause-casts
returns-clause-casts c = passed_fits

pub returns-clause-assignments : goal.returns-clause-assignments
returns-clause-assignments c = fits_assignable
