use Rattle.soundness.proofs.ExampleClass.{is_checked, are_bounds, is_safe}
use Rattle.soundness.proofs.laws.example_is_checked.Goals as goal

pub returns-clause-checked : goal.returns-clause-checked
returns-clause-checked c = is_checked

pub returns-clause-bounds : goal.returns-clause-bounds
returns-clause-bounds c = are_bounds

pub returns-clause-safe : goal.returns-clause-safe
returns-clause-safe c = is_safe
