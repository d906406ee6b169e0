use Rattle.loop_soundness.proofs.AcceptedBounds.{accepted_is_safe, accepted_has_bounds}
use Rattle.loop_soundness.proofs.AcceptedClasses.{accepted_is_checked}
use Rattle.loop_soundness.proofs.ListedClasses.{listed_is_accepted}
use Rattle.loop_soundness.proofs.laws.accepted_with_loops.Goals as goal

pub returns-clause-safe : goal.returns-clause-safe
returns-clause-safe c = accepted_is_safe

pub returns-clause-bounds : goal.returns-clause-bounds
returns-clause-bounds c = accepted_has_bounds

pub returns-clause-checked : goal.returns-clause-checked
returns-clause-checked c = accepted_is_checked

pub returns-clause-listed : goal.returns-clause-listed
returns-clause-listed c = listed_is_accepted
