use Rattle.loop_soundness.proofs.KeptClasses.{accepted_is_kept, accepted_keeps_bounds}
use Rattle.loop_soundness.proofs.ForwardClasses.{forward_is_accepted}
use Rattle.loop_soundness.proofs.laws.third_profile_is_kept.Goals as goal

pub returns-clause-accepted : goal.returns-clause-accepted
returns-clause-accepted c = accepted_is_kept

pub returns-clause-bounds : goal.returns-clause-bounds
returns-clause-bounds c = accepted_keeps_bounds

pub returns-clause-forward : goal.returns-clause-forward
returns-clause-forward c = forward_is_accepted
