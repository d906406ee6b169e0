use Rattle.soundness.proofs.TypedMethods.{accepted_is_checked}
use Rattle.soundness.proofs.laws.accepted_is_checked.Goals as goal

pub returns : goal.returns
returns c = accepted_is_checked
