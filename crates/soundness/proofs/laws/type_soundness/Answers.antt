use Rattle.soundness.proofs.SafeRuns.{type_soundness}
use Rattle.soundness.proofs.TypedMethods.{accepted_is_safe}
use Rattle.soundness.proofs.laws.type_soundness.Goals as goal

pub returns-clause-bytes : goal.returns-clause-bytes
returns-clause-bytes c = accepted_is_safe

pub returns-clause-classes : goal.returns-clause-classes
returns-clause-classes c = type_soundness
