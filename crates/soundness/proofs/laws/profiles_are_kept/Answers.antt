use Rattle.soundness.proofs.Profiles.{accepted_is_kept, class_goes_on, class_is_kept, bounds_are_kept, meaning_is_kept}
use Rattle.soundness.proofs.laws.profiles_are_kept.Goals as goal

pub returns-clause-accepted : goal.returns-clause-accepted
returns-clause-accepted c = accepted_is_kept

pub returns-clause-goes_on : goal.returns-clause-goes_on
returns-clause-goes_on c = class_goes_on

pub returns-clause-class : goal.returns-clause-class
returns-clause-class c = class_is_kept

pub returns-clause-bounds : goal.returns-clause-bounds
returns-clause-bounds c = bounds_are_kept

pub returns-clause-meaning : goal.returns-clause-meaning
returns-clause-meaning c = meaning_is_kept
