use Rattle.soundness.proofs.OneClass.{one_class}
use Rattle.soundness.proofs.laws.one_class.Goals as goal

pub returns : goal.returns
returns c = one_class
