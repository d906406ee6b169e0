use Rattle.soundness.proofs.OtherSignature.{signed_is_plain}
use Rattle.soundness.proofs.laws.signatures_have_no_top.Goals as goal

pub returns : goal.returns
returns c = signed_is_plain
