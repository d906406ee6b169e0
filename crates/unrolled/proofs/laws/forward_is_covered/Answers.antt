use Rattle.unrolled.proofs.Forward.{forward_is_covered}
use Rattle.unrolled.proofs.laws.forward_is_covered.Goals as goal

pub returns : goal.returns
returns c = forward_is_covered
