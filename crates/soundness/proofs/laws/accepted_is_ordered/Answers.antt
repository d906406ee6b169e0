use Rattle.soundness.proofs.AcceptedRanks.{accepted_has_ranks}
use Rattle.soundness.proofs.laws.accepted_is_ordered.Goals as goal

pub returns : goal.returns
returns c = accepted_has_ranks
