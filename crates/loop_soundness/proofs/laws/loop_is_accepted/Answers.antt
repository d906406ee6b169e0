use Rattle.loop_soundness.proofs.LoopAccepted as example
use Rattle.loop_soundness.proofs.laws.loop_is_accepted.Goals as goal

pub returns : goal.returns
returns c = example.loop_is_accepted
