use Rattle.loop_soundness.proofs.LoopChecked as example
use Rattle.loop_soundness.proofs.laws.loop_is_safe.Goals as goal

pub returns : goal.returns
returns c = example.loop_is_safe
