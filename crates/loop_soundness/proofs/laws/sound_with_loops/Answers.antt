use Rattle.loop_soundness.proofs.Safe.{sound_with_loops, sound_unrolled, sound_forward}
use Rattle.loop_soundness.proofs.laws.sound_with_loops.Goals as goal

pub returns-clause-covered : goal.returns-clause-covered
returns-clause-covered c = sound_with_loops

pub returns-clause-unrolled : goal.returns-clause-unrolled
returns-clause-unrolled c = sound_unrolled

pub returns-clause-forward : goal.returns-clause-forward
returns-clause-forward c = sound_forward
