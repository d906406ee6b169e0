use Rattle.soundness.proofs.SafeRuns.{sound_without_room}
use Rattle.soundness.proofs.laws.room_is_not_needed.Goals as goal

pub returns : goal.returns
returns c = sound_without_room
