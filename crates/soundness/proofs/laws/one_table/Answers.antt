use Rattle.frames.proofs.Declares.{declared_once}
use Rattle.soundness.proofs.laws.one_table.Goals as goal

pub returns : goal.returns
returns c = declared_once
