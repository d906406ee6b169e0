use Rattle.loop_soundness.proofs.Runs.{runs_stay_within}
use Rattle.loop_soundness.proofs.laws.runs_stay_within.Goals as goal

pub returns : goal.returns
returns c = runs_stay_within
