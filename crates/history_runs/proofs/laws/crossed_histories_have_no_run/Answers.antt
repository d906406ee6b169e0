use Rattle.history_runs.proofs.Crossed.{crossed_histories}
use Rattle.history_runs.proofs.laws.crossed_histories_have_no_run.Goals as goal

pub returns : goal.returns
returns g c = crossed_histories _ g.L.Loader.ASKS (g.L.Loader.gives c.args._loader.now)
