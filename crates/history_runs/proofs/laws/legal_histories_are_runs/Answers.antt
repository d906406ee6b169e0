use Rattle.history_runs.proofs.Complete.{legal_are_runs}
use Rattle.history_runs.proofs.laws.legal_histories_are_runs.Goals as goal

pub returns : goal.returns
returns g c = legal_are_runs g.L.Loader.ASKS (g.L.Loader.gives c.args._loader.now)
