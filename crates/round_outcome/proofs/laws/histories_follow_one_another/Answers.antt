use Rattle.round_outcome.proofs.Handed.{histories_follow}
use Rattle.round_outcome.proofs.laws.histories_follow_one_another.Goals as goal

pub returns : goal.returns
returns g c = histories_follow g.L.Loader.ASKS (g.L.Loader.gives c.args._loader.now)
