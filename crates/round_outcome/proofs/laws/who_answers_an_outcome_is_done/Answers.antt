use Rattle.round_outcome.proofs.Handed.{rounds_are_done}
use Rattle.round_outcome.proofs.laws.who_answers_an_outcome_is_done.Goals as goal

pub returns : goal.returns
returns g c = rounds_are_done g.L.Loader.ASKS (g.L.Loader.gives c.args._loader.now)
