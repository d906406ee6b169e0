use Rattle.round_outcome.proofs.Handed.{worlds_hand_out_histories}
use Rattle.round_outcome.proofs.laws.what_a_world_hands_out_is_an_outcome.Goals as goal

pub returns : goal.returns
returns g c = worlds_hand_out_histories g.L.Loader.ASKS (g.L.Loader.gives c.args._loader.now)
