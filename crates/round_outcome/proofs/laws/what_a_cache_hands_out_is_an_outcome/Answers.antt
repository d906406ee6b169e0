use Rattle.round_outcome.proofs.Handed.{caches_hand_out_histories}
use Rattle.round_outcome.proofs.laws.what_a_cache_hands_out_is_an_outcome.Goals as goal

pub returns : goal.returns
returns g c = caches_hand_out_histories _ g.L.Loader.ASKS (g.L.Loader.gives c.args._loader.now)
