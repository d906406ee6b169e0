use Rattle.test_serve.proofs.OneStream.{is_served, no_other}
use Rattle.test_serve.proofs.laws.one_stream_has_one_answer.Goals as goal

pub returns-clause-served : goal.returns-clause-served
returns-clause-served g c p = is_served p (g.L.Loader.gives c.args._loader.now)

pub returns-clause-alone : goal.returns-clause-alone
returns-clause-alone g c p = no_other p (g.L.Loader.gives c.args._loader.now) (c.one_front.ensures.once p)
