use Rattle.serve.proofs.Onward.{goes_on}
use Rattle.serve.proofs.Told.{is_told}
use Rattle.serve.proofs.laws.cut_streams_go_on.Goals as goal

pub returns-clause-goes_on : goal.returns-clause-goes_on
returns-clause-goes_on g c p = goes_on p g.L.Loader.ASKS (g.L.Loader.gives c.args._loader.now) (c.one_front.ensures.once p)

pub returns-clause-told : goal.returns-clause-told
returns-clause-told g c p = is_told p g.L.Loader.ASKS (g.L.Loader.gives c.args._loader.now) (c.one_front.ensures.once p)
