use Rattle.history_runs.proofs.Sound.{runs_are_legal}
use Rattle.history_runs.proofs.Local.{runs_are_interleavings}
use Rattle.history_runs.proofs.laws.runs_are_legal_histories.Goals as goal

pub returns-clause-legal : goal.returns-clause-legal
returns-clause-legal g c = runs_are_legal (g.L.Loader.gives c.args._loader.now) g.L.Loader.ASKS

pub returns-clause-stripes : goal.returns-clause-stripes
returns-clause-stripes g c = runs_are_interleavings g.L.Loader.ASKS (g.L.Loader.gives c.args._loader.now)
