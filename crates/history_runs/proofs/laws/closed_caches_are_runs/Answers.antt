use Rattle.history_runs.proofs.Caches.{caches_are_settled, interleavings_are_runs, caches_are_runs}
use Rattle.history_runs.proofs.OneStripe.{one_stripe_is_run}
use Rattle.history_runs.proofs.laws.closed_caches_are_runs.Goals as goal

pub returns-clause-settled : goal.returns-clause-settled
returns-clause-settled g c = caches_are_settled _ g.L.Loader.ASKS (g.L.Loader.gives c.args._loader.now)

pub returns-clause-interleaved : goal.returns-clause-interleaved
returns-clause-interleaved g c = interleavings_are_runs g.L.Loader.ASKS (g.L.Loader.gives c.args._loader.now)

pub returns-clause-runs : goal.returns-clause-runs
returns-clause-runs g c = caches_are_runs _ g.L.Loader.ASKS (g.L.Loader.gives c.args._loader.now)

pub returns-clause-one_stripe : goal.returns-clause-one_stripe
returns-clause-one_stripe g c = one_stripe_is_run _ g.L.Loader.ASKS (g.L.Loader.gives c.args._loader.now)
