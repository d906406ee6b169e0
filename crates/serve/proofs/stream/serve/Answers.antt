use Rattle.std.proofs.Common.{[], sym, subst, arith}
use Rattle.std.proofs.KnownBytes.{Appends-nil, Consumes-nil}
use Rattle.stripe.specs.declared.refusal.OpenRefusal.TheVariants as refusal
use Rattle.serve.specs.declared.fault.ServeFault.{ServeFault}
use Rattle.serve.specs.Served.{EndsEarly}
use Rattle.serve.proofs.Rounds.{nothing_served}
use Rattle.serve.proofs.Begun.{no_entries, err_as}
use Rattle.serve.proofs.Ends.{all_end_early, not_count, no_error}
use Rattle.serve.proofs.stream.serve.Goals as goal

pub returns-in-Err-NoMemory-clause-cut : goal.returns-in-Err-NoMemory-clause-cut
returns-in-Err-NoMemory-clause-cut g c = ([], [], Consumes-nil _, Appends-nil _, nothing_served c.args.settings.protocol g.L.Loader.ASKS (g.L.Loader.gives c.args.loader.now))

pub returns-in_err-registry-clause-cut : goal.returns-in_err-registry-clause-cut
returns-in_err-registry-clause-cut g c = err_as c.from_residual.result c.from_residual.ensures.1 (λ e h.
    let loads = g.L.Loader.ASKS in
    let gives = g.L.Loader.gives c.args.loader.now in
    ([], [], Consumes-nil _, Appends-nil _, subst (λ (f : ServeFault). EndsEarly c.args.settings.protocol loads gives [] [] f) (sym h) (nothing_served c.args.settings.protocol loads gives)))

pub stream-requires-clause-empty : goal.stream-requires-clause-empty
stream-requires-clause-empty g c = λ lifetimes lives. no_entries c.in-Ok.tables c.args.settings.stripes c.in-Ok.ensures.ok

pub returns-clause-cut : goal.returns-clause-cut
returns-clause-cut g c = all_end_early c.args.settings.protocol g.L.Loader.ASKS (g.L.Loader.gives c.args.loader.now) c.stream.result _ _ _ _ c.stream.ensures.cut

pub returns-clause-count : goal.returns-clause-count
returns-clause-count g c = (
  λ e. absurd (not_count c.args.settings.protocol g.L.Loader.ASKS (g.L.Loader.gives c.args.loader.now) c.stream.result _ _ _ _ c.stream.ensures.cut e),
  λ n. absurd (no_error c.new.result c.in-Ok.tables refusal.BadCount c.in-Ok.is (c.new.ensures.count.1 (λ h. n (record { workers = omega (arith, c.if-workers-gt-MOST_WORKERS.false); stripes = h })))),
)

pub returns-clause-untouched : goal.returns-clause-untouched
returns-clause-untouched g c e = absurd (not_count c.args.settings.protocol g.L.Loader.ASKS (g.L.Loader.gives c.args.loader.now) c.stream.result _ _ _ _ c.stream.ensures.cut e)
