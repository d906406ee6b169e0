use Rattle.std.proofs.Common.{◌≡◌, sym, ap, ◌∙◌, subst}
use Rattle.cache.specs.Opened.{Sitting}
use Rattle.invokeall.specs.declared.worker.Worker.{Worker}
use Rattle.invokeall.specs.Jobs.{all_seen}
use Rattle.invokeall.specs.Workers.{HasAnswered}
use Rattle.invokeall.proofs.worker.work_within.Goals.{then-first-calls+else-not-hold_within, else-first-calls}
use Rattle.invokeall.proofs.worker.work_within.Goals as goal

-- The lock of a stripe changes no answer, whether the group has a stripe or not.
pub returns-clause-made : goal.returns-clause-made
returns-clause-made g c = λ made v before h.
    let w : Worker = c.args.worker.now in
    let same : c.if-first-calls.worker ≡ w = elim c.if-first-calls.branch [
      | then-first-calls+else-not-hold_within b ↦ b.worker-is ∙ ap (λ (s : Sitting). record w { seat = s }) b.hold_within.ensures
      | else-first-calls b ↦ b.worker-is
    ] in
    c.work_on.ensures.answered v before (subst (λ (x : Worker). HasAnswered g.L.Loader.ASKS c.args.task.now.cache.now (all_seen c.args.task.now.calls.now) v x before) (sym same) h)
