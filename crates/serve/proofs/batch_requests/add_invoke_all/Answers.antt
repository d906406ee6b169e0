use Rattle.std.proofs.Common.{ℕ, length, refl}
use Rattle.invokeall.specs.Collected.{different}
use Rattle.wire.specs.Requests.{InvokeAll}
use Rattle.wire.specs.declared.reply.Denial.TheVariants.{UnknownClass}
use Rattle.serve.specs.declared.batch.Work.TheVariants as planned
use Rattle.serve.specs.Rounds.{each}
use Rattle.serve.specs.Kept.{classes_of, calls_of}
use Rattle.serve.proofs.Plans.{adds_jobs, adds_told, invoke_all_known, invoke_all_unknown}
use Rattle.serve.proofs.batch_requests.add_invoke_all.Goals as goal

pub returns-in-Some : goal.returns-in-Some
returns-in-Some c =
    let classes = classes_of c.args.ids.now in
    let keys = c.args.keys.now in
    let at : ℕ = length (calls_of c.args.plan.now) in
    let x = c.in-Some.class.now in
    adds_jobs c.many_jobs.result classes c.args.plan.now c.many_jobs.new.plan (InvokeAll c.args.class keys c.args.args.now) (InvokeAll c.args.class keys c.args.args.now) (each at (different keys) c.args.args.now x) refl c.many_jobs.ensures
    (invoke_all_known classes at c.args.class keys c.args.args.now x c.in-Some.ensures.some)

pub returns-in-None : goal.returns-in-None
returns-in-None c =
    let classes = classes_of c.args.ids.now in
    let keys = c.args.keys.now in
    let at : ℕ = length (calls_of c.args.plan.now) in
    adds_told c.tell.result classes classes c.args.plan.now c.tell.new.plan (InvokeAll c.args.class keys c.args.args.now) (InvokeAll c.args.class keys c.args.args.now) (planned.Denied UnknownClass) refl c.tell.ensures.works c.tell.ensures.calls
    (invoke_all_unknown classes at c.args.class keys c.args.args.now c.in-None.ensures.none)
