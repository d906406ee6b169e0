use Rattle.std.proofs.Common.{ℕ, length, refl}
use Rattle.stripe.specs.History as call
use Rattle.wire.specs.Requests.{Invoke}
use Rattle.wire.specs.declared.reply.Denial.TheVariants.{UnknownClass}
use Rattle.serve.specs.declared.batch.Work.TheVariants as planned
use Rattle.serve.specs.Rounds.{one}
use Rattle.serve.specs.Kept.{classes_of, calls_of}
use Rattle.serve.proofs.Plans.{adds_jobs, adds_told, invoke_known, invoke_unknown}
use Rattle.serve.proofs.batch_requests.add_invoke.Goals as goal

pub returns-in-Some : goal.returns-in-Some
returns-in-Some c =
    let classes = classes_of c.args.ids.now in
    let at : ℕ = length (calls_of c.args.plan.now) in
    let x = c.in-Some.class.now in
    adds_jobs c.one_invocation.result classes c.args.plan.now c.one_invocation.new.plan (Invoke c.args.class c.args.key.now c.args.args.now) (Invoke c.args.class c.args.key.now c.args.args.now) (one at (call.Invoke x c.args.key.now c.args.args.now)) refl c.one_invocation.ensures
    (invoke_known classes at c.args.class c.args.key.now c.args.args.now x c.in-Some.ensures.some)

pub returns-in-None : goal.returns-in-None
returns-in-None c =
    let classes = classes_of c.args.ids.now in
    let at : ℕ = length (calls_of c.args.plan.now) in
    adds_told c.tell.result classes classes c.args.plan.now c.tell.new.plan (Invoke c.args.class c.args.key.now c.args.args.now) (Invoke c.args.class c.args.key.now c.args.args.now) (planned.Denied UnknownClass) refl c.tell.ensures.works c.tell.ensures.calls
    (invoke_unknown classes at c.args.class c.args.key.now c.args.args.now c.in-None.ensures.none)
