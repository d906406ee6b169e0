use Rattle.std.proofs.Common.{◌∷◌, [], ℕ, OnOk, length, ap, ◌∙◌, subst, arith}
use Rattle.stripe.specs.History.{Call, Invoke}
use Rattle.serve.specs.Rounds.{part, Job}
use Rattle.serve.specs.Kept.{Grows, calls_of}
use Rattle.serve.proofs.Plans.{grows_one, denies_one}
use Rattle.serve.proofs.batch.one_invocation.Goals as goal

pub returns-then-at-ge-MOST_JOBS : goal.returns-then-at-ge-MOST_JOBS
returns-then-at-ge-MOST_JOBS c =
    let old = c.args.plan.now in
    let made : Call = Invoke c.args.class.now c.args.key.now c.args.args.now in
    denies_one c.tell.result old c.tell.new.plan made (omega (arith, c.if-at-ge-MOST_JOBS.true, c.len-at.ensures, old.calls.ok.0)) c.tell.ensures.works c.tell.ensures.calls

pub returns : goal.returns
returns c =
    let old = c.args.plan.now in
    let made : Call = Invoke c.args.class.now c.args.key.now c.args.args.now in
    let is = c.invocation.ensures ∙ ap (Invoke c.args.class.now c.args.key.now) c.in_ok-kept.ensures in
    let grows = subst (λ (x : Call). OnOk c.add_job.result (Grows old c.add_job.new.plan (part (Job (length (calls_of old))) (x ∷ [])))) is c.add_job.ensures in
    grows_one c.add_job.result old c.add_job.new.plan made (omega (arith, c.if-at-ge-MOST_JOBS.false, c.len-at.ensures, old.calls.ok.0)) grows
