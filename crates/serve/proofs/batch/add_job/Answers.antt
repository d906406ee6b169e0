use Rattle.std.proofs.Common.{◌≡◌, ◌∷◌, [], ℕ, length, ap, ◌∙◌, arith}
use Rattle.stripe.specs.Seen.{call_of as seen_call}
use Rattle.serve.specs.declared.batch.Work.TheVariants as planned
use Rattle.serve.specs.Rounds.{part, Job}
use Rattle.serve.specs.Kept.{calls_of}
use Rattle.serve.proofs.Plans.{as_many_calls, grows_jobs, grown, one_more_call}
use Rattle.serve.proofs.batch.add_job.Goals as goal

pub returns : goal.returns
returns c =
    let old = c.args.plan.now in
    let new = c.tell.new.plan in
    let at : ℕ = length (calls_of old) in
    let here : c.len-at.result ≡ at = omega (arith, c.len-at.ensures, old.calls.ok.0, as_many_calls old) in
    let items = ap (λ v. v.items) c.tell.ensures.calls ∙ ap (λ v. v.items) c.add_cost.ensures.calls ∙ c.in_ok-push.ensures.items in
    grows_jobs c.tell.result old new (planned.Job c.len-at.result) (part (Job at) (seen_call c.args.call ∷ [])) (grown c.tell.result _ _ _ _ c.add_cost.ensures.works c.tell.ensures.works) (ap Job here) (one_more_call old.calls.items new.calls.items c.args.call items)
