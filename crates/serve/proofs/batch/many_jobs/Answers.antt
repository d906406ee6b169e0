use Rattle.std.proofs.Common.{◌≡◌, ◌<◌, ◌≤◌, ◌+◌, ◌++◌, ℕ, List, ℤ, OnOk, length, sym, ap, ◌∙◌, subst, arith}
use Rattle.std.proofs.lemmas.List.{length-map}
use Rattle.stripe.specs.History as call
use Rattle.invokeall.specs.Collected.{different, invocations}
use Rattle.invokeall.specs.Jobs.{all_seen}
use Rattle.wire.specs.declared.reply.Denial.TheVariants.{TooManyJobs}
use Rattle.serve.specs.declared.batch.Work.TheVariants as planned
use Rattle.serve.specs.Rounds.{Part, part, JobForEach, most_jobs}
use Rattle.serve.specs.Kept.{Grows, calls_of}
use Rattle.serve.proofs.Plans.{as_many_calls, has_room, lacks_room, grows_jobs, grows_told, of_ok, grown}
use Rattle.serve.proofs.batch.many_jobs.Goals.{then-at-gt-MOST_JOBS-via-then-at-gt-MOST_JOBS, then-at-gt-MOST_JOBS-via-else-at-gt-MOST_JOBS+then-len-at}
use Rattle.serve.proofs.batch.many_jobs.Goals as goal

pub returns-then-at-gt-MOST_JOBS : goal.returns-then-at-gt-MOST_JOBS
returns-then-at-gt-MOST_JOBS c =
    let old = c.args.plan.now in
    let at : ℕ = length (calls_of old) in
    let there = as_many_calls old in
    let x = c.args.class.now in
    let keys : List ℤ = different c.args.keys.now in
    let q : Part = part (JobForEach at keys) (invocations x c.args.args.now keys) in
    let calls : length (invocations x c.args.args.now keys) ≡ length keys = length-map keys (λ k. call.Invoke x k c.args.args.now) in
    let many : length c.in_ok-set.set.keys ≡ length keys = ap (λ (l : List ℤ). length l) c.in_ok-set.ensures in
    let past : most_jobs < at + length q.calls = elim c.then-at-gt-MOST_JOBS.branch [
      | then-at-gt-MOST_JOBS-via-then-at-gt-MOST_JOBS w ↦ omega (arith, w.if-at-gt-MOST_JOBS.true, c.len-at.ensures, old.calls.ok.0, there, calls)
      | then-at-gt-MOST_JOBS-via-else-at-gt-MOST_JOBS+then-len-at w ↦ omega (arith, w.if-at-gt-MOST_JOBS.false, w.if-len-at.true, w.len.ensures.len, c.len-at.ensures, old.calls.ok.0, there, calls, many)
    ] in
    subst (λ (p : Part). OnOk c.tell.result (Grows old c.tell.new.plan p)) (sym (lacks_room at q past))
    (grows_told c.tell.result old c.tell.new.plan (planned.Denied TooManyJobs) c.tell.ensures.works c.tell.ensures.calls)

pub returns : goal.returns
returns c =
    let old = c.args.plan.now in
    let new = c.tell-2.new.plan in
    let at : ℕ = length (calls_of old) in
    let x = c.args.class.now in
    let args = c.args.args.now in
    let keys : List ℤ = different c.args.keys.now in
    let q : Part = part (JobForEach at keys) (invocations x args keys) in
    let calls : length (invocations x args keys) ≡ length keys = length-map keys (λ k. call.Invoke x k args) in
    let same : c.in_ok-set.set.keys ≡ keys = c.in_ok-set.ensures in
    let many : length c.in_ok-set.set.keys ≡ length keys = ap (λ (l : List ℤ). length l) same in
    let here : c.len-at.result ≡ at = omega (arith, c.len-at.ensures, old.calls.ok.0, as_many_calls old) in
    let fits : at + length q.calls ≤ most_jobs = omega (arith, c.if-at-gt-MOST_JOBS.false, c.if-len-at.false, c.len.ensures.len, here, calls, many) in
    let listed : c.in_ok-items.items.now ≡ keys = c.in_ok-items.ensures ∙ c.as_slice.ensures.keys ∙ same in
    let pushed = of_ok c.push_calls.result c.in_ok-push_calls.field-0 c.in_ok-push_calls.was c.push_calls.ensures in
    let more : calls_of new ≡ calls_of old ++ invocations x args keys =
    ap (λ v. all_seen v.items) c.tell-2.ensures.calls ∙ ap (λ v. all_seen v.items) c.add_cost.ensures.calls ∙ pushed ∙ ap (λ a. calls_of old ++ invocations x a c.in_ok-items.items.now) c.in_ok-kept.ensures ∙ ap (λ l. calls_of old ++ invocations x args l) listed in
    subst (λ (p : Part). OnOk c.tell-2.result (Grows old new p)) (sym (has_room at q fits))
    (grows_jobs c.tell-2.result old new _ q (grown c.tell-2.result _ _ _ _ c.add_cost.ensures.works c.tell-2.ensures.works) (ap (λ n. JobForEach n c.in_ok-items.items.now) here ∙ ap (λ l. JobForEach at l) listed) more)
