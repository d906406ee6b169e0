use Rattle.std.proofs.Common.{ℕ, List, [], OnOk, length, ap, subst}
use Rattle.stripe.specs.History.{Call}
use Rattle.stripe.specs.History as call
use Rattle.wire.specs.Requests as wanted
use Rattle.wire.specs.Requests.{with_args}
use Rattle.serve.specs.declared.batch.Work.TheVariants as planned
use Rattle.serve.specs.Rounds.{Adds, part, one, puts, gets, removes, looks, tells_version}
use Rattle.serve.specs.Kept.{Grows, classes_of, calls_of, work_of}
use Rattle.serve.proofs.Plans.{adds_jobs, adds_told}
use Rattle.serve.proofs.batch_requests.add_behind.Goals as goal

pub returns-in-Define-clause-ok : goal.returns-in-Define-clause-ok
returns-in-Define-clause-ok g c =
    let classes = classes_of c.args.ids.now.items in
    let later = classes_of c.define-work.new.ids.items in
    let at : ℕ = length (calls_of c.args.plan.now) in
    adds_told c.tell.result classes later c.args.plan.now c.tell.new.plan (with_args c.args.args.now c.args.request.now) (wanted.Define c.in-Define.bytes) c.define-work.result (ap (with_args c.args.args.now) c.in-Define.is) c.tell.ensures.works c.tell.ensures.calls
    (subst (λ (l : List ℕ). Adds classes at (wanted.Define l) (part (work_of c.define-work.result) []) later) c.as_slice.ensures (c.define-work.ensures.adds at))

pub returns-in-Put-clause-ok : goal.returns-in-Put-clause-ok
returns-in-Put-clause-ok g c =
    let classes = classes_of c.args.ids.now.items in
    adds_jobs c.push_call.result classes c.args.plan.now c.push_call.new.plan (with_args c.args.args.now c.args.request.now) (wanted.Put c.in-Put.key c.in-Put.value) (one (length (calls_of c.args.plan.now)) (call.Put c.in-Put.key c.in-Put.value)) (ap (with_args c.args.args.now) c.in-Put.is) (subst (λ (x : Call). OnOk c.push_call.result (Grows c.args.plan.now c.push_call.new.plan (one (length (calls_of c.args.plan.now)) x))) c.put.ensures c.push_call.ensures) (puts c.in-Put.key c.in-Put.value)

pub returns-in-Get-clause-ok : goal.returns-in-Get-clause-ok
returns-in-Get-clause-ok g c =
    let classes = classes_of c.args.ids.now.items in
    adds_jobs c.push_call-in-Get.result classes c.args.plan.now c.push_call-in-Get.new.plan (with_args c.args.args.now c.args.request.now) (wanted.Get c.in-Get.key) (one (length (calls_of c.args.plan.now)) (call.Get c.in-Get.key)) (ap (with_args c.args.args.now) c.in-Get.is) (subst (λ (x : Call). OnOk c.push_call-in-Get.result (Grows c.args.plan.now c.push_call-in-Get.new.plan (one (length (calls_of c.args.plan.now)) x))) c.get.ensures c.push_call-in-Get.ensures) (gets c.in-Get.key)

pub returns-in-Remove-clause-ok : goal.returns-in-Remove-clause-ok
returns-in-Remove-clause-ok g c =
    let classes = classes_of c.args.ids.now.items in
    adds_jobs c.push_call-in-Remove.result classes c.args.plan.now c.push_call-in-Remove.new.plan (with_args c.args.args.now c.args.request.now) (wanted.Remove c.in-Remove.key) (one (length (calls_of c.args.plan.now)) (call.Remove c.in-Remove.key)) (ap (with_args c.args.args.now) c.in-Remove.is) (subst (λ (x : Call). OnOk c.push_call-in-Remove.result (Grows c.args.plan.now c.push_call-in-Remove.new.plan (one (length (calls_of c.args.plan.now)) x))) c.remove.ensures c.push_call-in-Remove.ensures) (removes c.in-Remove.key)

pub returns-in-Contains-clause-ok : goal.returns-in-Contains-clause-ok
returns-in-Contains-clause-ok g c =
    let classes = classes_of c.args.ids.now.items in
    adds_jobs c.push_call-in-Contains.result classes c.args.plan.now c.push_call-in-Contains.new.plan (with_args c.args.args.now c.args.request.now) (wanted.Contains c.in-Contains.key) (one (length (calls_of c.args.plan.now)) (call.Contains c.in-Contains.key)) (ap (with_args c.args.args.now) c.in-Contains.is) (subst (λ (x : Call). OnOk c.push_call-in-Contains.result (Grows c.args.plan.now c.push_call-in-Contains.new.plan (one (length (calls_of c.args.plan.now)) x))) c.contains.ensures c.push_call-in-Contains.ensures) (looks c.in-Contains.key)

pub returns-in-Version-clause-ok : goal.returns-in-Version-clause-ok
returns-in-Version-clause-ok g c =
    let classes = classes_of c.args.ids.now.items in
    adds_told c.tell-in-Version.result classes classes c.args.plan.now c.tell-in-Version.new.plan (with_args c.args.args.now c.args.request.now) wanted.Version planned.Version (ap (with_args c.args.args.now) c.in-Version.is) c.tell-in-Version.ensures.works c.tell-in-Version.ensures.calls tells_version

pub returns-in-Forget-clause-ok : goal.returns-in-Forget-clause-ok
returns-in-Forget-clause-ok g c =
    let classes = classes_of c.args.ids.now.items in
    let later = classes_of c.forget-work.new.ids.items in
    let at : ℕ = length (calls_of c.args.plan.now) in
    adds_told c.tell-in-Forget.result classes later c.args.plan.now c.tell-in-Forget.new.plan (with_args c.args.args.now c.args.request.now) (wanted.Forget c.in-Forget.class) c.forget-work.result (ap (with_args c.args.args.now) c.in-Forget.is) c.tell-in-Forget.ensures.works c.tell-in-Forget.ensures.calls
    (c.forget-work.ensures.adds at)

pub returns-in-Forget-clause-known : goal.returns-in-Forget-clause-known
returns-in-Forget-clause-known g c = c.forget-work.ensures.known c.args.source.now.registry.now c.requires.known
