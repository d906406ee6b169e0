use Rattle.std.proofs.Common.{rules, refl, sym, ap, ◌∙◌, Some, w64}
use Rattle.std.proofs.lemmas.Int.{to_z-of_z}
use Rattle.stripe.specs.declared.call.Reply.TheVariants.{Flag}
use Rattle.stripe.specs.History.{Invoke, Get, Put, Remove, Contains}
use Rattle.stripe.specs.Kept.{asked_by}
use Rattle.stripe.specs.Rows.{arguments}
use Rattle.stripe.specs.Seen.{call_of}
use Rattle.stripe.proofs.Ends.{Told, is_record_of, invocation_answers, get_asked, by_get, by_plain}
use Rattle.stripe.proofs.call.OpenCall.record.Goals as goal
use Rattle.stripe.proofs.call.OpenCall.record.Goals.{in-Invoke+in-Some, in-Get, in-Put, in-Remove, in-Contains}

pub returns-clause-is : goal.returns-clause-is
returns-clause-is c = elim c.match-self.branch [
  | in-Invoke+in-Some w ↦
      let invoked = Invoke w.in-Invoke.class.now w.in-Invoke.key (arguments w.in-Invoke.args) in
      is_record_of c.args.self.now invoked (ap call_of w.in-Invoke.is) _ _ w.reply-is
      (invocation_answers c.args.self.now.loads c.args.self.now.before (call_of c.args.self.now.call) c.args.done c.args.asked c.requires w.in-Invoke.class.now w.in-Invoke.key (arguments w.in-Invoke.args) w.entry_after-after.result w.in-Some.done
      (ap call_of w.in-Invoke.is) w.in-Some.is w.entry_after-after.ensures c.effect_leads_from_before_to_now.ensures.leads)
  | in-Get w ↦
      is_record_of c.args.self.now (Get w.in-Get.key) (ap call_of w.in-Get.is) _ _ w.reply-is
      (w.got-reply.ensures c.args.self.now.loads (get_asked c.args.self.now.loads c.args.self.now.before (call_of c.args.self.now.call) c.args.done c.args.asked c.requires w.in-Get.key (ap call_of w.in-Get.is)))
  | in-Put w ↦ is_record_of c.args.self.now (Put w.in-Put.key w.in-Put.value) (ap call_of w.in-Put.is) _ _ w.reply-is (refl, ap Some (to_z-of_z w64 w.in-Put.value (search rules)), refl)
  | in-Remove w ↦ is_record_of c.args.self.now (Remove w.in-Remove.key) (ap call_of w.in-Remove.is) _ _ w.reply-is (ap Flag w.is_some.ensures, refl, refl)
  | in-Contains w ↦ is_record_of c.args.self.now (Contains w.in-Contains.key) (ap call_of w.in-Contains.is) _ _ w.reply-is (ap Flag w.is_some-in-Contains.ensures, refl, refl)
]

pub returns-clause-asked : goal.returns-clause-asked
returns-clause-asked c =
    let call = call_of c.args.self.now.call in
    let loads = c.args.self.now.loads in
    let before = c.args.self.now.before in
    elim c.match-self.branch [
      | in-Invoke+in-Some w ↦ ap (λ (x : Told). x.2) w.reply-is ∙ sym (ap (λ o. asked_by o c.args.asked) w.in-Some.is)
      | in-Get w ↦ ap (λ (x : Told). x.2) w.reply-is ∙ by_get loads before call c.args.done c.args.asked c.requires w.in-Get.key (ap call_of w.in-Get.is)
      | in-Put w ↦ ap (λ (x : Told). x.2) w.reply-is ∙ by_plain loads before call c.args.done c.args.asked c.requires (Put w.in-Put.key w.in-Put.value) (ap call_of w.in-Put.is) tt
      | in-Remove w ↦ ap (λ (x : Told). x.2) w.reply-is ∙ by_plain loads before call c.args.done c.args.asked c.requires (Remove w.in-Remove.key) (ap call_of w.in-Remove.is) tt
      | in-Contains w ↦ ap (λ (x : Told). x.2) w.reply-is ∙ by_plain loads before call c.args.done c.args.asked c.requires (Contains w.in-Contains.key) (ap call_of w.in-Contains.is) tt
    ]
