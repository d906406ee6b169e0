-- The record of a call that ended.
use Rattle.std.proofs.Common.{◌≡◌, ℤ, Bool, List, Option, Some, None, refl, sym, ap, subst, ◌∙◌}
use Rattle.jtypes.specs.Entry.{Entry, effect, after_effect}
use Rattle.jtypes.specs.declared.types.Arg.{Arg}
use Rattle.jtypes.specs.declared.loader.LoadAnswer.{LoadAnswer}
use Rattle.typecheck.specs.Typing.{Class}
use Rattle.ended.specs.declared.done.Done.{Done}
use Rattle.stripe.specs.declared.call.Reply.{Reply}
use Rattle.stripe.specs.declared.call.Reply.TheVariants.{Result}
use Rattle.stripe.specs.declared.call.OpenCall.{OpenCall}
use Rattle.stripe.specs.declared.call.Record.{Record as RecordKept}
use Rattle.stripe.specs.History.{Call, Invoke, Get, Put, Remove, Contains, Answers}
use Rattle.stripe.specs.Kept.{IsAsked, IsEnd, IsPlain, IsRecord, asked_by}
use Rattle.stripe.specs.Seen.{call_of, begun_of, record_of}

-- The result of a call: the reply, the entry that it leaves, and the loader's answer, if it was asked.
abbrev pub Told : Type 0
Told = Reply × Entry × Option LoadAnswer

abbrev pub told : OpenCall → Told → RecordKept
told b p = record { caller = b.caller; number = b.number; call = b.call; reply = p.0; after = p.1; asked = p.2 }

pub is_record : (b : OpenCall) (p q : Told) → p ≡ q → Answers b.loads b.before (call_of b.call) q.0 q.1 q.2 → IsRecord (begun_of b) b.before (record_of (told b p))
is_record b p q is answers =
    record { caller = refl; number = refl; call = refl; answers = subst (λ (x : Told). Answers b.loads b.before (call_of b.call) x.0 x.1 x.2) (sym is) answers }

-- The same for a call that is equal to the call of `b`.
pub is_record_of : (b : OpenCall) (call : Call) → call_of b.call ≡ call → (p q : Told) → p ≡ q → Answers b.loads b.before call q.0 q.1 q.2 → IsRecord (begun_of b) b.before (record_of (told b p))
is_record_of b call is p q told_is answers = is_record b p q told_is (subst (λ (x : Call). Answers b.loads b.before x q.0 q.1 q.2) (sym is) answers)

-- An invocation has no answer of the loader apart from its end.
pub unasked : (loads : Bool) (c : Class) (k : ℤ) (args : List Arg) (before : Entry) (d : Done) (asked : Option LoadAnswer) → IsEnd loads before (Invoke c k args) (Some d) asked → asked ≡ None
unasked loads c k args before d None e = refl
unasked loads c k args before d (Some a) e = absurd e

module _ (loads : Bool) (before : Entry) (call : Call) (ended : Option Done) (asked : Option LoadAnswer) (ends : IsEnd loads before call ended asked) where
  pub invocation_answers : (c : Class) (k : ℤ) (args : List Arg) (after : Entry) (d : Done) → call ≡ Invoke c k args → ended ≡ Some d
      → after ≡ after_effect d.effect before → ((b now : Entry) → after_effect (effect b now) b ≡ now) → Answers loads before (Invoke c k args) (Result d.outcome) after d.asked
  invocation_answers c k args after d is some left leads =
      let here = subst (λ (x : Call). IsEnd loads before x (Some d) asked) is (subst (λ (o : Option Done). IsEnd loads before call o asked) some ends) in
      let m = subst (λ (o : Option LoadAnswer). IsEnd loads before (Invoke c k args) (Some d) o) (unasked loads c k args before d asked here) here in
      (m.final, m.means, ap Result m.told.outcome, left ∙ ap (λ e. after_effect e before) m.told.effect ∙ leads before m.final.entry, m.told.asked)

  pub get_asked : (k : ℤ) → call ≡ Get k → IsAsked loads before asked
  get_asked k is = by ended (subst (λ (x : Call). IsEnd loads before x ended asked) is ends)
    where
      by : (o : Option Done) → IsEnd loads before (Get k) o asked → IsAsked loads before asked
      by None e = e
      by (Some d) e = absurd e

  -- The loader's answer, by the end of the call.
  pub by_get : (k : ℤ) → call ≡ Get k → asked ≡ asked_by ended asked
  by_get k is = by ended (subst (λ (x : Call). IsEnd loads before x ended asked) is ends)
    where
      by : (o : Option Done) → IsEnd loads before (Get k) o asked → asked ≡ asked_by o asked
      by None e = refl
      by (Some d) e = absurd e

plain_by : (loads : Bool) (before : Entry) (call : Call) (ended : Option Done) (asked : Option LoadAnswer) → IsPlain call → IsEnd loads before call ended asked → None ≡ asked_by ended asked
plain_by loads before (Invoke c k args) ended asked p e = absurd p
plain_by loads before (Get k) ended asked p e = absurd p
plain_by loads before (Put k v) None None p e = refl
plain_by loads before (Put k v) None (Some a) p e = absurd e
plain_by loads before (Put k v) (Some d) asked p e = absurd e
plain_by loads before (Remove k) None None p e = refl
plain_by loads before (Remove k) None (Some a) p e = absurd e
plain_by loads before (Remove k) (Some d) asked p e = absurd e
plain_by loads before (Contains k) None None p e = refl
plain_by loads before (Contains k) None (Some a) p e = absurd e
plain_by loads before (Contains k) (Some d) asked p e = absurd e

module _ (loads : Bool) (before : Entry) (call : Call) (ended : Option Done) (asked : Option LoadAnswer) (ends : IsEnd loads before call ended asked) where
  pub by_plain : (x : Call) → call ≡ x → IsPlain x → None ≡ asked_by ended asked
  by_plain x is p = plain_by loads before call ended asked (subst IsPlain (sym is) p) ends
