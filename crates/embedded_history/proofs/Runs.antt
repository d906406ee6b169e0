-- Calls that are run, and calls that aren't, by their answers.
use Rattle.std.proofs.Common.{arith, ◌≡◌, ℕ, ◌≤◌, ◌<◌, ◌⊎◌, inl, inr, nat_le, Bool, true, false, List, length, Option, Some, None, refl, sym, ap, ◌∙◌, subst, le-leb, leb-true}
use Rattle.jtypes.specs.declared.types.Arg.{Arg}
use Rattle.jtypes.specs.declared.types.Arg.TheVariants.{Null, Long, Integer, Boolean}
use Rattle.jtypes.specs.declared.types.Outcome.{Outcome}
use Rattle.jtypes.specs.declared.types.Outcome.TheVariants.{Returned, Threw}
use Rattle.typecheck.specs.Typing.{Class}
use Rattle.verdict.specs.Machine.{Invocation, Final}
use Rattle.soundness.proofs.OneMeaning.{one_meaning, means_unasked}
use Rattle.ended.specs.declared.done.Done.{Done}
use Rattle.ended.specs.Ended.{IsFinal, IsMeant}
use Rattle.embedded.specs.declared.numbers.CallNumbers.{CallNumbers}
use Rattle.embedded.specs.declared.numbers.DoneNumbers.{DoneNumbers}
use Rattle.embedded.specs.Classes.{class_at}
use Rattle.embedded.specs.Numbers.{args_in, before_in, invocation_in, outcome_in, done_in, not_run}
use Rattle.embedded.specs.Answers.{IsEnd, reason_of}
use Rattle.embedded_history.specs.Conversation.{Turn, HasAnswer, entry_by, IsRunOf, IsNotRun}
use Rattle.embedded_history.specs.Statements.{AnswersAreDetermined, CallsThatAreNotRun, CallsThatAreRun}

-- ---- whether a call is run

abbrev pub Ran : Turn → Type 0
Ran t = ((c : Class) × (args : List Arg) × IsRunOf t c args) ⊎ IsNotRun t

pub ran : (t : Turn) → Ran t
ran t = by (class_at t.classes t.call.number) refl (nat_le (length t.args) 8) refl (args_in t.args) refl
  where
    by : (class : Option Class) → class_at t.classes t.call.number ≡ class → (few : Bool) → nat_le (length t.args) 8 ≡ few → (args : Option (List Arg)) → args_in t.args ≡ args → Ran t
    by None is few f args a = inr (λ c xs h. let e : Some c ≡ None = sym h.class ∙ is in absurd cc)
    by (Some c) is false f args a = inr (λ d xs h. let e : true ≡ false = sym (le-leb (length t.args) 8 h.few) ∙ f in absurd cc)
    by (Some c) is true f None a = inr (λ d xs h. let e : Some xs ≡ None = sym h.valid ∙ a in absurd cc)
    by (Some c) is true f (Some xs) a = inl (c, xs, record { class = is; few = leb-true (length t.args) 8 f; valid = a })

-- ---- the answer to a call that is run

-- The end of the run whose numbers are the answer.
pub record HasEnd (t : Turn) (c : Class) (args : List Arg) : Type 0 where
  pub done : Done
  pub meant : IsMeant c (invocation_in t.call args) done
  pub is : t.answer ≡ done_in (before_in t.call) done

pub end_of : (t : Turn) (c : Class) (args : List Arg) → HasAnswer t → IsRunOf t c args → HasEnd t c args
end_of t c args h run =
    let few : nat_le (length t.args) 8 ≡ true = le-leb (length t.args) 8 run.few in
    let there : IsEnd (Some c) true (Some args) t.call t.answer =
    subst (λ (x : Option Class). IsEnd x true (Some args) t.call t.answer) run.class
    (subst (λ (b : Bool). IsEnd (class_at t.classes t.call.number) b (Some args) t.call t.answer) few
    (subst (λ (o : Option (List Arg)). IsEnd (class_at t.classes t.call.number) (nat_le (length t.args) 8) o t.call t.answer) run.valid h)) in
    record { done = there.0; meant = there.1; is = there.2 }

run_outcome : (o : Outcome) → ((outcome_in o).0 < 4) ⊎ ((outcome_in o).0 ≡ 7)
run_outcome (Returned Null) = inl (omega arith)
run_outcome (Returned (Long x)) = inl (omega arith)
run_outcome (Returned (Integer x)) = inl (omega arith)
run_outcome (Returned (Boolean true)) = inr refl
run_outcome (Returned (Boolean false)) = inr refl
run_outcome (Threw fault) = inl (omega arith)

pub calls_that_are_run : CallsThatAreRun
calls_that_are_run t c args h run =
    let e = end_of t c args h run in
    subst (λ (n : ℕ). (n < 4) ⊎ (n ≡ 7)) (sym (ap (λ (d : DoneNumbers). d.outcome) e.is)) (run_outcome e.done.outcome)

-- ---- the answer to a call that isn't run

refused : (t : Turn) → HasAnswer t → IsNotRun t → t.answer ≡ not_run (reason_of (class_at t.classes t.call.number) (nat_le (length t.args) 8))
refused t h none = by (class_at t.classes t.call.number) refl (nat_le (length t.args) 8) refl (args_in t.args) refl h
  where
    by : (class : Option Class) → class_at t.classes t.call.number ≡ class → (few : Bool) → nat_le (length t.args) 8 ≡ few → (args : Option (List Arg)) → args_in t.args ≡ args
        → IsEnd class few args t.call t.answer → t.answer ≡ not_run (reason_of class few)
    by None is few f args a e = e
    by (Some c) is false f args a e = e
    by (Some c) is true f None a e = e
    by (Some c) is true f (Some xs) a e = absurd (none c xs (record { class = is; few = leb-true (length t.args) 8 f; valid = a }))

reasons : (class : Option Class) (few : Bool) → (4 ≤ reason_of class few) × (reason_of class few ≤ 6)
reasons None few = (omega arith, omega arith)
reasons (Some c) false = (omega arith, omega arith)
reasons (Some c) true = (omega arith, omega arith)

pub calls_that_are_not_run : CallsThatAreNotRun
calls_that_are_not_run t h none =
    let is = refused t h none in
    record {
      answer = is;
      outcome = subst (λ (n : ℕ). (4 ≤ n) × (n ≤ 6)) (sym (ap (λ (d : DoneNumbers). d.outcome) is)) (reasons (class_at t.classes t.call.number) (nat_le (length t.args) 8));
      kept = λ e. ap (λ (d : DoneNumbers). entry_by d e) is;
    }

-- ---- a call has at most one answer

one_done : (c : Class) (call : Invocation) (d e : Done) → call.loads ≡ false → IsMeant c call d → IsMeant c call e → d ≡ e
one_done c call d e without h k =
    let one : h.final ≡ k.final = one_meaning c call h.final k.final h.means k.means (means_unasked c call h.final without h.means ∙ sym (means_unasked c call k.final without k.means)) in
    same d e h.final k.final one h.told k.told
  where
    same : (x y : Done) (f g : Final) → f ≡ g → IsFinal x call.before f → IsFinal y call.before g → x ≡ y
    same x y f g fg p q =
        let r : IsFinal y call.before f = subst (IsFinal y call.before) (sym fg) q in
        let outcome : x.outcome ≡ y.outcome = p.outcome ∙ sym r.outcome in
        let effect : x.effect ≡ y.effect = p.effect ∙ sym r.effect in
        let untouched : x.untouched ≡ y.untouched = p.untouched ∙ sym r.untouched in
        let asked : x.asked ≡ y.asked = p.asked ∙ sym r.asked in
        let steps : x.steps ≡ y.steps = p.steps ∙ sym r.steps in
        let words : x.words ≡ y.words = p.words ∙ sym r.words in
        λ i. record { outcome = outcome i; effect = effect i; untouched = untouched i; asked = asked i; steps = steps i; words = words i }

one_end : (class : Option Class) (few : Bool) (args : Option (List Arg)) (call : CallNumbers) (d e : DoneNumbers) → IsEnd class few args call d → IsEnd class few args call e → d ≡ e
one_end None few args call d e h k = h ∙ sym k
one_end (Some c) false args call d e h k = h ∙ sym k
one_end (Some c) true None call d e h k = h ∙ sym k
one_end (Some c) true (Some xs) call d e h k =
    h.2 ∙ ap (done_in (before_in call)) (one_done c (invocation_in call xs) h.0 k.0 refl h.1 k.1) ∙ sym k.2

pub answers_are_determined : AnswersAreDetermined
answers_are_determined classes call args d e h k = one_end (class_at classes call.number) (nat_le (length args) 8) (args_in args) call d e h k
