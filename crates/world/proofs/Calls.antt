-- The progress of calls.
use Rattle.std.proofs.Common.{arith, ◌≡◌, ℕ, zero, suc, ◌≤◌, ℤ, Bool, true, false, not, ◌⊎◌, inl, inr, List, Option, Some, None, is_some, option_map, option_and_then, refl, sym, ap, subst, ◌∙◌, true≢false}
use Rattle.jtypes.specs.declared.types.Arg.{Arg}
use Rattle.jtypes.specs.Entry.{Entry, effect, after_effect}
use Rattle.jtypes.specs.Lists.{◌>>=◌}
use Rattle.jtypes.specs.declared.loader.LoadAnswer.{LoadAnswer}
use Rattle.typecheck.specs.Typing.{Class, Method, number_of_process}
use Rattle.verdict.specs.Machine.{Invocation, State, Final, Goes, Ends, start, start_of, step_with}
use Rattle.verdict.specs.Meaning.{Means}
use Rattle.soundness.proofs.Answered.{state_after}
use Rattle.soundness.proofs.OneMeaning.{one_meaning}
use Rattle.std.specs.List.{slice_get}
use Rattle.interpreter.specs.declared.machine.Machine.{Machine}
use Rattle.ended.specs.declared.done.Done.{Done}
use Rattle.ended.specs.Ended.{IsFinal}
use Rattle.stripe.specs.declared.call.Reply.{Reply}
use Rattle.stripe.specs.declared.call.Reply.TheVariants as reply
use Rattle.stripe.specs.History.{Call, Invoke, Get, Put, Remove, Contains, IsGot, Answers, invocation}
use Rattle.stripe.specs.Kept.{IsEnd, asked_by}
use Rattle.world.specs.World.{Progress, Working, Settled, Running, running_call, progress_after, answer_to}
use Rattle.world.specs.Refused.{is_working, works, is_final}
use Rattle.world.specs.Seated.{further, turned}
use Rattle.world.specs.Going.{known, state_in, got_by, progress_in, is_ended, IsUnderWay, IsGoing, ended, working, getting, putting, removing, containing}

-- ---- states, step by step

-- The step count of the first state is 0.
pub start_zero : (c : Class) (call : Invocation) (s : State) → start c call ≡ Some s → s.steps ≡ 0
start_zero c call s e = by (number_of_process c) e
  where
    inner : (j : ℕ) (o : Option Method) → option_map (λ m. start_of j m call) o ≡ Some s → s.steps ≡ 0
    inner j None e = absurd (cc)
    inner j (Some m) e = let same : start_of j m call ≡ s = cc e in sym (ap (λ (s : State). s.steps) same)

    by : (o : Option ℕ) → (o >>= λ j. option_map (λ m. start_of j m call) (slice_get c.methods j)) ≡ Some s → s.steps ≡ 0
    by None e = absurd (cc)
    by (Some j) e = inner j (slice_get c.methods j) e

pub first_state : (c : Class) (call : Invocation) (a : LoadAnswer) (s : State) → start c call ≡ Some s → state_in c call a 0 ≡ Some s
unfolding state_after
first_state c call a s e = ap (option_and_then (state_after 0 c a)) e

-- ---- a get

pub got_settled : (before : Entry) (asked : Option LoadAnswer) → is_working (got_by before asked) ≡ false
got_settled before None = refl
got_settled before (Some a) = refl

pub got_stays : (a : LoadAnswer) (before : Entry) (asked : Option LoadAnswer) → further a (got_by before asked) ≡ got_by before asked
got_stays a before None = refl
got_stays a before (Some x) = refl

pub got_answer : (before : Entry) (asked : Option LoadAnswer) → answer_to (got_by before asked) ≡ asked
got_answer before None = refl
got_answer before (Some x) = refl

-- The reply of a `get` is its progress.
got_as : (loads : Bool) (before : Entry) (r : Reply) (after : Entry) (told asked : Option LoadAnswer) → IsGot loads before r after told → told ≡ asked → got_by before asked ≡ Settled r after told
got_as true None r after told asked (x, is, says, leaves) same = ap (got_by None) (sym same ∙ is) ∙ (λ i. Settled (sym says i) (sym leaves i) (sym is i))
got_as true (Some v) r after told asked (says, leaves, none) same = ap (got_by (Some v)) (sym same ∙ none) ∙ (λ i. Settled (sym says i) (sym leaves i) (sym none i))
got_as false before r after told asked (says, leaves, none) same = ap (got_by before) (sym same ∙ none) ∙ (λ i. Settled (sym says i) (sym leaves i) (sym none i))

-- ---- the running call

module _ (loads : Bool) (before : Entry) (m : Machine) where
  pub going_some : {call : Call} {done : Option Done} {asked : Option LoadAnswer} → IsGoing loads before m call done asked → (q : Progress) × (progress_in loads before m call done asked ≡ Some q)
  going_some (ended c k args d h) = (Settled (reply.Result d.outcome) (after_effect d.effect before) d.asked, refl)
  going_some (working c k args h) = (Working c h.state, ap (option_map (λ s. Working c s)) h.is)
  going_some (getting k asked h) = (got_by before asked, refl)
  going_some (putting k v) = (Settled reply.Done (Some v) None, refl)
  going_some (removing k) = (Settled (reply.Flag (is_some before)) None None, refl)
  going_some (containing k) = (Settled (reply.Flag (is_some before)) before None, refl)

-- The running call with its progress.
abbrev pub call_in : ℕ → ℕ → Bool → Entry → Machine → Call → Option Done → Option LoadAnswer → Option Running
call_in caller number loads before m call done asked = option_map (running_call caller number call) (progress_in loads before m call done asked)

module _ (caller number : ℕ) (loads : Bool) (before : Entry) where
  pub works_going : (m : Machine) {call : Call} {done : Option Done} {asked : Option LoadAnswer} → IsGoing loads before m call done asked → works (Some (call_in caller number loads before m call done asked)) ≡ not (is_ended call done)
  works_going m (ended c k args d h) = refl
  works_going m (working c k args h) = ap (λ o. works (Some (option_map (running_call caller number (Invoke c k args)) (option_map (λ s. Working c s) o)))) h.is
  works_going m (getting k asked h) = got_settled before asked
  works_going m (putting k v) = refl
  works_going m (removing k) = refl
  works_going m (containing k) = refl

  pub final_going : (m : Machine) {call : Call} {done : Option Done} {asked : Option LoadAnswer} → IsGoing loads before m call done asked → is_final (Some (call_in caller number loads before m call done asked)) ≡ is_ended call done
  final_going m (ended c k args d h) = refl
  final_going m (working c k args h) = ap (λ o. is_final (Some (option_map (running_call caller number (Invoke c k args)) (option_map (λ s. Working c s) o)))) h.is
  final_going m (getting k asked h) = ap not (got_settled before asked)
  final_going m (putting k v) = refl
  final_going m (removing k) = refl
  final_going m (containing k) = refl

  pub turned_ended : (a : LoadAnswer) (m : Machine) {call : Call} {done : Option Done} {asked : Option LoadAnswer} → IsGoing loads before m call done asked → is_ended call done ≡ true
      → turned a (call_in caller number loads before m call done asked) ≡ call_in caller number loads before m call done asked
  turned_ended a m (ended c k args d h) e = refl
  turned_ended a m (working c k args h) e = absurd (true≢false (sym e))
  turned_ended a m (getting k asked h) e = ap (λ q. Some (running_call caller number (Get k) q)) (got_stays a before asked)
  turned_ended a m (putting k v) e = refl
  turned_ended a m (removing k) e = refl
  turned_ended a m (containing k) e = refl

  -- A step gives the next state or an end.
  pub turned_goes : (c : Class) (k : ℤ) (args : List Arg) (m new : Machine) (h : IsUnderWay c (invocation loads k args before) m) (a : LoadAnswer) (t : State) → step_with c a h.state ≡ Some (Goes t)
      → state_in c (invocation loads k args before) (known new.entry.now.asked) new.steps ≡ Some t
      → turned a (call_in caller number loads before m (Invoke c k args) None None) ≡ call_in caller number loads before new (Invoke c k args) None None
  turned_goes c k args m new h a t goes is =
      ap (λ o. turned a (option_map (running_call caller number (Invoke c k args)) (option_map (λ s. Working c s) o))) h.is
      ∙ ap (λ n. Some (running_call caller number (Invoke c k args) (progress_after c h.state n))) goes
      ∙ sym (ap (λ o. option_map (running_call caller number (Invoke c k args)) (option_map (λ s. Working c s) o)) is)

  pub turned_ends : (c : Class) (k : ℤ) (args : List Arg) (m new : Machine) (h : IsUnderWay c (invocation loads k args before) m) (d : Done) (a : LoadAnswer) (f : Final) → step_with c a h.state ≡ Some (Ends f) → IsFinal d before f
      → ((b now : Entry) → after_effect (effect b now) b ≡ now)
      → turned a (call_in caller number loads before m (Invoke c k args) None None) ≡ call_in caller number loads before new (Invoke c k args) (Some d) None
  turned_ends c k args m new h d a f ends told leads =
      let entry : f.entry ≡ after_effect d.effect before = sym (ap (λ x. after_effect x before) told.effect ∙ leads before f.entry) in
      ap (λ o. turned a (option_map (running_call caller number (Invoke c k args)) (option_map (λ s. Working c s) o))) h.is
      ∙ ap (λ n. Some (running_call caller number (Invoke c k args) (progress_after c h.state n))) ends
      ∙ (λ i. Some (running_call caller number (Invoke c k args) (Settled (reply.Result (sym told.outcome i)) (entry i) (sym told.asked i))))

-- A final call has an end.
pub going_end : (loads : Bool) (before : Entry) (m : Machine) {call : Call} {done : Option Done} {asked : Option LoadAnswer} → IsGoing loads before m call done asked → is_ended call done ≡ true → IsEnd loads before call done asked
going_end loads before m (ended c k args d h) e = h
going_end loads before m (working c k args h) e = absurd (true≢false (sym e))
going_end loads before m (getting k asked h) e = h
going_end loads before m (putting k v) e = tt
going_end loads before m (removing k) e = tt
going_end loads before m (containing k) e = tt

-- The record of a final call is its progress.
module _ (loads : Bool) (before : Entry) (m : Machine) (r : Reply) (after : Entry) (told : Option LoadAnswer) (leads : (b now : Entry) → after_effect (effect b now) b ≡ now) where
  settled_as : (x : Reply) (e : Entry) (a : Option LoadAnswer) → x ≡ r → e ≡ after → a ≡ told → Some (Settled x e a) ≡ Some (Settled r after told)
  settled_as x e a p q s = λ i. Some (Settled (p i) (q i) (s i))

  pub ended_progress : {call : Call} {done : Option Done} {asked : Option LoadAnswer} → IsGoing loads before m call done asked → is_ended call done ≡ true → Answers loads before call r after told → told ≡ asked_by done asked
      → progress_in loads before m call done asked ≡ Some (Settled r after told)
  ended_progress (ended c k args d h) e answers same =
      let asked : h.final.asked ≡ answers.0.asked = sym h.told.asked ∙ sym same ∙ answers.4 in
      let one : h.final ≡ answers.0 = one_meaning c (invocation loads k args before) h.final answers.0 h.means answers.1 asked in
      settled_as (reply.Result d.outcome) (after_effect d.effect before) d.asked (ap reply.Result (h.told.outcome ∙ ap (λ (f : Final). f.outcome) one) ∙ sym answers.2)
      (ap (λ x. after_effect x before) h.told.effect ∙ leads before h.final.entry ∙ ap (λ (f : Final). f.entry) one ∙ sym answers.3)
      (sym same)
  ended_progress (working c k args h) e answers same = absurd (true≢false (sym e))
  ended_progress (getting k asked h) e answers same = ap Some (got_as loads before r after told asked answers same)
  ended_progress (putting k v) e answers same = settled_as reply.Done (Some v) None (sym answers.0) (sym answers.1) (sym answers.2)
  ended_progress (removing k) e answers same = settled_as (reply.Flag (is_some before)) None None (sym answers.0) (sym answers.1) (sym answers.2)
  ended_progress (containing k) e answers same = settled_as (reply.Flag (is_some before)) before None (sym answers.0) (sym answers.1) (sym answers.2)
