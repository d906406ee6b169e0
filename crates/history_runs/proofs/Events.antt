-- The events of one call: its start, its steps and its finish.
use Rattle.std.proofs.Common.{◌&&◌, ◌≡◌, ℕ, zero, suc, ℤ, Bool, true, false, List, [], ◌∷◌, ◌++◌, replicate, Option, Some, None, slice_get, slice_set, if◌then◌else◌, refl, sym, ap, subst, ◌∙◌, append_assoc}
use Rattle.std.proofs.lemmas.List.{append-nil}
use Rattle.std.proofs.lemmas.Option.{slice_get_within}
use Rattle.jtypes.specs.declared.types.Arg.{Arg}
use Rattle.jtypes.specs.declared.loader.LoadAnswer.{LoadAnswer}
use Rattle.jtypes.specs.declared.loader.LoadAnswer.TheVariants as load
use Rattle.jtypes.specs.Entry.{Entry}
use Rattle.jtypes.specs.Lists.{only_if}
use Rattle.jtypes.specs.Loading.{IsGiven}
use Rattle.typecheck.specs.Typing.{Class}
use Rattle.verdict.specs.Machine.{State, Final, Goes, Ends, start, asks, is_get_next, step_with, Reaches, here, onward}
use Rattle.verdict.specs.Meaning.{Means}
use Rattle.soundness.proofs.Answered.{unasked_before}
use Rattle.soundness.proofs.OneMeaning.{goes_after, ends_after}
use Rattle.stripe.specs.declared.call.Reply.{Reply}
use Rattle.stripe.specs.declared.call.Reply.TheVariants.{Result}
use Rattle.stripe.specs.History.{Call, Invoke, Get, Put, Remove, Contains, Record, Answers, IsGot, key_of, invocation}
use Rattle.world.specs.World.{World, Progress, Working, Settled, Event, Start, Step, Finish, Runs, none, more, Happens, MayAnswer, entries_now, stripe_in, starts_of, begun, got, progress_of, progress_after, running_call, with_running, asked_by_get, asked_at_start, asked_on, after_start, after_begin, after_step, after_finish}
use Rattle.world.specs.Refused.{is_possible, is_start_on_full, is_full, KeepsEntries, HadRoom, NoneRuns}
use Rattle.world.proofs.Places.{get_set, set_same}
use Rattle.history_runs.specs.OneByOne.{events_of}
use Rattle.history_runs.proofs.Sound.{key_kept}

-- ---- lists

set_set : {X : Type 0} (xs : List X) (i : ℕ) (x y : X) → slice_set (slice_set xs i x) i y ≡ slice_set xs i y
set_set [] i x y = refl
set_set (z ∷ xs) zero x y = refl
set_set (z ∷ xs) (suc i) x y = ap (λ vs. z ∷ vs) (set_set xs i x y)

one_more : {X : Type 0} (n : ℕ) (x : X) → replicate n x ++ x ∷ [] ≡ replicate (suc n) x
one_more zero x = refl
one_more (suc n) x = ap (λ xs. x ∷ xs) (one_more n x)

-- A run which, under this premise, has no start on a full history and keeps the entries of running calls.
abbrev pub RunsIf : Type 0 → (ℤ → LoadAnswer → Type 0) → World → List Event → World → Type 0
RunsIf Room gives w events v = (runs : Runs gives w events v) × (Room → HadRoom runs)

pub none_if : {Room : Type 0} {gives : ℤ → LoadAnswer → Type 0} {w : World} → RunsIf Room gives w [] w
none_if = (none, λ room. tt)

more_if : {Room : Type 0} {gives : ℤ → LoadAnswer → Type 0} {w v u : World} {events : List Event} (e : Event) → RunsIf Room gives w events v → Happens gives v e u → (Room → (is_start_on_full v e ≡ false) × KeepsEntries v u)
    → RunsIf Room gives w (events ++ e ∷ []) u
more_if e (runs, had) happens keeps = (more e runs happens, λ room. (had room, (keeps room).0, (keeps room).1))

pub runs_on : {Room : Type 0} {gives : ℤ → LoadAnswer → Type 0} {w v : World} (es fs : List Event) (u : World) → RunsIf Room gives w es v → RunsIf Room gives v fs u → RunsIf Room gives w (es ++ fs) u
runs_on {Room} {gives} {w} {v} es fs u first (none, had) = subst (λ xs. RunsIf Room gives w xs v) (sym (append-nil es)) first
runs_on {Room} {gives} {w} {v} es fs u first (more {events = before} {v = x} e rest happens, had) =
    subst (λ xs. RunsIf Room gives w xs u) (append_assoc es before (e ∷ []))
    (more_if e (runs_on es before x first (rest, λ room. (had room).0)) happens (λ room. ((had room).1, (had room).2)))

-- ---- the loader's answers in one step

module _ (gives : ℤ → LoadAnswer → Type 0) (k : ℤ) (c : Class) (t : State) (a : LoadAnswer) where
  -- If the loader gives the answer that is recorded after a step, it gives the one before, and the one that the step asks for.
  abbrev IsGivenBefore : Bool → Type 0
  IsGivenBefore b = IsGiven gives k t.now.asked × MayAnswer gives a (only_if b (Some t.call.key))

  before_by : (b : Bool) → asks c t ≡ b → t.call.key ≡ k → IsGiven gives k (if b then Some a else t.now.asked) → IsGivenBefore b
  before_by true is same given = (
    subst (IsGiven gives k) (sym (unasked_before t.call.loads t.call.before t.now (is_get_next c t.activations) is)) tt,
    subst (λ x. gives x a) (sym same) given,
  )
  before_by false is same given = (given, tt)

  before_goes : (u : State) → step_with c a t ≡ Some (Goes u) → t.call.key ≡ k → IsGiven gives k u.now.asked → IsGivenBefore (asks c t)
  before_goes u e same given = before_by (asks c t) refl same (subst (IsGiven gives k) (goes_after c t u a (asks c t) e) given)

  before_ends : (f : Final) → step_with c a t ≡ Some (Ends f) → t.call.key ≡ k → IsGiven gives k f.asked → IsGivenBefore (asks c t)
  before_ends f e same given = before_by (asks c t) refl same (subst (IsGiven gives k) (ends_after c t f a (asks c t) e) given)

-- The start of a `get`, with the loader's answer.
record GetStarts (gives : ℤ → LoadAnswer → Type 0) (loads : Bool) (before : Entry) (k : ℤ) (reply : Reply) (after : Entry) (asked : Option LoadAnswer) : Type 0 where
  answer : LoadAnswer
  is : got loads answer before ≡ Settled reply after asked
  may : MayAnswer gives answer (asked_by_get loads before (Get k))

settled_as : (x r : Reply) (e after : Entry) (a told : Option LoadAnswer) → r ≡ x → after ≡ e → told ≡ a → Settled x e a ≡ Settled r after told
settled_as x r e after a told p q s = λ i. Settled (sym p i) (sym q i) (sym s i)

get_starts : (gives : ℤ → LoadAnswer → Type 0) (loads : Bool) (before : Entry) (k : ℤ) (reply : Reply) (after : Entry) (asked : Option LoadAnswer) → IsGot loads before reply after asked → IsGiven gives k asked → GetStarts gives loads before k reply after asked
get_starts gives true None k reply after asked (a, is, says, leaves) given = record { answer = a; is = settled_as _ reply _ after _ asked says leaves is; may = subst (IsGiven gives k) is given }
get_starts gives true (Some v) k reply after asked (says, leaves, is) given = record { answer = load.None; is = settled_as _ reply _ after _ asked says leaves is; may = tt }
get_starts gives false before k reply after asked (says, leaves, is) given = record { answer = load.None; is = settled_as _ reply _ after _ asked says leaves is; may = tt }

-- ---- one call

possible_on_full : (b full : Bool) → full ≡ false → (b && full) ≡ false
possible_on_full true full e = e
possible_on_full false full e = refl

-- From a world with no running call, with `Room` for a record on stripe `i`.
module _ (Room : Type 0) (gives : ℤ → LoadAnswer → Type 0) (w : World) (i : ℕ) (quiet : NoneRuns w) (free : Room → is_full w i ≡ false) (idle : slice_get w.running i ≡ Some None) (caller : ℕ) (call : Call) (at : stripe_in w call ≡ i) where
  abbrev busy : Progress → World
  busy p = with_running w i (Some (running_call caller (starts_of w caller) call p))

  runs_there : (p : Progress) → slice_get (busy p).running i ≡ Some (Some (running_call caller (starts_of w caller) call p))
  runs_there p = get_set w.running i _ (slice_get_within w.running i None idle)

  started : (a : LoadAnswer) (p : Progress) → MayAnswer gives a (asked_by_get w.loads (entries_now w (key_of call)) call) → progress_of w.loads a (entries_now w (key_of call)) call ≡ Some p → Happens gives w (Start caller call) (busy p)
  started a p may is =
      let free : slice_get w.running (stripe_in w call) ≡ Some None = ap (slice_get w.running) at ∙ idle in (
        a,
        subst (MayAnswer gives a) (sym (ap (asked_at_start w call) free)) may,
        sym (ap (after_start a w caller call) free ∙ ap (after_begin w caller call) is ∙ ap (λ n. with_running w n (Some (running_call caller (starts_of w caller) call p))) at),
      )

  turned : (c : Class) (s : State) (a : LoadAnswer) → MayAnswer gives a (only_if (asks c s) (Some s.call.key)) → Happens gives (busy (Working c s)) (Step i) (busy (progress_after c s (step_with c a s)))
  turned c s a may = (
    a,
    subst (MayAnswer gives a) (sym (ap asked_on (runs_there (Working c s)))) may,
    sym (ap (after_step a (busy (Working c s)) i) (runs_there (Working c s)) ∙ ap (λ rs. record w { running = rs }) (set_set w.running i _ _)),
  )

  -- The record of the call, with the world's number.
  abbrev made : Reply → Entry → Option LoadAnswer → Record
  made reply after asked = record { caller = caller; number = starts_of w caller; call = call; reply = reply; after = after; asked = asked }

  abbrev ended : Record → World
  ended r = record w { finished = w.finished ++ r ∷ [] }

  done : (reply : Reply) (after : Entry) (asked : Option LoadAnswer) → Happens gives (busy (Settled reply after asked)) (Finish i) (ended (made reply after asked))
  done reply after asked = (
    load.None,
    tt,
    sym (ap (after_finish (busy (Settled reply after asked)) i) (runs_there (Settled reply after asked))
        ∙ ap (λ rs. record w { running = rs; finished = w.finished ++ made reply after asked ∷ [] }) (set_set w.running i _ None ∙ set_same w.running i None idle)),
  )

  -- The steps of an invocation to a state that it reaches.
  steps_to : (k : ℤ) (args : List Arg) (before : Entry) (c : Class) (begin s : State) → start c (invocation w.loads k args before) ≡ Some begin → Reaches c begin s → IsGiven gives k s.now.asked
      → (steps : ℕ) × RunsIf Room gives (busy (Working c begin)) (replicate steps (Step i)) (busy (Working c s))
  steps_to k args before c begin last starts here given = (0, none_if)
  steps_to k args before c begin last starts (onward {t = t} a reached e) given =
      let both = before_goes gives k c t a last e (key_kept gives w.loads before c k args begin t starts reached) given in
      let (steps, runs) = steps_to k args before c begin t starts reached both.0 in (
        suc steps,
        subst (λ es. RunsIf Room gives (busy (Working c begin)) es (busy (Working c last))) (one_more steps (Step i))
            (more_if (Step i) runs (subst (λ o. Happens gives (busy (Working c t)) (Step i) (busy (progress_after c t o))) e (turned c t a both.1)) (λ room. (refl, λ j a b. refl))),
      )

  -- The steps of an invocation to its end.
  steps_all : (k : ℤ) (args : List Arg) (before : Entry) (c : Class) (f : Final) (m : Means c (invocation w.loads k args before) f) → IsGiven gives k f.asked
      → (steps : ℕ) × RunsIf Room gives (busy (Working c m.begin)) (replicate steps (Step i)) (busy (Settled (Result f.outcome) f.entry f.asked))
  steps_all k args before c f m given =
      let both = before_ends gives k c m.last m.answer f m.ends (key_kept gives w.loads before c k args m.begin m.last m.starts m.reached) given in
      let (steps, runs) = steps_to k args before c m.begin m.last m.starts m.reached both.0 in (
        suc steps,
        subst (λ es. RunsIf Room gives (busy (Working c m.begin)) es (busy (Settled (Result f.outcome) f.entry f.asked))) (one_more steps (Step i))
            (more_if (Step i) runs (subst (λ o. Happens gives (busy (Working c m.last)) (Step i) (busy (progress_after c m.last o))) m.ends (turned c m.last m.answer both.1)) (λ room. (refl, λ j a b. refl))),
      )

  begins : (a : LoadAnswer) (p : Progress) → MayAnswer gives a (asked_by_get w.loads (entries_now w (key_of call)) call) → progress_of w.loads a (entries_now w (key_of call)) call ≡ Some p → RunsIf Room gives w (Start caller call ∷ []) (busy p)
  begins a p may is =
      more_if (Start caller call) none_if (started a p may is)
      (λ room. (possible_on_full (is_possible w (Start caller call)) (is_full w (stripe_in w call)) (ap (is_full w) at ∙ free room), λ k old new. refl))

  -- The start of a call and its steps, to its answer.
  abbrev Reach : Reply → Entry → Option LoadAnswer → Type 0
  Reach reply after asked = (steps : ℕ) × RunsIf Room gives w (Start caller call ∷ replicate steps (Step i)) (busy (Settled reply after asked))

  at_once : (a : LoadAnswer) (reply : Reply) (after : Entry) (asked : Option LoadAnswer) → MayAnswer gives a (asked_by_get w.loads (entries_now w (key_of call)) call) → progress_of w.loads a (entries_now w (key_of call)) call ≡ Some (Settled reply after asked) → Reach reply after asked
  at_once a reply after asked may is = (0, begins a (Settled reply after asked) may is)

  finish : (reply : Reply) (after : Entry) (asked : Option LoadAnswer) → Reach reply after asked → (steps : ℕ) × RunsIf Room gives w (Start caller call ∷ replicate steps (Step i) ++ Finish i ∷ []) (ended (made reply after asked))
  finish reply after asked (steps, runs) = (steps, more_if (Finish i) runs (done reply after asked) (λ room. (refl, λ k old new. absurd (quiet new.stripe new.running new.there))))

module _ (Room : Type 0) (gives : ℤ → LoadAnswer → Type 0) (w : World) (i : ℕ) (quiet : NoneRuns w) (free : Room → is_full w i ≡ false) (idle : slice_get w.running i ≡ Some None) (caller : ℕ) where
  reach : (call : Call) (at : stripe_in w call ≡ i) (reply : Reply) (after : Entry) (asked : Option LoadAnswer) → Answers w.loads (entries_now w (key_of call)) call reply after asked → IsGiven gives (key_of call) asked
      → Reach Room gives w i quiet free idle caller call at reply after asked
  reach (Invoke c k args) at reply after asked (f, means, says, leaves, is) given =
      let (steps, runs) = steps_all Room gives w i quiet free idle caller (Invoke c k args) at k args (entries_now w k) c f means (subst (IsGiven gives k) is given) in
      let same : Settled (Result f.outcome) f.entry f.asked ≡ Settled reply after asked = settled_as _ reply _ after _ asked says leaves is in (
        steps,
        subst (λ p. RunsIf Room gives w (Start caller (Invoke c k args) ∷ replicate steps (Step i)) (busy Room gives w i quiet free idle caller (Invoke c k args) at p)) same
            (runs_on (Start caller (Invoke c k args) ∷ []) (replicate steps (Step i)) _
            (begins Room gives w i quiet free idle caller (Invoke c k args) at load.None (Working c means.begin) tt (ap (begun c) means.starts)) runs),
      )
  reach (Get k) at reply after asked answers given =
      let s = get_starts gives w.loads (entries_now w k) k reply after asked answers given in
      at_once Room gives w i quiet free idle caller (Get k) at s.answer reply after asked s.may (ap Some s.is)
  reach (Put k v) at reply after asked (says, leaves, is) given = at_once Room gives w i quiet free idle caller (Put k v) at load.None reply after asked tt (ap Some (settled_as _ reply _ after _ asked says leaves is))
  reach (Remove k) at reply after asked (says, leaves, is) given = at_once Room gives w i quiet free idle caller (Remove k) at load.None reply after asked tt (ap Some (settled_as _ reply _ after _ asked says leaves is))
  reach (Contains k) at reply after asked (says, leaves, is) given = at_once Room gives w i quiet free idle caller (Contains k) at load.None reply after asked tt (ap Some (settled_as _ reply _ after _ asked says leaves is))

-- The events of a call on an idle stripe lead to the world with its record.
pub call_runs : (Room : Type 0) (gives : ℤ → LoadAnswer → Type 0) (w : World) (i : ℕ) (r : Record) → NoneRuns w → (Room → is_full w i ≡ false) → slice_get w.running i ≡ Some None → stripe_in w r.call ≡ i → Answers w.loads (entries_now w (key_of r.call)) r.call r.reply r.after r.asked
    → IsGiven gives (key_of r.call) r.asked → r.number ≡ starts_of w r.caller → (steps : ℕ) × RunsIf Room gives w (events_of i steps r) (record w { finished = w.finished ++ r ∷ [] })
call_runs Room gives w i r quiet free idle at answers given number =
    let (steps, runs) = finish Room gives w i quiet free idle r.caller r.call at r.reply r.after r.asked (reach Room gives w i quiet free idle r.caller r.call at r.reply r.after r.asked answers given) in (
      steps,
      subst (λ n. RunsIf Room gives w (events_of i steps r) (record w { finished = w.finished ++ record r { number = n } ∷ [] })) (sym number) runs,
    )
