-- The effect of an event on a world, from its effect on a seat.
use Rattle.std.proofs.Common.{◌≡◌, ◌↔◌, ℕ, ℤ, Bool, true, false, not, ◌&&◌, cond, ◌==◌, IsTrue, length, map, Option, Some, None, is_some, IsSome, slice_get, slice_set, refl, sym, ap, subst, ◌∙◌, true≢false}
use Rattle.std.proofs.lemmas.Bool.{eq-eqb, eqb-true}
use Rattle.std.specs.FinMap as map
use Rattle.std.specs.Option.{option_flatten}
use Rattle.jtypes.specs.Entry.{Entry}
use Rattle.stripe.specs.declared.refusal.BeginRefusal.{BeginRefusal}
use Rattle.stripe.specs.declared.refusal.BeginRefusal.TheVariants.{JournalFull, NoMemory}
use Rattle.jtypes.specs.declared.loader.LoadAnswer.{LoadAnswer}
use Rattle.jtypes.specs.declared.loader.LoadAnswer.TheVariants as load
use Rattle.stripe.specs.History.{Call, Invoke, Get, Put, Remove, Contains, Record, key_of, stripe_of}
use Rattle.stripe.specs.Kept.{IsOf, entry_of, may_make, is_absent}
use Rattle.world.specs.declared.event.Applied.{Applied}
use Rattle.world.specs.declared.event.Applied.TheVariants.{Done, Ignored, Refused}
use Rattle.world.specs.World as definition
use Rattle.world.specs.World.{World, Running, Progress, Working, Settled, Start, Step, Finish, entries_now, history_of, stripe_in, starts_of, running_call, with_running, with_record, with_progress, record_of_call, progress_of, after_start, after_begin, after_step, stepped, after_finish, finished, apply, asked_by_get, asked_at_start, asked_in, asked_on, MayAnswer, Happens}
use Rattle.world.specs.Seated.{Seated, Starts, Turns, IsEnded, further, turned}
use Rattle.world.specs.Refused.{works, is_final, is_idle, is_working, is_possible, is_start_on_full, is_start_on_absent, IsApplied}
use Rattle.world.specs.Inside.{Parts, running_on, world_of, IsAt, IsSteady}
use Rattle.world.proofs.Places.{map_get, set_same}

-- ---- tests

some_busy : (o : Option Running) → IsSome o → is_idle (Some o) ≡ false
some_busy None e = absurd (true≢false (sym e))
some_busy (Some r) e = refl

busy_some : (o : Option Running) → is_idle (Some o) ≡ false → IsSome o
busy_some None e = absurd (true≢false e)
busy_some (Some r) e = refl

not_some : (o : Option Running) → ¬ IsSome o → o ≡ None
not_some None e = refl
not_some (Some r) e = absurd (e refl)

full_true : (o : Option Running) (n m : ℕ) → o ≡ None → n ≡ m → (is_idle (Some o) && (n == m)) ≡ true
full_true None n m e same = eq-eqb n m same
full_true (Some r) n m e same = absurd (cc)

true_full : (o : Option Running) (n m : ℕ) → (is_idle (Some o) && (n == m)) ≡ true → (o ≡ None) × (n ≡ m)
true_full None n m e = (refl, eqb-true n m e)
true_full (Some r) n m e = absurd (true≢false (sym e))

-- ---- a start

module _ (p : Parts) (h : IsSteady p) (i : ℕ) (x : Seated) (there : slice_get p.seats i ≡ Some x) (caller : ℕ) (call : Call) (place : i ≡ stripe_of (length p.opening) (key_of call)) where
  start_at : IsAt (world_of p) i x
  start_at = h.seats i x there

  pub of_stripe : IsOf x.stripe (key_of call)
  of_stripe = ap (λ n. stripe_of n (key_of call)) start_at.stripes ∙ sym place ∙ sym start_at.place

  found : slice_get (world_of p).running (stripe_in (world_of p) call) ≡ Some x.running
  found = ap (slice_get (map running_on p.seats)) (sym place) ∙ map_get running_on p.seats i x there

  entry_is : entry_of x.stripe (key_of call) ≡ entries_now (world_of p) (key_of call)
  entry_is = start_at.left (key_of call) of_stripe

  -- The start event asks for the key that the `get` asks for.
  asked_is : x.running ≡ None → asked_in (world_of p) (Start caller call) ≡ asked_by_get p.loads (entry_of x.stripe (key_of call)) call
  asked_is none = ap (asked_at_start (world_of p) call) (found ∙ ap Some none) ∙ ap (λ e. asked_by_get p.loads e call) (sym entry_is)

  pub start_done : (gives : ℤ → LoadAnswer → Type 0) (number : ℕ) (y : Seated) → x.running ≡ None → Starts gives x (record { caller = caller; number = number; call = call; loads = p.loads }) y → number ≡ starts_of (world_of p) caller
      → Happens gives (world_of p) (Start caller call) (with_running (world_of p) i y.running)
  start_done gives number y none (a, may, is, given) same =
      let idle : slice_get (world_of p).running (stripe_in (world_of p) call) ≡ Some None = found ∙ ap Some none in
      let goes : progress_of p.loads a (entries_now (world_of p) (key_of call)) call ≡ Some is.progress = ap (λ e. progress_of p.loads a e call) (sym entry_is) ∙ is.is in
      let at : with_running (world_of p) i y.running ≡ with_running (world_of p) (stripe_in (world_of p) call) (Some (running_call caller (starts_of (world_of p) caller) call is.progress)) =
      ap (with_running (world_of p) i) (is.running ∙ ap (λ n. Some (running_call caller n call is.progress)) same)
      ∙ ap (λ j. with_running (world_of p) j (Some (running_call caller (starts_of (world_of p) caller) call is.progress))) place in
      (a, subst (MayAnswer gives a) (sym (asked_is none)) may, at ∙ sym (ap (after_start a (world_of p) caller call) idle ∙ ap (after_begin (world_of p) caller call) goes))

  some_progress : (a b : LoadAnswer) (before : Entry) (c : Call) → IsSome (progress_of p.loads a before c) → IsSome (progress_of p.loads b before c)
  some_progress a b before (Invoke c k args) h = h
  some_progress a b before (Get k) h = refl
  some_progress a b before (Put k v) h = refl
  some_progress a b before (Remove k) h = refl
  some_progress a b before (Contains k) h = refl

  pub start_forward : (gives : ℤ → LoadAnswer → Type 0) (number : ℕ) (y : Seated) → Starts gives x (record { caller = caller; number = number; call = call; loads = p.loads }) y
      → (b : LoadAnswer) → IsSome (progress_of p.loads b (entries_now (world_of p) (key_of call)) call)
  start_forward gives number y (a, may, is, given) b = some_progress a b (entries_now (world_of p) (key_of call)) call (ap is_some (ap (λ e. progress_of p.loads a e call) (sym entry_is) ∙ is.is))

  start_ignored : (gives : ℤ → LoadAnswer → Type 0) (new : World) → IsSome x.running → new ≡ world_of p → Happens gives (world_of p) (Start caller call) new
  start_ignored gives new s is = (
    load.None,
    subst (MayAnswer gives load.None) (sym (ap (asked_at_start (world_of p) call) found ∙ asks x.running call s)) tt,
    is ∙ sym (ap (after_start load.None (world_of p) caller call) found ∙ by x.running s),
  )
    where
      by : (o : Option Running) → IsSome o → after_start load.None (world_of p) caller call (Some o) ≡ world_of p
      by None e = absurd (true≢false (sym e))
      by (Some r) e = refl

      asks : (o : Option Running) (c : Call) → IsSome o → asked_at_start (world_of p) c (Some o) ≡ None
      asks None c e = absurd (true≢false (sym e))
      asks (Some r) c e = refl

  records_are : length x.stripe.records ≡ length (history_of (world_of p) (stripe_in (world_of p) call))
  records_are = ap length (start_at.records ∙ ap (history_of (world_of p)) place)

  absent : IsTrue (is_absent p.loads x.stripe.stored call) → (may_make p.loads call && not (is_some (entries_now (world_of p) (key_of call)))) ≡ true
  absent e = ap (λ o. may_make p.loads call && not (is_some o)) (sym entry_is) ∙ by (may_make p.loads call) (map.get x.stripe.stored (key_of call)) e
    where
      by : (b : Bool) (o : Option Entry) → (b && not (is_some o)) ≡ true → (b && not (is_some (option_flatten o))) ≡ true
      by true None e = e
      by true (Some v) e = absurd (true≢false (sym e))
      by false o e = absurd (true≢false (sym e))

  pub applied_start : (gives : ℤ → LoadAnswer → Type 0) (a : Applied) (new : World) → ((a ≡ Ignored) ↔ IsSome x.running) → ((a ≡ Refused JournalFull) ↔ ((x.running ≡ None) × (length x.stripe.records ≡ x.stripe.journal)))
      → (a ≡ Refused NoMemory → IsTrue (is_absent p.loads x.stripe.stored call)) → (¬ (a ≡ Done) → new ≡ world_of p) → (a ≡ Done → Happens gives (world_of p) (Start caller call) new)
      → IsApplied gives (world_of p) (Start caller call) a new
  applied_start gives a new ignored full memory same done =
      record {
        world = world a refl;
        same = same;
        ignored = (λ e. ap is_idle found ∙ some_busy x.running (ignored.0 e), λ e. ignored.1 (busy_some x.running (sym (ap is_idle found) ∙ e)));
        full = (λ e. on_full (full.0 e), λ e. full.1 (of_full e));
        memory = λ e. on_absent e;
      }
    where
      world : (b : Applied) → a ≡ b → ((r : BeginRefusal) → ¬ (a ≡ Refused r)) → Happens gives (world_of p) (Start caller call) new
      world Done e n = done e
      world Ignored e n = start_ignored gives new (ignored.0 e) (same (λ q. not_done (sym q ∙ e)))
        where
          not_done : Done ≡ Ignored → ⊥
          not_done q = absurd (cc)
      world (Refused r) e n = absurd (n r e)

      tests : (is_idle (slice_get (world_of p).running (stripe_in (world_of p) call)) && (length (history_of (world_of p) (stripe_in (world_of p) call)) == p.journal)) ≡ (is_idle (Some x.running) && (length x.stripe.records == x.stripe.journal))
      tests = ap (λ o. is_idle o && (length (history_of (world_of p) (stripe_in (world_of p) call)) == p.journal)) found ∙ ap (λ n. is_idle (Some x.running) && (n == p.journal)) (sym records_are) ∙ ap (λ n. is_idle (Some x.running) && (length x.stripe.records == n)) (sym start_at.journal)

      on_full : (x.running ≡ None) × (length x.stripe.records ≡ x.stripe.journal) → IsTrue (is_start_on_full (world_of p) (Start caller call))
      on_full q = tests ∙ full_true x.running (length x.stripe.records) x.stripe.journal q.0 q.1

      of_full : IsTrue (is_start_on_full (world_of p) (Start caller call)) → (x.running ≡ None) × (length x.stripe.records ≡ x.stripe.journal)
      of_full e = true_full x.running (length x.stripe.records) x.stripe.journal (sym tests ∙ e)

      on_absent : a ≡ Refused NoMemory → IsTrue (is_start_on_absent (world_of p) (Start caller call))
      on_absent e =
          let none : x.running ≡ None = not_some x.running (λ s. not_refused (sym (ignored.1 s) ∙ e)) in
          ap (λ o. is_idle o && (may_make p.loads call && not (is_some (entries_now (world_of p) (key_of call))))) (found ∙ ap Some none) ∙ absent (memory e)
        where
          not_refused : Ignored ≡ Refused NoMemory → ⊥
          not_refused q = absurd (cc)

-- ---- a step

step_settled : (w : World) (i : ℕ) (r : Running) (a : LoadAnswer) (q : Progress) → slice_get w.running i ≡ Some (Some r) → r.progress ≡ q → with_running w i (Some (with_progress r (further a q))) ≡ stepped a w i r q
step_settled w i r a (Working c s) e is = refl
step_settled w i r a (Settled reply after asked) e is =
    ap (λ rs. record w { running = rs }) (ap (λ q. slice_set w.running i (Some (with_progress r q))) (sym is) ∙ set_same w.running i (Some r) e)

step_is : (w : World) (i : ℕ) (a : LoadAnswer) (o : Option Running) → slice_get w.running i ≡ Some o → with_running w i (turned a o) ≡ after_step a w i (Some o)
step_is w i a None e = ap (λ rs. record w { running = rs }) (set_same w.running i None e)
step_is w i a (Some r) e = step_settled w i r a r.progress e refl

step_kept : (w : World) (i : ℕ) (a : LoadAnswer) (o : Option Running) → slice_get w.running i ≡ Some o → works (Some o) ≡ false → after_step a w i (Some o) ≡ w
step_kept w i a None e b = refl
step_kept w i a (Some r) e b = by r.progress b
  where
    by : (q : Progress) → is_working q ≡ false → stepped a w i r q ≡ w
    by (Working c s) t = absurd (true≢false t)
    by (Settled reply after asked) t = refl

pub applied_step : (gives : ℤ → LoadAnswer → Type 0) (w : World) (i : ℕ) (o n : Option Running) (a : Applied) (new : World) → slice_get w.running i ≡ Some o → a ≡ cond (works (Some o)) Done Ignored → Turns gives o n → new ≡ with_running w i n
    → IsApplied gives w (Step i) a new
applied_step gives w i o n a new e answer (x, may, turns) set = by (works (Some o)) refl
  where
    is : new ≡ with_running w i (turned x o)
    is = set ∙ ap (with_running w i) turns

    goes : Happens gives w (Step i) new
    goes = (x, subst (MayAnswer gives x) (sym (ap asked_on e)) may, is ∙ step_is w i x o e ∙ sym (ap (after_step x w i) e))

    by : (b : Bool) → works (Some o) ≡ b → IsApplied gives w (Step i) a new
    by true t =
        let done : a ≡ Done = answer ∙ ap (λ b. cond b Done Ignored) t in
        record {
          world = λ n. goes;
          same = λ n. absurd (n done);
          ignored = (λ q. absurd (other (sym done ∙ q)), λ q. absurd (true≢false (sym (ap works e ∙ t) ∙ q)));
          full = (λ q. absurd (other_full (sym done ∙ q)), λ q. absurd (true≢false (sym q)));
          memory = λ q. absurd (other_memory (sym done ∙ q));
        }
      where
        other : Done ≡ Ignored → ⊥
        other q = absurd (cc)

        other_full : Done ≡ Refused JournalFull → ⊥
        other_full q = absurd (cc)

        other_memory : Done ≡ Refused NoMemory → ⊥
        other_memory q = absurd (cc)
    by false t =
        let ignored : a ≡ Ignored = answer ∙ ap (λ b. cond b Done Ignored) t in
        record {
          world = λ n. goes;
          same = λ n. is ∙ step_is w i x o e ∙ step_kept w i x o e t;
          ignored = (λ q. ap works e ∙ t, λ q. ignored);
          full = (λ q. absurd (other_full (sym ignored ∙ q)), λ q. absurd (true≢false (sym q)));
          memory = λ q. absurd (other_memory (sym ignored ∙ q));
        }
      where
        other_full : Ignored ≡ Refused JournalFull → ⊥
        other_full q = absurd (cc)

        other_memory : Ignored ≡ Refused NoMemory → ⊥
        other_memory q = absurd (cc)

-- ---- a finish

pub applied_finish : (w : World) (i : ℕ) (x y : Seated) (r : Record) → slice_get w.running i ≡ Some x.running → IsEnded x r y → (with_record w i r ≡ apply load.None w (Finish i)) × (is_possible w (Finish i) ≡ true)
applied_finish w i x y r e is =
    let at : slice_get w.running i ≡ Some (Some is.running) = e ∙ ap Some is.runs in (
      ap (with_record w i) is.told ∙ sym (ap (after_finish w i) at ∙ ap (finished w i is.running) is.settled),
      ap is_final at ∙ ap (λ q. not (is_working q)) is.settled,
    )

pub kept_finish : (w : World) (i : ℕ) (o : Option Running) → slice_get w.running i ≡ Some o → is_final (Some o) ≡ false → (apply load.None w (Finish i) ≡ w) × (is_possible w (Finish i) ≡ false)
kept_finish w i o e b = (ap (after_finish w i) e ∙ by o b, ap is_final e ∙ b)
  where
    inner : (r : Running) (q : Progress) → not (is_working q) ≡ false → finished w i r q ≡ w
    inner r (Working c s) t = refl
    inner r (Settled reply after asked) t = absurd (true≢false t)

    by : (o : Option Running) → is_final (Some o) ≡ false → after_finish w i (Some o) ≡ w
    by None t = refl
    by (Some r) t = inner r r.progress t

-- ---- the results of an event

pub was_done : (gives : ℤ → LoadAnswer → Type 0) (w : World) (e : definition.Event) (new : World) → Happens gives w e new → is_possible w e ≡ true → is_start_on_full w e ≡ false → IsApplied gives w e Done new
was_done gives w e new is possible full =
    record {
      world = λ n. is;
      same = λ n. absurd (n refl);
      ignored = (λ q. absurd (other q), λ q. absurd (true≢false (sym possible ∙ q)));
      full = (λ q. absurd (other_full q), λ q. absurd (true≢false (sym q ∙ full)));
      memory = λ q. absurd (other_memory q);
    }
  where
    other : Done ≡ Ignored → ⊥
    other q = absurd (cc)

    other_full : Done ≡ Refused JournalFull → ⊥
    other_full q = absurd (cc)

    other_memory : Done ≡ Refused NoMemory → ⊥
    other_memory q = absurd (cc)

pub was_ignored : (gives : ℤ → LoadAnswer → Type 0) (w : World) (e : definition.Event) (new : World) → new ≡ w → Happens gives w e new → is_possible w e ≡ false → is_start_on_full w e ≡ false → IsApplied gives w e Ignored new
was_ignored gives w e new is happens possible full =
    record {
      world = λ n. happens;
      same = λ n. is;
      ignored = (λ q. possible, λ q. refl);
      full = (λ q. absurd (other_full q), λ q. absurd (true≢false (sym q ∙ full)));
      memory = λ q. absurd (other_memory q);
    }
  where
    other_full : Ignored ≡ Refused JournalFull → ⊥
    other_full q = absurd (cc)

    other_memory : Ignored ≡ Refused NoMemory → ⊥
    other_memory q = absurd (cc)

pub idle_running : (o : Option Running) → ¬ IsSome o → o ≡ None
idle_running o e = not_some o e
