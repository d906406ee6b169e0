-- The first call that starts in a run has the number 0, and its record is the first one of its stripe.
use Rattle.std.proofs.Common.{arith, ◌≡◌, ◌<◌, ◌==◌, ◌⊎◌, inl, inr, ℕ, ℤ, Bool, true, false, List, [], ◌∷◌, ◌++◌, length, Option, Some, None, slice_get, slice_set, refl, sym, ap, subst, ◌∙◌}
use Rattle.std.proofs.lemmas.Bool.{eq-eqb, eqb-true}
use Rattle.std.proofs.lemmas.Option.{slice_get_within}
use Rattle.jtypes.specs.declared.loader.LoadAnswer.{LoadAnswer}
use Rattle.jtypes.specs.Entry.{Entry}
use Rattle.stripe.specs.declared.call.Reply.{Reply}
use Rattle.stripe.specs.History.{Call, Record, key_of, stripe_of}
use Rattle.stripe.specs.Stored.{Stored}
use Rattle.verdict.specs.Machine.{step_with}
use Rattle.world.specs.World.{World, Running, Progress, Working, Settled, Event, Start, Step, Finish, Runs, none, more, Happens, opened, history_of, stripe_in, starts_of, entries_now, progress_of, progress_after, running_call, with_progress, with_running, with_record, record_of_call, after_start, after_begin, after_step, stepped, after_finish, finished}
use Rattle.world.proofs.Places.{get_set, get_set_other}
use Rattle.world.proofs.Histories.{part_there, part_elsewhere, stripe_below}
use Rattle.history_runs.proofs.Sound.{AreFine, fine_run, none_there}
use Rattle.history_runs.proofs.Complete.{starts_after}

-- The number of the first call of a stripe, finished or running.
abbrev pub first_at : List Record → Option (Option Running) → Option ℕ
first_at (r ∷ rs) o = Some r.number
first_at [] (Some (Some r)) = Some r.number
first_at [] _ = None

-- The first call of some stripe has the number 0.
record HasFirst (w : World) : Type 0 where
  stripe : ℕ
  low : stripe < length w.opening
  is : first_at (history_of w stripe) (slice_get w.running stripe) ≡ Some 0

at_record : (rs : List Record) (r : Record) (o p : Option (Option Running)) → first_at rs o ≡ Some 0 → (first_at [] o ≡ Some 0 → r.number ≡ 0) → first_at (rs ++ r ∷ []) p ≡ Some 0
at_record [] r o p e same = ap Some (same e)
at_record (x ∷ xs) r o p e same = e

at_running : (rs : List Record) (o p : Option (Option Running)) → first_at rs o ≡ Some 0 → (first_at [] o ≡ Some 0 → first_at [] p ≡ Some 0) → first_at rs p ≡ Some 0
at_running [] o p e same = same e
at_running (x ∷ xs) o p e same = e

either_equal : (x y : ℕ) → (x ≡ y) ⊎ (¬ (x ≡ y))
either_equal x y = by (x == y) refl
  where
    by : (b : Bool) → (x == y) ≡ b → (x ≡ y) ⊎ (¬ (x ≡ y))
    by true e = inl (eqb-true x y e)
    by false e = inr (λ q. let f : true ≡ false = sym (eq-eqb x y q) ∙ e in absurd cc)

module _ (gives : ℤ → LoadAnswer → Type 0) (loads : Bool) (opening : List Stored) (w : World) (fine : AreFine gives loads opening w) (h : HasFirst w) where
  -- Another running call on stripe `j`, with the same number if one ran there.
  first_with : (j : ℕ) (o : Option Running) (r : Running) → slice_get w.running j ≡ Some o → (first_at [] (Some o) ≡ Some 0 → r.number ≡ 0) → HasFirst (with_running w j (Some r))
  first_with j o r there same =
      record {
        stripe = h.stripe;
        low = h.low;
        is = elim (either_equal h.stripe j) [
          | inl at ↦ at_running (history_of w h.stripe) (slice_get w.running h.stripe) (slice_get (slice_set w.running j (Some r)) h.stripe) h.is
              (λ e. ap (first_at []) (ap (slice_get (slice_set w.running j (Some r))) at ∙ get_set w.running j (Some r) (slice_get_within w.running j o there)) ∙ ap Some (same (ap (first_at []) (sym there ∙ ap (slice_get w.running) (sym at)) ∙ e)))
          | inr other ↦ ap (first_at (history_of w h.stripe)) (get_set_other w.running j h.stripe (Some r) other) ∙ h.is
        ];
      }

  first_record : (j : ℕ) (r : Running) (reply : Reply) (after : Entry) (asked : Option LoadAnswer) → slice_get w.running j ≡ Some (Some r) → HasFirst (with_record w j (record_of_call r reply after asked))
  first_record j r reply after asked there =
      let made : Record = record_of_call r reply after asked in
      let own : stripe_of (length w.opening) (key_of r.call) ≡ j = (fine.running j r there).stripe in
      let running : List (Option Running) = slice_set w.running j None in
      record {
        stripe = h.stripe;
        low = h.low;
        is = elim (either_equal h.stripe j) [
          | inl at ↦ ap (λ rs. first_at rs (slice_get running h.stripe)) (part_there (length w.opening) h.stripe w.finished made (own ∙ sym at))
              ∙ at_record (history_of w h.stripe) made (slice_get w.running h.stripe) (slice_get running h.stripe) h.is (λ e. let f : Some r.number ≡ Some 0 = ap (first_at []) (sym there ∙ ap (slice_get w.running) (sym at)) ∙ e in cc f)
          | inr other ↦ ap (λ rs. first_at rs (slice_get running h.stripe)) (part_elsewhere (length w.opening) h.stripe w.finished made (λ q. other (sym q ∙ own)))
              ∙ ap (first_at (history_of w h.stripe)) (get_set_other w.running j h.stripe None other) ∙ h.is
        ];
      }

  first_start : (a : LoadAnswer) (caller : ℕ) (call : Call) (o : Option (Option Running)) → slice_get w.running (stripe_in w call) ≡ o → HasFirst (after_start a w caller call o)
  first_start a caller call None e = h
  first_start a caller call (Some (Some r)) e = h
  first_start a caller call (Some None) e = by (progress_of w.loads a (entries_now w (key_of call)) call)
    where
      by : (p : Option Progress) → HasFirst (after_begin w caller call p)
      by None = h
      by (Some p) = first_with (stripe_in w call) None (running_call caller (starts_of w caller) call p) e (λ q. absurd cc)

  first_step : (a : LoadAnswer) (j : ℕ) (o : Option (Option Running)) → slice_get w.running j ≡ o → HasFirst (after_step a w j o)
  first_step a j None e = h
  first_step a j (Some None) e = h
  first_step a j (Some (Some r)) e = by r.progress
    where
      by : (p : Progress) → HasFirst (stepped a w j r p)
      by (Settled reply after asked) = h
      by (Working c s) = first_with j (Some r) (with_progress r (progress_after c s (step_with c a s))) e (λ q. cc q)

  first_finish : (j : ℕ) (o : Option (Option Running)) → slice_get w.running j ≡ o → HasFirst (after_finish w j o)
  first_finish j None e = h
  first_finish j (Some None) e = h
  first_finish j (Some (Some r)) e = by r.progress
    where
      by : (p : Progress) → HasFirst (finished w j r p)
      by (Working c s) = h
      by (Settled reply after asked) = first_record j r reply after asked e

  first_event : (e : Event) (u : World) → Happens gives w e u → HasFirst u
  first_event (Start caller call) u (a, may, is) = subst HasFirst (sym is) (first_start a caller call (slice_get w.running (stripe_in w call)) refl)
  first_event (Step j) u (a, may, is) = subst HasFirst (sym is) (first_step a j (slice_get w.running j) refl)
  first_event (Finish j) u (a, may, is) = subst HasFirst (sym is) (first_finish j (slice_get w.running j) refl)

module _ (gives : ℤ → LoadAnswer → Type 0) (loads : Bool) (opening : List Stored) (journal : ℕ) (least : 0 < length opening) where
  abbrev new : World
  new = opened loads opening journal

  abbrev Begun : World → Type 0
  Begun w = (w ≡ new) ⊎ HasFirst w

  begun_start : (a : LoadAnswer) (caller : ℕ) (call : Call) (o : Option (Option Running)) → slice_get new.running (stripe_in new call) ≡ o → Begun (after_start a new caller call o)
  begun_start a caller call None e = inl refl
  begun_start a caller call (Some (Some r)) e = inl refl
  begun_start a caller call (Some None) e = by (progress_of loads a (entries_now new (key_of call)) call)
    where
      by : (p : Option Progress) → Begun (after_begin new caller call p)
      by None = inl refl
      by (Some p) =
          inr (record {
            stripe = stripe_in new call;
            low = stripe_below (length opening) (key_of call) least;
            is = ap (first_at []) (get_set new.running (stripe_in new call) (Some (running_call caller (starts_of new caller) call p)) (slice_get_within new.running (stripe_in new call) None e))
                ∙ ap Some (starts_after loads gives opening journal least [] caller);
          })

  begun_step : (a : LoadAnswer) (j : ℕ) (o : Option (Option Running)) → slice_get new.running j ≡ o → Begun (after_step a new j o)
  begun_step a j None e = inl refl
  begun_step a j (Some None) e = inl refl
  begun_step a j (Some (Some r)) e = absurd (none_there (length opening) j r e)

  begun_finish : (j : ℕ) (o : Option (Option Running)) → slice_get new.running j ≡ o → Begun (after_finish new j o)
  begun_finish j None e = inl refl
  begun_finish j (Some None) e = inl refl
  begun_finish j (Some (Some r)) e = absurd (none_there (length opening) j r e)

  begun_event : (e : Event) (u : World) → Happens gives new e u → Begun u
  begun_event (Start caller call) u (a, may, is) = subst Begun (sym is) (begun_start a caller call (slice_get new.running (stripe_in new call)) refl)
  begun_event (Step j) u (a, may, is) = subst Begun (sym is) (begun_step a j (slice_get new.running j) refl)
  begun_event (Finish j) u (a, may, is) = subst Begun (sym is) (begun_finish j (slice_get new.running j) refl)

  begun_run : (events : List Event) (v : World) → Runs gives new events v → Begun v
  begun_run events v none = inl refl
  begun_run events v (more {events = before} {v = u} e runs happens) =
      elim (begun_run before u runs) [
        | inl same ↦ begun_event e v (subst (λ x. Happens gives x e v) same happens)
        | inr h ↦ inr (first_event gives loads opening u (fine_run gives loads opening journal before u runs) h e v happens)
      ]

  -- Where each stripe has a record, some stripe's first record has the number 0.
  pub first_is_zero : (events : List Event) (w : World) → Runs gives new events w → ((i : ℕ) → i < length opening → 0 < length (history_of w i)) → (i : ℕ) × (i < length opening) × ((o : Option (Option Running)) → first_at (history_of w i) o ≡ Some 0)
  first_is_zero events w runs busy =
      elim (begun_run events w runs) [
        | inl same ↦ let e : length (history_of w 0) ≡ 0 = ap (λ (x : World). length (history_of x 0)) same in absurd (omega (arith, e, busy 0 least))
        | inr h ↦ let low : h.stripe < length opening = subst (λ (ts : List Stored). h.stripe < length ts) (fine_run gives loads opening journal events w runs).opening_is h.low in
            (h.stripe, low, λ o. settled (history_of w h.stripe) (slice_get w.running h.stripe) o (busy h.stripe low) h.is)
      ]
    where
      settled : (rs : List Record) (o p : Option (Option Running)) → 0 < length rs → first_at rs o ≡ Some 0 → first_at rs p ≡ Some 0
      settled [] o p lt e = absurd (omega (arith, lt))
      settled (r ∷ rs) o p lt e = e
