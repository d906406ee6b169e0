-- A reachable state is the result of a number of steps, with any answer that agrees with the recorded one.
use Rattle.std.proofs.Common.{◌≡◌, ℕ, zero, suc, Bool, true, false, not, ◌&&◌, Option, Some, None, refl, sym, ap, ◌∙◌, subst}
use Rattle.std.specs.Prelude.{option_and_then, if◌then◌else◌, is_some}
use Rattle.std.proofs.lemmas.Bool.{false≢true}
use Rattle.jtypes.specs.declared.loader.LoadAnswer.{LoadAnswer}
use Rattle.jtypes.specs.Loading.{EntryNow, may_ask}
use Rattle.jtypes.specs.Entry.{Entry}
use Rattle.typecheck.specs.Typing.{Class}
use Rattle.verdict.specs.Machine.{State, Next, Goes, step, asks, is_get_next, after_load, step_with, Reaches, here, onward}
use Rattle.soundness.specs.Counting.{asked_after}

abbrev on : Option Next → Option State
on (Some (Goes t)) = Some t
on _ = None

-- The state after a number of steps, in which the loader answers `a` if it is asked.
unfoldable pub state_after : ℕ → Class → LoadAnswer → State → Option State
state_after zero c a s = Some s
state_after (suc n) c a s = option_and_then (λ t. on (step_with c a t)) (state_after n c a s)

-- `Agrees` holds if the recorded answer, if there is one, is `a`.
abbrev pub Agrees : LoadAnswer → Option LoadAnswer → Type 0
Agrees a o = (x : LoadAnswer) → o ≡ Some x → x ≡ a

-- A state that asks the loader has no recorded answer.
pub unasked_before : (loads : Bool) (before : Entry) (h : EntryNow) (get : Bool) → (may_ask loads before h && get) ≡ true → h.asked ≡ None
unasked_before loads before h get e = go loads (not (is_some before)) h.untouched h.asked get e
  where
    go : (x y z : Bool) (o : Option LoadAnswer) (get : Bool) → ((x && (y && (z && not (is_some o)))) && get) ≡ true → o ≡ None
    go x y z None get e = refl
    go false y z (Some a) get e = absurd (false≢true e)
    go true false z (Some a) get e = absurd (false≢true e)
    go true true false (Some a) get e = absurd (false≢true e)
    go true true true (Some a) get e = absurd (false≢true e)

-- The step is the same with another answer that agrees with the one recorded after it.
pub same_step : (c : Class) (t s : State) (a b : LoadAnswer) (asked : Bool) → asks c t ≡ asked → step_with c b t ≡ Some (Goes s) → s.now.asked ≡ asked_after c b t → Agrees a s.now.asked
    → (step_with c a t ≡ Some (Goes s)) × Agrees a t.now.asked
same_step c t s a b true is e known ok =
    let told : s.now.asked ≡ Some b = known ∙ ap (λ x. if x then Some b else t.now.asked) is in
    let same : b ≡ a = ok b told in
    let first : t.now.asked ≡ None = unasked_before t.call.loads t.call.before t.now (is_get_next c t.activations) is in
    (subst (λ x. step_with c x t ≡ Some (Goes s)) same e, λ x f. cc (first, f))
same_step c t s a b false is e known ok =
    let plain : (x : LoadAnswer) → step_with c x t ≡ step c t = λ x. ap (λ y. if y then after_load c t x else step c t) is in
    let kept : s.now.asked ≡ t.now.asked = known ∙ ap (λ y. if y then Some b else t.now.asked) is in
    (plain a ∙ sym (plain b) ∙ e, λ x f. ok x (kept ∙ f))

module _ (c : Class) (begin : State) (none : begin.steps ≡ 0) (counts : (t u : State) (b : LoadAnswer) → Reaches c begin t → step_with c b t ≡ Some (Goes u) → (u.steps ≡ suc t.steps) × (u.now.asked ≡ asked_after c b t) × (u.call ≡ t.call)) where
  pub counted : (s : State) (a : LoadAnswer) → Reaches c begin s → Agrees a s.now.asked → state_after s.steps c a begin ≡ Some s
  unfolding state_after
  counted s a here ok = ap (λ n. state_after n c a begin) none
  counted s a (onward {t} b r e) ok =
      let k = counts t s b r e in
      let same = same_step c t s a b (asks c t) refl e k.1 ok in
      ap (λ n. state_after n c a begin) k.0 ∙ ap (λ o. option_and_then (λ t. on (step_with c a t)) o) (counted t a r same.1) ∙ ap on same.0
