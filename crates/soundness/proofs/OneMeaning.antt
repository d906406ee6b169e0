-- An invocation has at most one meaning for the loader's answer, if it was asked.
use Rattle.std.specs.Prelude.{◌≡◌, ℕ, ◌⊎◌, option_map, slice_get, Bool, true, false, ◌&&◌, Option, Some, None, if◌then◌else◌, refl}
use Rattle.std.proofs.Common.{inl, inr, sym, ap, ◌∙◌, subst}
use Rattle.jtypes.specs.declared.loader.LoadAnswer.{LoadAnswer}
use Rattle.jtypes.specs.declared.loader.LoadAnswer.TheVariants as load
use Rattle.jtypes.specs.Loading.{may_ask}
use Rattle.jtypes.specs.Lists.{◌>>=◌}
use Rattle.typecheck.specs.Typing.{Method, Class, number_of_process}
use Rattle.verdict.specs.Machine.{Invocation, State, Final, Next, Goes, Ends, start, start_of, step, asks, informed, after_load, step_with, is_get_next, Reaches, here, onward, ReachesBy, here_by, onward_by}
use Rattle.verdict.specs.Meaning.{Means}
use Rattle.soundness.specs.Counting.{asked_after}
use Rattle.soundness.proofs.Answered.{Agrees, same_step, unasked_before}
use Rattle.soundness.proofs.Keeping.{Keeps, step_keeps}

-- ---- the recorded answer after a step

goes_keeps : (s u : State) (o : Option Next) → Keeps s o → o ≡ Some (Goes u) → u.now.asked ≡ s.now.asked
goes_keeps s u o h e = let k : Keeps s (Some (Goes u)) = subst (Keeps s) e h in k.1

ends_keeps : (s : State) (f : Final) (o : Option Next) → Keeps s o → o ≡ Some (Ends f) → f.asked ≡ s.now.asked
ends_keeps s f o h e = let k : Keeps s (Some (Ends f)) = subst (Keeps s) e h in k

-- A step that asks the loader records its answer.
loaded_goes : (c : Class) (t u : State) (b : LoadAnswer) → after_load c t b ≡ Some (Goes u) → u.now.asked ≡ Some b
loaded_goes c t u load.Failed e = cc
loaded_goes c t u load.None e = goes_keeps (informed load.None t) u (step c (informed load.None t)) (step_keeps c (informed load.None t)) e
loaded_goes c t u (load.Value v) e = goes_keeps (informed (load.Value v) t) u (step c (informed (load.Value v) t)) (step_keeps c (informed (load.Value v) t)) e

loaded_ends : (c : Class) (t : State) (f : Final) (b : LoadAnswer) → after_load c t b ≡ Some (Ends f) → f.asked ≡ Some b
loaded_ends c t f load.Failed e = let k : Keeps (informed load.Failed t) (Some (Ends f)) = subst (Keeps (informed load.Failed t)) e refl in k
loaded_ends c t f load.None e = ends_keeps (informed load.None t) f (step c (informed load.None t)) (step_keeps c (informed load.None t)) e
loaded_ends c t f (load.Value v) e = ends_keeps (informed (load.Value v) t) f (step c (informed (load.Value v) t)) (step_keeps c (informed (load.Value v) t)) e

pub goes_after : (c : Class) (t u : State) (b : LoadAnswer) (y : Bool) → (if y then after_load c t b else step c t) ≡ Some (Goes u) → u.now.asked ≡ (if y then Some b else t.now.asked)
goes_after c t u b true e = loaded_goes c t u b e
goes_after c t u b false e = goes_keeps t u (step c t) (step_keeps c t) e

pub ends_after : (c : Class) (t : State) (f : Final) (b : LoadAnswer) (y : Bool) → (if y then after_load c t b else step c t) ≡ Some (Ends f) → f.asked ≡ (if y then Some b else t.now.asked)
ends_after c t f b true e = loaded_ends c t f b e
ends_after c t f b false e = ends_keeps t f (step c t) (step_keeps c t) e

-- ---- runs with the recorded answer

reached_by : (c : Class) (s t : State) (a : LoadAnswer) → Reaches c s t → Agrees a t.now.asked → ReachesBy c a s t
reached_by c s last a here ok = here_by
reached_by c s last a (onward {t} b r e) ok =
    let same = same_step c t last a b (asks c t) refl e (goes_after c t last b (asks c t) e) ok in
    onward_by (reached_by c s t a r same.1) same.0

-- The same for the last step.
last_step : (c : Class) (t : State) (f : Final) (a b : LoadAnswer) (asked : Bool) → asks c t ≡ asked → step_with c b t ≡ Some (Ends f) → f.asked ≡ asked_after c b t → Agrees a f.asked
    → (step_with c a t ≡ Some (Ends f)) × Agrees a t.now.asked
last_step c t f a b true is e known ok =
    let told : f.asked ≡ Some b = known ∙ ap (λ x. if x then Some b else t.now.asked) is in
    let same : b ≡ a = ok b told in
    let first : t.now.asked ≡ None = unasked_before t.call.loads t.call.before t.now (is_get_next c t.activations) is in
    (subst (λ x. step_with c x t ≡ Some (Ends f)) same e, λ x k. cc (first, k))
last_step c t f a b false is e known ok =
    let plain : (x : LoadAnswer) → step_with c x t ≡ step c t = λ x. ap (λ y. if y then after_load c t x else step c t) is in
    let kept : f.asked ≡ t.now.asked = known ∙ ap (λ y. if y then Some b else t.now.asked) is in
    (plain a ∙ sym (plain b) ∙ e, λ x k. ok x (kept ∙ k))

-- The end of a run with the same answer in each step.
record EndsBy (c : Class) (a : LoadAnswer) (s : State) (f : Final) : Type 0 where
  last : State
  reached : ReachesBy c a s last
  ends : step_with c a last ≡ Some (Ends f)

ends_by : (c : Class) (call : Invocation) (f : Final) (a : LoadAnswer) (h : Means c call f) → Agrees a f.asked → EndsBy c a h.begin f
ends_by c call f a h ok =
    let same = last_step c h.last f a h.answer (asks c h.last) refl h.ends (ends_after c h.last f h.answer (asks c h.last) h.ends) ok in
    record { last = h.last; reached = reached_by c h.begin h.last a h.reached same.1; ends = same.0 }

-- ---- one answer has one end

one_next : {x : Option Next} {t u : State} → x ≡ Some (Goes t) → x ≡ Some (Goes u) → t ≡ u
one_next h k = let both : Some (Goes _) ≡ Some (Goes _) = sym h ∙ k in cc both

one_end : {x : Option Next} {f g : Final} → x ≡ Some (Ends f) → x ≡ Some (Ends g) → f ≡ g
one_end h k = let both : Some (Ends _) ≡ Some (Ends _) = sym h ∙ k in cc both

-- A reachable state is the state itself, or is reachable from the next state.
past : (c : Class) (a : LoadAnswer) (s n u : State) → ReachesBy c a s u → step_with c a s ≡ Some (Goes n) → (u ≡ s) ⊎ ReachesBy c a n u
past c a s n u here_by e = inl refl
past c a s n u (onward_by {t} r h) e = go (past c a s n t r e)
  where
    go : (t ≡ s) ⊎ ReachesBy c a n t → (u ≡ s) ⊎ ReachesBy c a n u
    go (inl same) = inr (subst (λ x. ReachesBy c a n x) (one_next e (ap (step_with c a) (sym same) ∙ h)) here_by)
    go (inr q) = inr (onward_by q h)

-- From a state whose step ends the invocation, no other state is reachable.
stays : (c : Class) (a : LoadAnswer) (s u : State) (f : Final) → ReachesBy c a s u → step_with c a s ≡ Some (Ends f) → u ≡ s
stays c a s u f here_by e = refl
stays c a s u f (onward_by {t} r h) e =
    let same : t ≡ s = stays c a s t f r e in
    let goes : step_with c a s ≡ Some (Goes u) = ap (step_with c a) (sym same) ∙ h in
    absurd cc

-- A state whose step ends the invocation is reachable from each reachable state.
behind : (c : Class) (a : LoadAnswer) (s n u : State) (g : Final) → ReachesBy c a s n → ReachesBy c a s u → step_with c a u ≡ Some (Ends g) → ReachesBy c a n u
behind c a s n u g here_by k e = k
behind c a s n u g (onward_by {t} r h) k e = go (past c a t n u (behind c a s t u g r k e) h)
  where
    go : (u ≡ t) ⊎ ReachesBy c a n u → ReachesBy c a n u
    go (inl same) = let ends : step_with c a t ≡ Some (Ends g) = ap (step_with c a) (sym same) ∙ e in absurd cc
    go (inr q) = q

-- An answer that agrees with the recorded one.
abbrev answer_in : Option LoadAnswer → LoadAnswer
answer_in None = load.None
answer_in (Some a) = a

agrees : (o : Option LoadAnswer) → Agrees (answer_in o) o
agrees None x e = cc
agrees (Some a) x e = cc

pub one_meaning : (c : Class) (call : Invocation) (f g : Final) → Means c call f → Means c call g → f.asked ≡ g.asked → f ≡ g
one_meaning c call f g h k asked =
    let a = answer_in f.asked in
    let begins : Some k.begin ≡ Some h.begin = sym k.starts ∙ h.starts in
    let same : k.begin ≡ h.begin = cc begins in
    let one = ends_by c call f a h (agrees f.asked) in
    let other = subst (λ b. EndsBy c a b g) same (ends_by c call g a k (subst (Agrees a) asked (agrees f.asked))) in
    let further : ReachesBy c a one.last other.last = behind c a h.begin one.last other.last g one.reached other.reached other.ends in
    let last : other.last ≡ one.last = stays c a one.last other.last f further one.ends in
    one_end one.ends (ap (step_with c a) (sym last) ∙ other.ends)

-- ---- without a loader no answer is recorded

-- A step that doesn't end the invocation keeps the call.
loaded_calls : (c : Class) (t u : State) (b : LoadAnswer) → after_load c t b ≡ Some (Goes u) → u.call ≡ t.call
loaded_calls c t u load.Failed e = cc
loaded_calls c t u load.None e = let k : Keeps (informed load.None t) (Some (Goes u)) = subst (Keeps (informed load.None t)) e (step_keeps c (informed load.None t)) in k.0
loaded_calls c t u (load.Value v) e = let k : Keeps (informed (load.Value v) t) (Some (Goes u)) = subst (Keeps (informed (load.Value v) t)) e (step_keeps c (informed (load.Value v) t)) in k.0

call_after : (c : Class) (t u : State) (b : LoadAnswer) (y : Bool) → (if y then after_load c t b else step c t) ≡ Some (Goes u) → u.call ≡ t.call
call_after c t u b true e = loaded_calls c t u b e
call_after c t u b false e = let k : Keeps t (Some (Goes u)) = subst (Keeps t) e (step_keeps c t) in k.0

pub goes_same_call : (c : Class) (t u : State) (b : LoadAnswer) → step_with c b t ≡ Some (Goes u) → u.call ≡ t.call
goes_same_call c t u b e = call_after c t u b (asks c t) e

-- A reachable state has the same call.
pub same_call : (c : Class) (s t : State) → Reaches c s t → t.call ≡ s.call
same_call c s last here = refl
same_call c s last (onward {t} b r e) = goes_same_call c t last b e ∙ same_call c s t r

-- Without a loader `step_with` is `step`.
pub plain_step : (c : Class) (s : State) (b : LoadAnswer) → s.call.loads ≡ false → step_with c b s ≡ step c s
plain_step c s b without = ap (λ x. if (may_ask x s.call.before s.now && is_get_next c s.activations) then after_load c s b else step c s) without

-- Without a loader no reachable state records an answer.
pub never_asked : (c : Class) (s t : State) → Reaches c s t → s.call.loads ≡ false → s.now.asked ≡ None → t.now.asked ≡ None
never_asked c s last here without none = none
never_asked c s last (onward {t} b r e) without none =
    let call : t.call.loads ≡ false = ap (λ (i : Invocation). i.loads) (same_call c s t r) ∙ without in
    goes_keeps t last (step c t) (step_keeps c t) (sym (plain_step c t b call) ∙ e) ∙ never_asked c s t r without none

-- An invocation starts in a state with its call, and without a recorded answer.
pub starts_unasked : (c : Class) (call : Invocation) (s : State) → start c call ≡ Some s → (s.call ≡ call) × (s.now.asked ≡ None)
starts_unasked c call s e = by (number_of_process c) e
  where
    inner : (j : ℕ) (o : Option Method) → option_map (λ m. start_of j m call) o ≡ Some s → (s.call ≡ call) × (s.now.asked ≡ None)
    inner j None e = absurd cc
    inner j (Some m) e = let same : start_of j m call ≡ s = cc in (sym (ap (λ (x : State). x.call) same), sym (ap (λ (x : State). x.now.asked) same))

    by : (o : Option ℕ) → (o >>= λ j. option_map (λ m. start_of j m call) (slice_get c.methods j)) ≡ Some s → (s.call ≡ call) × (s.now.asked ≡ None)
    by None e = absurd cc
    by (Some j) e = inner j (slice_get c.methods j) e

-- Without a loader a final state records no answer.
pub means_unasked : (c : Class) (call : Invocation) (f : Final) → call.loads ≡ false → Means c call f → f.asked ≡ None
means_unasked c call f without h =
    let first = starts_unasked c call h.begin h.starts in
    let begin : h.begin.call.loads ≡ false = ap (λ (i : Invocation). i.loads) first.0 ∙ without in
    let last : h.last.call.loads ≡ false = ap (λ (i : Invocation). i.loads) (same_call c h.begin h.last h.reached) ∙ begin in
    ends_keeps h.last f (step c h.last) (step_keeps c h.last) (sym (plain_step c h.last h.answer last) ∙ h.ends) ∙ never_asked c h.begin h.last h.reached begin first.1
