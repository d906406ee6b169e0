-- Type soundness with bounds.
use Rattle.std.proofs.Common.{◌≡◌, ℕ, zero, suc, Bool, true, false, ◌+◌, ◌<◌, ◌≤◌, List, [], ◌∷◌, length, Option, Some, None, refl, sym, ap, ◌∙◌, subst, arith}
use Rattle.std.specs.Prelude.{slice_get, option_map, if◌then◌else◌}
use Rattle.jtypes.specs.declared.types.RefType.TheVariants as ref
use Rattle.jtypes.specs.declared.types.JType.TheVariants.{Ref}
use Rattle.jtypes.specs.declared.types.RefValue.TheVariants as reference
use Rattle.jtypes.specs.declared.types.Value.{Value}
use Rattle.jtypes.specs.declared.types.Value.TheVariants as value
use Rattle.jtypes.specs.Lists.{◌>>=◌}
use Rattle.jtypes.proofs.Fit.{EachFit}
use Rattle.frames.specs.Frames.{first_frame}
use Rattle.typecheck.specs.Typing.{Method, Class, IsProcessOf, instruction_at}
use Rattle.bounds.specs.Paths.{Cost, Path, Bounds, IsWithin}
use Rattle.verdict.specs.Checked.{IsChecked}
use Rattle.soundness.specs.Premises.{SoundnessOver}
use Rattle.soundness.specs.Room.{IsCheckedButForRoom}
use Rattle.verdict.specs.Machine.{Invocation, State, Next, Goes, Ends, throws, step, asks, informed, after_load, step_with, start_of, start, activation_of, Reaches, here, onward, ReachesBy, here_by, onward_by, with_place, act, act_at, step_top}
use Rattle.soundness.specs.Counting.{EachStepCounts, asked_after}
use Rattle.jtypes.specs.declared.loader.LoadAnswer.{LoadAnswer}
use Rattle.jtypes.specs.declared.loader.LoadAnswer.TheVariants as load
use Rattle.jtypes.specs.declared.types.JavaFault.TheVariants.{CacheLoader}
use Rattle.verdict.specs.Sound.{slots_of, StaysWithin, GoesAlone, Finishes, SoundnessOfClasses}
use Rattle.soundness.proofs.Locals.{first_locals}
use Rattle.verdict.proofs.OwnCalls.{process_found}
use Rattle.soundness.proofs.Callees.{entry_of, method_at_number}
use Rattle.soundness.proofs.GoodStates.{IsAt, is_inside, IsGood, SafeNext, arrive, no_length_first, RestOf}
use Rattle.soundness.proofs.PathsExist.{has_path, has_rest, path_steps, path_slots, path_depth}
use Rattle.soundness.proofs.Steps.{act_safe}

-- Each step from a good state reaches a good state, or ends within the bounds.
step_safe : (c : Class) (b : Bounds) → IsCheckedButForRoom c → (s : State) → IsGood c b s → SafeNext c b s.steps s.now.asked s.call (step c s)
step_safe c b ok s h =
    let m = h.m in
    let a = h.top in
    let i = is_inside h.here in
    let p = i.0 in
    let o = h.here.typing.outcome a.place p h.here.frame i.1 h.here.stands in
    let is : step c s ≡ act c s m.environment (with_place a p.next) h.below p.instruction =
    ap (step_top c s) h.activations ∙ ap (λ y. y >>= λ x. act_at c s x a h.below (instruction_at x a.place)) h.here.member.method ∙ ap (act_at c s m a h.below) i.1 in
    subst (SafeNext c b s.steps s.now.asked s.call) (sym is) (act_safe c b ok s a h.below m p p.instruction o.0 (record { formed = ok.formed a.method h.here.view m h.here.member; here = h.here; awaits = h.awaits; budget = h.budget; code = i.1; is = refl; moved = o.1; flow = o.2 }))

reaches_trans : {c : Class} {a : LoadAnswer} {s t u : State} → ReachesBy c a s t → ReachesBy c a t u → ReachesBy c a s u
reaches_trans r here_by = r
reaches_trans r (onward_by q e) = onward_by (reaches_trans r q) e

module _ (c : Class) (b : Bounds) (ok : IsCheckedButForRoom c) where
  rest_of : (s : State) (h : IsGood c b s) → RestOf c (h.top ∷ h.below)
  rest_of s h =
      let k = has_path c ok h.top.method h.here.view h.m h.top.place h.here.member (is_inside h.here) in
      (k.0, k.1, has_rest c ok s.arrays h.m.environment.signature.result h.below h.awaits)

  stays_within : (s : State) → IsGood c b s → StaysWithin c s b
  stays_within s h =
      let r = rest_of s h in
      let few = h.budget.steps_left r in
      let few_words = h.budget.words_left r in
      let few_slots = h.budget.slots_left r in
      let low = h.budget.depth_left r in
      let own = path_slots r.1 in
      let one = path_depth r.1 in
      let slots : slots_of c (h.top ∷ h.below) ≤ b.slots = omega (arith, few_slots, own) in
      let depth : length (h.top ∷ h.below) ≤ b.depth = omega (arith, low, one) in
      record {
        steps = omega (arith, few);
        words = omega (arith, few_words);
        slots = subst (λ x. slots_of c x ≤ b.slots) (sym h.activations) slots;
        depth = subst (λ x. length x ≤ b.depth) (sym h.activations) depth;
      }

  -- The loader's answer keeps a good state good.
  good_informed : (a : LoadAnswer) (s : State) → IsGood c b s → IsGood c b (informed a s)
  good_informed a s h = record { top = h.top; below = h.below; m = h.m; activations = h.activations; here = h.here; awaits = h.awaits; budget = h.budget }

  -- A step keeps a good state good, with any answer of the loader.
  good_with : (s : State) (a : LoadAnswer) → IsGood c b s → SafeNext c b s.steps (asked_after c a s) s.call (step_with c a s)
  good_with s a h = go (asks c s)
    where
      failed : SafeNext c b s.steps (Some load.Failed) s.call (throws (informed load.Failed s) CacheLoader)
      failed =
          let r = rest_of s h in
          let few = h.budget.steps_left r in
          let few_words = h.budget.words_left r in
          let one = path_steps r.1 in
          (omega (arith, one, few), omega (arith, few_words))

      told : (x : LoadAnswer) → SafeNext c b s.steps (Some x) s.call (after_load c s x)
      told load.Failed = failed
      told (load.Value v) = step_safe c b ok (informed (load.Value v) s) (good_informed (load.Value v) s h)
      told load.None = step_safe c b ok (informed load.None s) (good_informed load.None s h)

      go : (asked : Bool) → SafeNext c b s.steps (if asked then Some a else s.now.asked) s.call (if asked then after_load c s a else step c s)
      go true = told a
      go false = step_safe c b ok s h

  good_next : (s u : State) (a : LoadAnswer) → IsGood c b s → step_with c a s ≡ Some (Goes u) → IsGood c b u
  good_next s u a h e = (subst (SafeNext c b s.steps (asked_after c a s) s.call) e (good_with s a h)).0

  good_reached : (s t : State) → IsGood c b s → Reaches c s t → IsGood c b t
  good_reached s t h here = h
  good_reached s t h (onward {t = x} a r e) = good_next x t a (good_reached s x h r) e

  goes_or_ends : (s : State) (a : LoadAnswer) → IsGood c b s → (n : Next) × (step_with c a s ≡ Some n)
  goes_or_ends s a h = go (step_with c a s) refl (good_with s a h)
    where
      go : (o : Option Next) → step_with c a s ≡ o → SafeNext c b s.steps (asked_after c a s) s.call o → (n : Next) × (step_with c a s ≡ Some n)
      go None e f = absurd f
      go (Some n) e f = (n, e)

  goes_alone : (s : State) → IsGood c b s → GoesAlone c s b
  goes_alone s h = go (step c s) refl (step_safe c b ok s h)
    where
      go : (o : Option Next) → step c s ≡ o → SafeNext c b s.steps s.now.asked s.call o → GoesAlone c s b
      go None e f = absurd f
      go (Some (Goes u)) e f = record { next = Goes u; is = e; stays = stays_within u f.0 }
      go (Some (Ends x)) e f = record { next = Ends x; is = e; stays = tt }

  finishes_from : (left : ℕ) (s : State) (a : LoadAnswer) → IsGood c b s → b.steps < s.steps + left → Finishes c a s b
  finishes_from zero s a h enough = let few = (stays_within s h).steps in absurd (omega (arith, few))
  finishes_from (suc left) s a h enough = go (step_with c a s) refl (good_with s a h) (λ u g e. finishes_from left u a g (omega (arith, e)))
    where
      go : (o : Option Next) → step_with c a s ≡ o → SafeNext c b s.steps (asked_after c a s) s.call o → ((u : State) → IsGood c b u → u.steps ≡ suc s.steps → Finishes c a u b) → Finishes c a s b
      go None e f later = absurd f
      go (Some (Goes u)) e f later =
          let l = later u f.0 f.1 in
          record { last = l.last; final = l.final; reached = reaches_trans (onward_by here_by e) l.reached; ends = l.ends; few_steps = l.few_steps; few_words = l.few_words }
      go (Some (Ends x)) e f later = record { last = s; final = x; reached = here_by; ends = e; few_steps = f.0; few_words = f.1 }

  good_start : (j : ℕ) → IsProcessOf c j → ((k : Cost) → Path c j 0 k → IsWithin k b) → (m : Method) (call : Invocation) → slice_get c.methods j ≡ Some m → IsGood c b (start_of j m call)
  good_start j is bounded m call known =
      let entry = entry_of c ok j m is known in
      let taken : List Value = value.Ref reference.Args ∷ value.Ref reference.Entry ∷ value.Ref reference.This ∷ [] in
      let given : List Value = value.Ref reference.This ∷ value.Ref reference.Entry ∷ value.Ref reference.Args ∷ [] in
      let a = activation_of j m taken in
      let typed = ok.typed j entry.view m entry.member in
      let formed = ok.formed j entry.view m entry.member in
      let args : EachFit [] given (Ref ref.This ∷ Ref ref.MutableEntry ∷ Ref ref.ObjectArray ∷ []) = (refl, refl, (refl, refl, (refl, refl, tt))) in
      let args' : EachFit [] given m.environment.signature.params = subst (EachFit [] given) (sym entry.params) args in
      let at_start : IsAt c [] m a = arrive c [] m entry.view typed.0 a (first_frame m.environment) formed entry.member typed.1 typed.1.first (first_locals [] m.environment.max_locals given m.environment.signature.params args') tt (omega arith) (no_length_first m [] formed) in
      record {
        top = a;
        below = [];
        m = m;
        activations = refl;
        here = at_start;
        awaits = (Ref ref.Object, entry.result);
        budget = record {
          steps_left = λ r. let w = (bounded r.0 r.1).steps in omega (arith, w);
          words_left = λ r. let w = (bounded r.0 r.1).words in omega (arith, w);
          slots_left = λ r. let w = (bounded r.0 r.1).slots in omega (arith, w);
          depth_left = λ r. let w = (bounded r.0 r.1).depth in omega (arith, w);
        };
      }

  -- The start state of an invocation is good.
  good_begin : (j : ℕ) → IsProcessOf c j → ((k : Cost) → Path c j 0 k → IsWithin k b) → (call : Invocation) (s : State) → start c call ≡ Some s → IsGood c b s
  good_begin j is bounded call s e = go (slice_get c.methods j) refl (sym (ap (λ o. o >>= λ i. option_map (λ m. start_of i m call) (slice_get c.methods i)) is) ∙ e)
    where
      go : (o : Option Method) → slice_get c.methods j ≡ o → option_map (λ m. start_of j m call) o ≡ Some s → IsGood c b s
      go None known f = cc
      go (Some m) known f = let same : start_of j m call ≡ s = cc f in subst (IsGood c b) same (good_start j is bounded m call known)

-- Each invocation has a start state.
pub can_start : (c : Class) → IsChecked c → (j : ℕ) → IsProcessOf c j → (call : Invocation) → (s : State) × (start c call ≡ Some s)
can_start c ok j is call =
    let p = process_found 0 c.view.methods j is in
    let view : slice_get c.view.methods j ≡ Some p.0 = subst (λ x. slice_get c.view.methods x ≡ Some p.0) (let h = p.2 in omega (arith, h)) p.3 in
    let m = method_at_number c.view.methods c.methods j p.0 ok.count view in
    (start_of j m.0 call, ap (λ o. o >>= λ i. option_map (λ x. start_of i x call) (slice_get c.methods i)) is ∙ ap (option_map (λ x. start_of j x call)) m.1)

pub sound_without_room : SoundnessOver IsCheckedButForRoom
sound_without_room c j b ok is bounded = record {
  never_stuck = λ call s t e r a. goes_or_ends c b ok t a (good_reached c b ok s t (good_begin c b ok j is bounded call s e) r);
  alone = λ call s t e r. goes_alone c b ok t (good_reached c b ok s t (good_begin c b ok j is bounded call s e) r);
  stays = λ call s t e r. stays_within c b ok t (good_reached c b ok s t (good_begin c b ok j is bounded call s e) r);
  finishes = λ call a s e. finishes_from c b ok (suc b.steps) s a (good_begin c b ok j is bounded call s e) (omega arith);
}

-- ---- the same for checked classes

pub without_room : (c : Class) → IsChecked c → IsCheckedButForRoom c
without_room c ok = record {
  named = ok.named;
  instance = ok.instance;
  count = ok.count;
  signed = ok.signed;
  typed = ok.typed;
  formed = λ j v m member. let formed = ok.formed j v m member in record {
    params = formed.params;
    result = formed.result;
    declared = formed.declared;
    forward = formed.forward;
    consecutive = formed.consecutive;
    lengths = formed.lengths;
  };
  ordered = ok.ordered;
}

pub type_soundness : SoundnessOfClasses
type_soundness c j b ok is bounded = sound_without_room c j b (without_room c ok) is bounded

-- A step that doesn't end the invocation is counted, and keeps the loader's answer.
pub counts : EachStepCounts
counts c j b ok is bounded call s t u a e r h =
    let safe = subst (SafeNext c b t.steps (asked_after c a t) t.call) h (good_with c b (without_room c ok) t a (good_reached c b (without_room c ok) s t (good_begin c b (without_room c ok) j is bounded call s e) r)) in
    (safe.1, safe.2, safe.3)
