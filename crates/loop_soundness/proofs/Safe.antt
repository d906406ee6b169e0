-- Type soundness with bounds of classes with loops: the typed part, and the paths over nodes.
use Rattle.std.proofs.Common.{◌≡◌, ℕ, zero, suc, Bool, true, false, ◌+◌, ◌<◌, ◌≤◌, List, [], ◌∷◌, length, Option, Some, None, refl, sym, ap, ◌∙◌, subst, arith}
use Rattle.std.specs.Prelude.{slice_get, option_map, if◌then◌else◌, pos}
use Rattle.jtypes.specs.declared.types.RefType.TheVariants as ref
use Rattle.jtypes.specs.declared.types.JType.{JType}
use Rattle.jtypes.specs.declared.types.JType.TheVariants.{Ref, Top}
use Rattle.jtypes.specs.declared.types.RefValue.TheVariants as reference
use Rattle.jtypes.specs.declared.types.Value.{Value}
use Rattle.jtypes.specs.declared.types.Value.TheVariants as value
use Rattle.jtypes.specs.declared.operations.ArrayKind.{ArrayKind}
use Rattle.jtypes.specs.declared.operations.Invoke.{Invoke}
use Rattle.jtypes.specs.declared.loader.LoadAnswer.{LoadAnswer}
use Rattle.jtypes.specs.declared.loader.LoadAnswer.TheVariants as load
use Rattle.jtypes.specs.Lists.{result_list, ◌>>=◌}
use Rattle.decode.specs.declared.instruction.Placed.{Placed}
use Rattle.decode.specs.Places.{pushed_before}
use Rattle.decode.specs.declared.instruction.Instruction.TheVariants.{NewArray}
use Rattle.frames.specs.declared.members.Callee.{Callee}
use Rattle.frames.specs.declared.members.Reached.{Reached}
use Rattle.frames.specs.declared.members.Reached.TheVariants.{Library, Own}
use Rattle.frames.specs.Members.{callee_at}
use Rattle.frames.specs.Frames.{first_frame}
use Rattle.typecheck.specs.Typing.{Method, Class, IsProcessOf, instruction_at}
use Rattle.bounds.specs.Paths.{Cost, Bounds, IsWithin, StandsAt}
use Rattle.verdict.specs.Checked.{NoTop}
use Rattle.verdict.specs.Machine.{Invocation, Activation, State, Next, Goes, Ends, step, asks, informed, after_load, step_with, start_of, start, activation_of, Reaches, here, onward, ReachesBy, here_by, onward_by, with_place, act, act_at, step_top}
use Rattle.verdict.specs.Sound.{StaysWithin, GoesAlone, Finishes}
use Rattle.unrolled.specs.Graph.{Node}
use Rattle.unrolled.specs.Rules.{Rules, rules_of}
use Rattle.unrolled.specs.Paths.{Path, start_node}
use Rattle.unrolled.specs.Cover.{IsCover}
use Rattle.unrolled.specs.Certificates.{is_in, rank_in}
use Rattle.unrolled.proofs.Certificates.{certificates_cover}
use Rattle.loop_soundness.specs.Runs.{HasPlainCalls, IsCountedAt}
use Rattle.loop_soundness.proofs.Runs.{runs_stay_within}
use Rattle.unrolled.proofs.Forward.{forward_is_covered}
use Rattle.unrolled.proofs.SameBounds.{to_places}
use Rattle.bounds.specs.Paths as places
use Rattle.loop_soundness.specs.Checked.{IsCheckedWithLoops}
use Rattle.loop_soundness.specs.Sound.{SoundnessWithLoops, SoundnessOfUnrolled, SoundnessForward}
use Rattle.jtypes.proofs.Fit.{is_top, EachFit}
use Rattle.soundness.proofs.Locals.{first_locals}
use Rattle.soundness.proofs.Callees.{IsOwn, CalleeFits, callee_fits_by, entry_by}
use Rattle.soundness.proofs.GoodStates.{IsAt, is_inside}
use Rattle.loop_soundness.proofs.GoodStates.{IsGood, SafeNext, arrive, no_length_first}
use Rattle.loop_soundness.proofs.Signatures.{signatures_of}
use Rattle.loop_soundness.proofs.Steps.{act_safe}

-- Good states don't depend on the number.
again : (c : Class) (b n : ℕ) (s : State) → IsGood c b s → IsGood c n s
again c b n s h = record { top = h.top; below = h.below; m = h.m; activations = h.activations; here = h.here; awaits = h.awaits }

pub step_safe : (c : Class) → IsCheckedWithLoops c → (s : State) → IsGood c s.words s → SafeNext c s.words s.steps s.now.asked s.call (step c s)
step_safe c ok s h =
    let b = s.words in
    let m = h.m in
    let a = h.top in
    let i = is_inside h.here in
    let p = i.0 in
    let o = h.here.typing.outcome a.place p h.here.frame i.1 h.here.stands in
    let is : step c s ≡ act c s m.environment (with_place a p.next) h.below p.instruction =
    ap (step_top c s) h.activations ∙ ap (λ y. y >>= λ x. act_at c s x a h.below (instruction_at x a.place)) h.here.member.method ∙ ap (act_at c s m a h.below) i.1 in
    subst (SafeNext c b s.steps s.now.asked s.call) (sym is) (act_safe c b ok s refl a h.below m p p.instruction o.0 (record { formed = ok.formed a.method h.here.view m h.here.member; here = h.here; awaits = h.awaits; code = i.1; is = refl; moved = o.1; flow = o.2 }))

reaches_trans : {c : Class} {a : LoadAnswer} {s t u : State} → ReachesBy c a s t → ReachesBy c a t u → ReachesBy c a s u
reaches_trans r here_by = r
reaches_trans r (onward_by q e) = onward_by (reaches_trans r q) e

by_reaches : {c : Class} {a : LoadAnswer} {s t : State} → ReachesBy c a s t → Reaches c s t
by_reaches here_by = here
by_reaches {a = a} (onward_by q e) = onward a (by_reaches q) e

not_top_is : (t : JType) → is_top t ≡ false → t ≡ Top → ⊥
not_top_is t e same = let bad : true ≡ false = sym (ap is_top same) ∙ e in cc

plain_calls : (c : Class) → IsCheckedWithLoops c → HasPlainCalls c
plain_calls c ok = record { plain = λ kind i callee e top. no_top kind i callee e top; own = λ kind i k callee m e r known. own_result kind i k callee m e r known }
  where
    result_not : (o : Option JType) → NoTop (result_list o) → o ≡ Some Top → ⊥
    result_not None h e = cc
    result_not (Some t) h e = let same : t ≡ Top = cc e in h.0 same

    no_top : (kind : Invoke) (i : ℕ) (callee : Callee) → callee_at c.view kind i ≡ Some callee → callee.result ≡ Some Top → ⊥
    no_top kind i callee e top = go callee.reached (callee_fits_by c (signatures_of c ok) kind i callee e)
      where
        library : (o : Option JType) → o ≡ Some Top → Rattle.jtypes.proofs.Fit.NoneTop (result_list o) → ⊥
        library None f h = cc
        library (Some t) f h = let same : t ≡ Top = cc f in not_top_is t h.0 same

        go : (r : Reached) → CalleeFits c callee r → ⊥
        go (Library n) h = library callee.result top h.1
        go (Own k) own = result_not own.method.environment.signature.result (ok.formed k own.view own.method own.member).result (sym own.result ∙ top)

    own_result : (kind : Invoke) (i k : ℕ) (callee : Callee) (m : Method) → callee_at c.view kind i ≡ Some callee → callee.reached ≡ Own k → slice_get c.methods k ≡ Some m → m.environment.signature.result ≡ callee.result
    own_result kind i k callee m e r known =
        let own : IsOwn c callee k = subst (CalleeFits c callee) r (callee_fits_by c (signatures_of c ok) kind i callee e) in
        let same : own.method ≡ m = cc (own.member.method, known) in
        ap (λ (x : Method). x.environment.signature.result) (sym same) ∙ sym own.result

-- The length of a new array is the constant before it.
counted_at : (c : Class) (b : ℕ) (s : State) → IsGood c b s → IsCountedAt c s
counted_at c b s h = record { counted = λ a below m p k e at is. go a below m p k e at is }
  where
    go : (a : Activation) (below : List Activation) (m : Method) (p : Placed) (k : ArrayKind) → s.activations ≡ a ∷ below → StandsAt c a.method a.place m p → p.instruction ≡ NewArray k → (n : ℕ) × ((rest : List Value) × (a.operands ≡ value.Int (pos n) ∷ rest)) × (pushed_before m.code a.place ≡ Some (pos n))
    go a below m p k e at is =
        let top : h.top ≡ a = cc (h.activations, e) in
        let known : slice_get c.methods a.method ≡ Some h.m = ap (λ (y : Activation). slice_get c.methods y.method) (sym top) ∙ h.here.member.method in
        let same : h.m ≡ m = cc (known, at.method) in
        let code : instruction_at h.m h.top.place ≡ Some p = ap (λ (y : Activation). instruction_at h.m y.place) top ∙ ap (λ y. instruction_at y a.place) same ∙ at.instruction in
        let q = h.here.counted p k code is in
        (q.count, (q.rest, ap (λ (y : Activation). y.operands) (sym top) ∙ q.top), ap (λ y. pushed_before y.code a.place) (sym same) ∙ ap (λ (y : Activation). pushed_before h.m.code y.place) (sym top) ∙ q.before)

module _ (c : Class) (ok : IsCheckedWithLoops c) where
  unfoldable pub Good : State → Type 0
  Good s = IsGood c s.words s

  pub good_informed : (a : LoadAnswer) (s : State) → Good s → Good (informed a s)
  unfolding Good
  good_informed a s h = record { top = h.top; below = h.below; m = h.m; activations = h.activations; here = h.here; awaits = h.awaits }

  abbrev Fits : State → Option Next → Type 0
  Fits s None = ⊥
  Fits s (Some (Goes u)) = Good u × (u.steps ≡ suc s.steps) × (u.call ≡ s.call)
  Fits s (Some (Ends f)) = (f.steps ≡ suc s.steps) × (f.words ≡ s.words)

  fits_of : (s : State) (asked : Option LoadAnswer) (o : Option Next) → SafeNext c s.words s.steps asked s.call o → Fits s o
  unfolding Good
  fits_of s asked None h = h
  fits_of s asked (Some (Goes u)) h = (again c s.words u.words u h.0, h.1, h.3)
  fits_of s asked (Some (Ends f)) h = h

  good_with : (s : State) (a : LoadAnswer) → Good s → Fits s (step_with c a s)
  unfolding Good
  good_with s a h = go (asks c s)
    where
      told : (x : LoadAnswer) → Fits s (after_load c s x)
      told load.Failed = (refl, refl)
      told (load.Value v) = let q = step_safe c ok (informed (load.Value v) s) (good_informed (load.Value v) s h) in fits_of (informed (load.Value v) s) _ (step c (informed (load.Value v) s)) q
      told load.None = let q = step_safe c ok (informed load.None s) (good_informed load.None s h) in fits_of (informed load.None s) _ (step c (informed load.None s)) q

      go : (asked : Bool) → Fits s (if asked then after_load c s a else step c s)
      go true = told a
      go false = fits_of s s.now.asked (step c s) (step_safe c ok s h)

  good_next : (s u : State) (a : LoadAnswer) → Good s → step_with c a s ≡ Some (Goes u) → Good u × (u.steps ≡ suc s.steps) × (u.call ≡ s.call)
  good_next s u a h e = subst (Fits s) e (good_with s a h)

  pub good_reached : (s t : State) → Good s → Reaches c s t → Good t
  good_reached s t h here = h
  good_reached s t h (onward {t = x} a r e) = (good_next x t a (good_reached s x h r) e).0

  goes_or_ends : (s : State) (a : LoadAnswer) → Good s → (n : Next) × (step_with c a s ≡ Some n)
  goes_or_ends s a h = go (step_with c a s) refl (good_with s a h)
    where
      go : (o : Option Next) → step_with c a s ≡ o → Fits s o → (n : Next) × (step_with c a s ≡ Some n)
      go None e f = absurd f
      go (Some n) e f = (n, e)

  good_start : (j : ℕ) → IsProcessOf c j → (m : Method) (call : Invocation) → slice_get c.methods j ≡ Some m → Good (start_of j m call)
  unfolding Good
  good_start j is m call known =
      let entry = entry_by c (signatures_of c ok) j m is known in
      let taken : List Value = value.Ref reference.Args ∷ value.Ref reference.Entry ∷ value.Ref reference.This ∷ [] in
      let given : List Value = value.Ref reference.This ∷ value.Ref reference.Entry ∷ value.Ref reference.Args ∷ [] in
      let a = activation_of j m taken in
      let typed = ok.typed j entry.view m entry.member in
      let formed = ok.formed j entry.view m entry.member in
      let args : EachFit [] given (Ref ref.This ∷ Ref ref.MutableEntry ∷ Ref ref.ObjectArray ∷ []) = (refl, refl, (refl, refl, (refl, refl, tt))) in
      let args' : EachFit [] given m.environment.signature.params = subst (EachFit [] given) (sym entry.params) args in
      let at_start : IsAt c [] m a = arrive c [] m entry.view typed.0 a (first_frame m.environment) formed entry.member typed.1 typed.1.first (first_locals [] m.environment.max_locals given m.environment.signature.params args') tt (omega arith) (no_length_first m [] formed) in
      record { top = a; below = []; m = m; activations = refl; here = at_start; awaits = (Ref ref.Object, entry.result) }

  pub good_begin : (j : ℕ) → IsProcessOf c j → (m : Method) → slice_get c.methods j ≡ Some m → (call : Invocation) (s : State) → start c call ≡ Some s → Good s
  good_begin j is m known call s e =
      let begun : start c call ≡ Some (start_of j m call) = ap (λ o. o >>= λ i. option_map (λ n. start_of i n call) (slice_get c.methods i)) is ∙ ap (option_map (λ n. start_of j n call)) known in
      let same : start_of j m call ≡ s = cc (begun, e) in
      subst Good same (good_start j is m call known)

  module _ (rules : Rules) (inside : ℕ → Node → Bool) (rank : ℕ → Node → ℕ) (j : ℕ) (m : Method) (b : Bounds) (cover : IsCover c rules inside rank) (is : IsProcessOf c j) (known : slice_get c.methods j ≡ Some m) (within : inside j (start_node rules j m) ≡ true) (bounded : (k : Cost) → Path c rules j (start_node rules j m) k → IsWithin k b) where
    stays : (call : Invocation) (s t : State) → length call.args ≤ 8 → start c call ≡ Some s → Reaches c s t → StaysWithin c t b × (t.steps < b.steps) × ((u : State) → step c t ≡ Some (Goes u) → StaysWithin c u b)
    unfolding Good
    stays call s t few e r =
        let begun = good_begin j is m known call s e in
        runs_stay_within c rules inside rank j m b call s t cover (plain_calls c ok) is known within bounded few e (λ u q. counted_at c u.words u (good_reached s u begun q)) r

    alone : (call : Invocation) (s t : State) → length call.args ≤ 8 → start c call ≡ Some s → Reaches c s t → GoesAlone c t b
    unfolding Good
    alone call s t few e r = go (step c t) refl (step_safe c ok t (good_reached s t (good_begin j is m known call s e) r))
      where
        go : (o : Option Next) → step c t ≡ o → SafeNext c t.words t.steps t.now.asked t.call o → GoesAlone c t b
        go None f g = absurd g
        go (Some (Goes u)) f g = record { next = Goes u; is = f; stays = (stays call s t few e r).2 u f }
        go (Some (Ends x)) f g = record { next = Ends x; is = f; stays = tt }

    finishes_from : (left : ℕ) (call : Invocation) (s t : State) (a : LoadAnswer) → length call.args ≤ 8 → start c call ≡ Some s → ReachesBy c a s t → b.steps < t.steps + left → Finishes c a t b
    finishes_from zero call s t a few e r enough = let q = stays call s t few e (by_reaches r) in let low = q.1 in absurd (omega (arith, low, enough))
    finishes_from (suc left) call s t a few e r enough = go (step_with c a t) refl (good_with t a (good_reached s t (good_begin j is m known call s e) (by_reaches r))) (λ u f g. finishes_from left call s u a few e (onward_by r f) (omega (arith, g, enough)))
      where
        go : (o : Option Next) → step_with c a t ≡ o → Fits t o → ((u : State) → step_with c a t ≡ Some (Goes u) → u.steps ≡ suc t.steps → Finishes c a u b) → Finishes c a t b
        go None f g later = absurd g
        go (Some (Goes u)) f g later =
            let l = later u f g.1 in
            record { last = l.last; final = l.final; reached = reaches_trans (onward_by here_by f) l.reached; ends = l.ends; few_steps = l.few_steps; few_words = l.few_words }
        go (Some (Ends x)) f g later =
            let q = stays call s t few e (by_reaches r) in
            let low = q.1 in
            let w = q.0.words in
            record { last = t; final = x; reached = here_by; ends = f; few_steps = omega (arith, low, g.0); few_words = omega (arith, w, g.1) }

pub sound_with_loops : SoundnessWithLoops
sound_with_loops c rules inside rank j m b ok cover is known within bounded = record {
  never_stuck = λ call s t few e r a. goes_or_ends c ok t a (good_reached c ok s t (good_begin c ok j is m known call s e) r);
  alone = λ call s t few e r. alone c ok rules inside rank j m b cover is known within bounded call s t few e r;
  stays = λ call s t few e r. (stays c ok rules inside rank j m b cover is known within bounded call s t few e r).0;
  finishes = λ call a s few e. finishes_from c ok rules inside rank j m b cover is known within bounded (suc b.steps) call s s a few e here_by (omega arith);
}

pub sound_unrolled : SoundnessOfUnrolled
sound_unrolled c j m ks b ok u is known are = sound_with_loops c (rules_of c) inside rank j m b ok (certificates_cover c (rules_of c) ks u.passes) is known u.starts are.none_exceeds
  where
    inside : ℕ → Node → Bool
    inside i x = is_in (record { method = i; node = x }) ks

    rank : ℕ → Node → ℕ
    rank i x = rank_in (record { method = i; node = x }) ks

pub sound_forward : SoundnessForward
sound_forward c set j m b ok on h is known starts bounded =
    let rules : Rules = λ k. record { values = false; ints = λ n. false } in
    let w = forward_is_covered c rules set on in
    let start = start_node rules j m in
    let at_start : start.place ≡ 0 = refl in
    sound_with_loops c rules w.inside w.rank j m b ok w.cover is known (w.starts j m h known starts) (λ k path. bounded k (subst (λ q. places.Path c j q k) at_start (to_places c rules path)))
