-- Invocations of a class that is checked but for the direction of branches start, and their steps are counted.
use Rattle.std.proofs.Common.{◌≡◌, ℕ, Bool, true, false, Some, refl, ap, ◌∙◌, subst, arith}
use Rattle.std.specs.Prelude.{slice_get, option_map, if◌then◌else◌}
use Rattle.jtypes.specs.declared.loader.LoadAnswer.{LoadAnswer}
use Rattle.jtypes.specs.declared.loader.LoadAnswer.TheVariants as load
use Rattle.jtypes.specs.Lists.{◌>>=◌}
use Rattle.typecheck.specs.Typing.{Method, Class, IsProcessOf}
use Rattle.verdict.specs.Machine.{State, step, asks, informed, after_load, step_with, start_of}
use Rattle.verdict.proofs.OwnCalls.{process_found}
use Rattle.soundness.specs.Counting.{asked_after}
use Rattle.soundness.proofs.Callees.{method_at_number}
use Rattle.loop_soundness.specs.Checked.{IsCheckedWithLoops}
use Rattle.loop_soundness.specs.Counting.{EachCallStarts, EachStepCounts}
use Rattle.loop_soundness.proofs.GoodStates.{SafeNext}
use Rattle.loop_soundness.proofs.Safe.{Good, step_safe, good_informed, good_reached, good_begin}

method_of : (c : Class) → IsCheckedWithLoops c → (j : ℕ) → IsProcessOf c j → (m : Method) × (slice_get c.methods j ≡ Some m)
method_of c ok j is =
    let p = process_found 0 c.view.methods j is in
    let view : slice_get c.view.methods j ≡ Some p.0 = subst (λ x. slice_get c.view.methods x ≡ Some p.0) (let h = p.2 in omega (arith, h)) p.3 in
    method_at_number c.view.methods c.methods j p.0 ok.count view

pub starts : EachCallStarts
starts c ok j is call =
    let m = method_of c ok j is in
    (start_of j m.0 call, ap (λ o. o >>= λ i. option_map (λ x. start_of i x call) (slice_get c.methods i)) is ∙ ap (option_map (λ x. start_of j x call)) m.1)

-- A step from a good state is counted, with any answer of the loader.
counted : (c : Class) (ok : IsCheckedWithLoops c) (s : State) (a : LoadAnswer) → Good c ok s → SafeNext c s.words s.steps (asked_after c a s) s.call (step_with c a s)
unfolding Good
counted c ok s a h = go (asks c s)
  where
    told : (x : LoadAnswer) → SafeNext c s.words s.steps (Some x) s.call (after_load c s x)
    told load.Failed = (refl, refl)
    told (load.Value v) = step_safe c ok (informed (load.Value v) s) (good_informed c ok (load.Value v) s h)
    told load.None = step_safe c ok (informed load.None s) (good_informed c ok load.None s h)

    go : (asked : Bool) → SafeNext c s.words s.steps (if asked then Some a else s.now.asked) s.call (if asked then after_load c s a else step c s)
    go true = told a
    go false = step_safe c ok s h

pub counts : EachStepCounts
counts c j ok is call s t u a e r h =
    let m = method_of c ok j is in
    let good = good_reached c ok s t (good_begin c ok j is m.0 m.1 call s e) r in
    let safe = subst (SafeNext c t.words t.steps (asked_after c a t) t.call) h (counted c ok t a good) in
    (safe.1, safe.2, safe.3)
