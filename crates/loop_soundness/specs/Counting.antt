-- Complements of type soundness of classes with loops: invocations start, and steps are counted.
use Rattle.std.specs.Prelude.{◌≡◌, ℕ, suc, Some}
use Rattle.jtypes.specs.declared.loader.LoadAnswer.{LoadAnswer}
use Rattle.typecheck.specs.Typing.{Class, IsProcessOf}
use Rattle.verdict.specs.Machine.{Invocation, State, Goes, step_with, start, Reaches}
use Rattle.soundness.specs.Counting.{asked_after}
use Rattle.loop_soundness.specs.Checked.{IsCheckedWithLoops}

-- Each invocation has a start state.
abbrev pub EachCallStarts : Type 0
EachCallStarts = (c : Class) → IsCheckedWithLoops c → (j : ℕ) → IsProcessOf c j → (call : Invocation) → (s : State) × (start c call ≡ Some s)

-- In each reachable state, a step that doesn't end the invocation adds one to the steps, records the loader's answer if it is asked,
-- and keeps the call.
abbrev pub EachStepCounts : Type 0
EachStepCounts =
    (c : Class) (j : ℕ) → IsCheckedWithLoops c → IsProcessOf c j → (call : Invocation) (s t u : State) → (a : LoadAnswer) → start c call ≡ Some s → Reaches c s t → step_with c a t ≡ Some (Goes u)
    → (u.steps ≡ suc t.steps) × (u.now.asked ≡ asked_after c a t) × (u.call ≡ t.call)
