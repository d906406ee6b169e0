-- Complements of type soundness: invocations start, and steps are counted.
use Rattle.std.specs.Prelude.{◌≡◌, ℕ, suc, Option, Some, if◌then◌else◌}
use Rattle.jtypes.specs.declared.loader.LoadAnswer.{LoadAnswer}
use Rattle.typecheck.specs.Typing.{Class, IsProcessOf}
use Rattle.bounds.specs.Paths.{Bounds, Cost, Path, IsWithin}
use Rattle.verdict.specs.Checked.{IsChecked}
use Rattle.verdict.specs.Machine.{Invocation, State, Goes, asks, step_with, start, Reaches}

-- Each invocation of a checked class has a start state.
abbrev pub EachCallStarts : Type 0
EachCallStarts = (c : Class) → IsChecked c → (j : ℕ) → IsProcessOf c j → (call : Invocation) → (s : State) × (start c call ≡ Some s)

-- The answer that is recorded after a step, if the loader was asked.
abbrev pub asked_after : Class → LoadAnswer → State → Option LoadAnswer
asked_after c a t = if asks c t then Some a else t.now.asked

-- In each reachable state, a step that doesn't end the invocation adds one to the steps, records the loader's answer if it is asked,
-- and keeps the call.
abbrev pub EachStepCounts : Type 0
EachStepCounts = (c : Class) (j : ℕ) (b : Bounds) → IsChecked c → IsProcessOf c j → ((k : Cost) → Path c j 0 k → IsWithin k b) → (call : Invocation) (s t u : State) → (a : LoadAnswer) → start c call ≡ Some s → Reaches c s t → step_with c a t ≡ Some (Goes u)
    → (u.steps ≡ suc t.steps) × (u.now.asked ≡ asked_after c a t) × (u.call ≡ t.call)
