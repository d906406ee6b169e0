-- One step of an invocation in a workspace.
use Rattle.std.specs.Prelude.{◌≡◌, ℤ, Some}
use Rattle.jtypes.specs.declared.loader.LoadAnswer.{LoadAnswer}
use Rattle.jtypes.specs.Lists.{only_if}
use Rattle.typecheck.specs.Typing.{Class}
use Rattle.verdict.specs.Machine.{State, Final, Goes, Ends, asks, step_with}
use Rattle.verdict.specs.Meaning.{Means}
use Rattle.interpreter.specs.declared.machine.Machine.{Machine}
use Rattle.ended.specs.declared.done.Going.{Going}
use Rattle.ended.specs.declared.done.Going.TheVariants as going
use Rattle.ended.specs.Ended.{IsFinal}
use Rattle.machine.specs.Running.{IsRunning}
use Rattle.world.specs.World.{MayAnswer}
use Rattle.world.specs.Going.{known, state_in}

-- Each state that the machine is in is the one after `m.steps` steps, with the recorded answer of the loader.
abbrev pub IsCounted : Class → Machine → Type 0
IsCounted c m = (s : State) → IsRunning c s m → state_in c s.call (known m.entry.now.asked) m.steps ≡ Some s

-- The loader gives the answer, if the step asks for it.
abbrev pub MayAnswerStep : (ℤ → LoadAnswer → Type 0) → LoadAnswer → Class → State → Type 0
MayAnswerStep gives a c s = MayAnswer gives a (only_if (asks c s) (Some s.call.key))

-- For some answer, which the loader gives if it is asked, the step gives the next state, or ends in the meaning of the call.
abbrev pub StepsOn : (ℤ → LoadAnswer → Type 0) → Class → State → Going → Machine → Type 0
StepsOn gives c s going.Going m = (a : LoadAnswer) × (t : State) × MayAnswerStep gives a c s × (step_with c a s ≡ Some (Goes t)) × (t.call ≡ s.call) × IsRunning c t m
StepsOn gives c s (going.Ended d) m = (a : LoadAnswer) × (f : Final) × MayAnswerStep gives a c s × (step_with c a s ≡ Some (Ends f)) × Means c s.call f × IsFinal d s.call.before f
