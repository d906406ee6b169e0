-- The effects of the exports on the engine of a handle.
use Rattle.std.specs.Prelude.{◌≡◌, ◌≢◌, ◌⊎◌, ℕ, Bool, true, false, List, [], length, Option, Some, None, is_some, if◌then◌else◌}
use Rattle.sha1.specs.Sha1.{sha1}
use Rattle.jtypes.specs.declared.refusal.Refusal.TheVariants.{NoMemory}
use Rattle.embedded.specs.declared.numbers.VerdictNumbers.{VerdictNumbers}
use Rattle.embedded.specs.declared.numbers.ArgNumbers.{ArgNumbers}
use Rattle.embedded.specs.declared.numbers.CallNumbers.{CallNumbers}
use Rattle.embedded.specs.declared.numbers.DoneNumbers.{DoneNumbers}
use Rattle.embedded.specs.Classes.{Classes, class_at, text_at}
use Rattle.embedded.specs.Numbers.{refused_in, not_run}
use Rattle.embedded.specs.Answers.{IsVerdict, IsAnswer}
use Rattle.embed.specs.declared.handle.Handle.{Handle}

abbrev pub engine_where : Bool → Classes → Option Classes
engine_where true classes = Some classes
engine_where false classes = None

-- The classes of a handle's engine if the handle is open.
abbrev pub engine_of : Handle → Option Classes
engine_of h = engine_where h.is_open h.engine

-- The text at an index of the constant pool of the class with a number, if there is an engine that has one.
abbrev pub engine_text : Option Classes → ℕ → ℕ → Option (List ℕ)
engine_text (Some classes) number index = text_at classes number index
engine_text None number index = None

-- `IsOpened` holds if an engine without classes is made (0), there is no memory for it (1), or there is one already (2).
abbrev pub IsOpened : Option Classes → ℕ → Option Classes → Type 0
IsOpened None answer after = ((answer ≡ 0) × (after ≡ Some [])) ⊎ ((answer ≡ 1) × (after ≡ None))
IsOpened (Some before) answer after = (answer ≡ 2) × (after ≡ Some before)

-- `IsJudged` holds if the verdict is the engine's, or without an engine the refusal `NoMemory`.
abbrev pub IsJudged : Option Classes → List ℕ → VerdictNumbers → Option Classes → Type 0
IsJudged (Some before) bytes verdict after = (classes : Classes) × (after ≡ Some classes) × IsVerdict bytes before verdict classes
IsJudged None bytes verdict after = (after ≡ None) × (verdict ≡ refused_in NoMemory (sha1 bytes))

-- `LacksOnly` holds if the number has no class afterwards, and all other numbers and their count are unchanged.
pub record LacksOnly (number : ℕ) (before after : Classes) : Type 0 where
  pub gone : class_at after number ≡ None
  pub others : (n : ℕ) → n ≢ number → class_at after n ≡ class_at before n
  pub count : length after ≡ length before

-- `IsForgotten` holds if the number has no class afterwards, and the answer is 1 if it had one, else 0.
abbrev pub IsForgotten : Option Classes → ℕ → ℕ → Option Classes → Type 0
IsForgotten (Some before) number answer after = (answer ≡ (if is_some (class_at before number) then 1 else 0)) × ((classes : Classes) × (after ≡ Some classes) × LacksOnly number before classes)
IsForgotten None number answer after = (answer ≡ 0) × (after ≡ None)

-- `IsRun` holds if the engine answers the call and is unchanged, or without an engine the answer is that there is no class (4).
abbrev pub IsRun : Option Classes → CallNumbers → List ArgNumbers → DoneNumbers → Option Classes → Type 0
IsRun (Some classes) call args done after = IsAnswer classes call args done × (after ≡ Some classes)
IsRun None call args done after = (done ≡ not_run 4) × (after ≡ None)
