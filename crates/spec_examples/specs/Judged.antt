-- The answers of the program `judge_by` for small classes, compared with the definition of the verdict.
use Rattle.std.specs.Prelude.{◌≡◌, ℕ, List, [], ◌∷◌}
use Rattle.jtypes.specs.declared.refusal.Refusal.{Refusal}
use Rattle.jtypes.specs.declared.refusal.Refusal.TheVariants.{NoProcess, OutsideProfile}
use Rattle.jtypes.specs.Refusals.{number}
use Rattle.jtypes.specs.Profile.{Profile, First, Second}
use Rattle.typecheck.specs.Typing.{Class, IsProcessOf}
use Rattle.bounds.specs.Paths.{AreBounds}
use Rattle.verdict.specs.Verdict.{IsAccepted, IsClassOf, IsRefused}
use Rattle.soundness.specs.Accepted.{small_bytes}
use Rattle.spec_examples.specs.BooleanBytes.{flag_bytes}
use Rattle.spec_examples.specs.Hidden.{hidden_bytes}
use Rattle.spec_examples.specs.Judge.{Answered, Refused, Accepted, judge_by}
use Rattle.spec_examples.specs.SmallSwitch.{switch_bytes}

-- Each number is that of a refusal that applies.
abbrev pub EachApplies : Profile → List ℕ → List ℕ → Type 0
EachApplies profile bytes [] = Unit {0}
EachApplies profile bytes (n ∷ ns) = ((r : Refusal) × (number r ≡ n) × IsRefused profile bytes r) × EachApplies profile bytes ns

-- An answer that refuses is the verdict if each of its numbers, at least one, is that of a refusal that applies; others may apply too.
-- An answer that accepts is the verdict if no refusal applies, and its bounds are those of the class.
abbrev pub IsVerdict : Profile → List ℕ → Answered → Type 0
IsVerdict profile bytes (Refused []) = ⊥
IsVerdict profile bytes (Refused (n ∷ ns)) = EachApplies profile bytes (n ∷ ns)
IsVerdict profile bytes (Accepted steps words slots depth) =
    IsAccepted profile bytes
    × ((c : Class) × (j : ℕ) × IsClassOf profile bytes c × IsProcessOf c j × AreBounds c j (record { steps = steps; words = words; slots = slots; depth = depth }))

-- `judge_by` computes this answer from the bytes, and it is the verdict.
abbrev pub IsJudged : Profile → List ℕ → Answered → Type 0
IsJudged profile bytes a = (judge_by profile bytes ≡ a) × IsVerdict profile bytes a

-- Each profile accepts the small class, which has two steps, three local variables and an operand.
abbrev pub SmallIsJudged : Type 0
SmallIsJudged = (profile : Profile) → IsJudged profile small_bytes (Accepted 2 0 4 1)

-- Each profile refuses the small class by `NoProcess` if its `process` isn't public, and by nothing else.
abbrev pub HiddenIsJudged : Type 0
HiddenIsJudged = (profile : Profile) → IsJudged profile hidden_bytes (Refused (11 ∷ [])) × ((r : Refusal) → IsRefused profile hidden_bytes r → r ≡ NoProcess)

-- The profiles before the third refuse Flag by `BadDescriptor`, because they don't know the type Boolean.
abbrev pub FlagIsJudged : Type 0
FlagIsJudged = IsJudged First flag_bytes (Refused (7 ∷ [])) × IsJudged Second flag_bytes (Refused (7 ∷ []))

-- The first profile refuses the small class with a switch by `OutsideProfile` of the opcode, and by nothing else.
abbrev pub SwitchIsJudged : Type 0
SwitchIsJudged = IsJudged First switch_bytes (Refused (17 ∷ [])) × ((r : Refusal) → IsRefused First switch_bytes r → r ≡ OutsideProfile 0xAA)
