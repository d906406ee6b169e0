-- The compatibility of each profile with the one before it.
use Rattle.std.specs.Prelude.{◌≡◌, ◌≤◌, ◌↔◌, ℕ, List}
use Rattle.jtypes.specs.Profile.{Profile}
use Rattle.decode.specs.Profiles.{IsNext}
use Rattle.typecheck.specs.Typing.{Class, IsProcessOf}
use Rattle.bounds.specs.Paths.{Bounds, AreBounds, step_limit}
use Rattle.verdict.specs.Machine.{Invocation, Final}
use Rattle.verdict.specs.Meaning.{Means}
use Rattle.verdict.specs.Verdict.{IsAccepted, IsClassOf}

-- A profile accepts all bytes that the one before it accepts.
abbrev pub AcceptedIsKept : Type 0
AcceptedIsKept = (p q : Profile) → IsNext p q → (bytes : List ℕ) → IsAccepted p bytes → IsAccepted q bytes

-- Bytes that define a class in both profiles define the same class.
abbrev pub ClassIsKept : Type 0
ClassIsKept = (p q : Profile) → IsNext p q → (bytes : List ℕ) (c d : Class) → IsClassOf p bytes c → IsClassOf q bytes d → c ≡ d

-- A class of a profile is a class of the one after it.
abbrev pub ClassGoesOn : Type 0
ClassGoesOn = (p q : Profile) → IsNext p q → (bytes : List ℕ) (c : Class) → IsClassOf p bytes c → IsClassOf q bytes c

-- An accepted class of a profile has the same bounds in the one after it, within the earlier profile's limit of steps.
abbrev pub BoundsAreKept : Type 0
BoundsAreKept = (p q : Profile) → IsNext p q → (bytes : List ℕ) (c d : Class) (j : ℕ) (b : Bounds) → IsAccepted p bytes → IsClassOf p bytes c → IsClassOf q bytes d → IsProcessOf d j → AreBounds d j b
    → IsProcessOf c j × AreBounds c j b × (b.steps ≤ step_limit p)

-- Each invocation has the same meaning in both profiles.
abbrev pub MeaningIsKept : Type 0
MeaningIsKept = (p q : Profile) → IsNext p q → (bytes : List ℕ) (c d : Class) (call : Invocation) (f : Final) → IsClassOf p bytes c → IsClassOf q bytes d → Means c call f ↔ Means d call f
