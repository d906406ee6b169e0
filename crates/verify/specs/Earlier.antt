-- The profiles before the third one, and the bounds of a class in them.
use Rattle.std.specs.Prelude.{◌≤◌, ℕ}
use Rattle.jtypes.specs.Profile.{Profile, Third}
use Rattle.typecheck.specs.Typing.{Class, IsProcessOf}
use Rattle.bounds.specs.Paths.{Bounds, AreBounds, step_limit}

abbrev pub IsEarlier : Profile → Type 0
IsEarlier Third = ⊥
IsEarlier profile = Unit {0}

-- `HasStepsOf profile c` holds if the bounds of the class are within the profile's limit of steps.
abbrev pub HasStepsOf : Profile → Class → Type 0
HasStepsOf profile c = (j : ℕ) (b : Bounds) → IsProcessOf c j → AreBounds c j b → b.steps ≤ step_limit profile
