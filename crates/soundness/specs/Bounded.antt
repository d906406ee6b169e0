-- The existence of bounds.
use Rattle.std.specs.Prelude.{ℕ, List}
use Rattle.typecheck.specs.Typing.{Class, IsProcessOf}
use Rattle.bounds.specs.Paths.{Bounds, AreBounds}
use Rattle.bounds.specs.Table.{LeadsOn}
use Rattle.verdict.specs.Verdict.{IsAccepted, IsClassOf}
use Rattle.verdict.specs.Checked.{IsChecked, members}
use Rattle.jtypes.specs.Profile.{Third}

-- In a checked class, each instruction of a method other than the constructor has valid successors.
abbrev pub CheckedLeadsOn : Type 0
CheckedLeadsOn = (c : Class) → IsChecked c → LeadsOn c (members c)

-- An accepted class has `process` and its bounds.
abbrev pub AcceptedHasBounds : Type 0
AcceptedHasBounds = (bytes : List ℕ) (c : Class) → IsAccepted Third bytes → IsClassOf Third bytes c → (j : ℕ) × (b : Bounds) × IsProcessOf c j × AreBounds c j b
