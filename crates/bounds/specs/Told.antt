-- The results for each method: the cost of its paths, and a missing length.
use Rattle.std.specs.Prelude.{◌≡◌, ℕ, ◌<◌, List, length, get_or, Contains, Option, Some, ◌⊎◌}
use Rattle.jtypes.specs.declared.operations.ArrayKind.{ArrayKind}
use Rattle.decode.specs.declared.instruction.Instruction.TheVariants.{NewArray}
use Rattle.decode.specs.declared.instruction.Placed.{Placed}
use Rattle.decode.specs.Places.{at_place}
use Rattle.typecheck.specs.Typing.{Class}
use Rattle.typecheck.specs.Mismatch.{HasLength}
use Rattle.typecheck.specs.DeclaredPlaces.{ArePlacesRising}
use Rattle.typecheck.specs.declared.typed.Typed.{Typed}
use Rattle.bounds.specs.Cells.{Cell, capped, known_at}
use Rattle.bounds.specs.Paths.{Cost, AreBounds}
use Rattle.bounds.specs.Table.{bounds_of}

-- `AreCostsOf c rows known` holds if the known cost of each typed method is the maximum of its paths, saturated at 32 bits
abbrev pub AreCostsOf : Class → List Typed → List (Option Cell) → Type 0
AreCostsOf c rows known =
    (i : ℕ) (d : Typed) → i < length rows
    → (k : Cost) × AreBounds c (get_or rows i d).number (bounds_of k) × (known_at known (get_or rows i d).number ≡ Some (capped k))

-- `LacksLengthAt row place` holds if the `newarray` at the pc has no constant length, or has a declared frame
abbrev pub LacksLengthAt : Typed → ℕ → Type 0
LacksLengthAt row place =
    (p : Placed) × (k : ArrayKind) × (at_place row.code place ≡ Some p) × (p.instruction ≡ NewArray k)
    × ((HasLength row.code place → ⊥) ⊎ Contains row.declared.items place)

-- `OneLacksLengthAt rows number place` holds if the typed method `number` has such a `newarray` at the pc,
-- if the pcs of its frames increase
abbrev pub OneLacksLengthAt : List Typed → ℕ → ℕ → Type 0
OneLacksLengthAt rows number place =
    (i : ℕ) × (row : Typed) × (i < length rows) × (row ≡ get_or rows i row) × (row.number ≡ number)
    × (ArePlacesRising row.declared.items → LacksLengthAt row place)
