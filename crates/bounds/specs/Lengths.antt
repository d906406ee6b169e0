-- The lengths of new arrays in typed methods.
use Rattle.std.specs.Prelude.{◌≡◌, ℕ, ◌<◌, length, get_or, ◌==◌, Bool, true, false, not, ◌&&◌, ◌||◌, List, [], ◌∷◌, Contains, Option, Some, None, ℤ, pos, ◌⊎◌}
use Rattle.std.specs.Int.Signed.{le_z}
use Rattle.jtypes.specs.declared.operations.ArrayKind.{ArrayKind}
use Rattle.decode.specs.declared.instruction.Instruction.{Instruction}
use Rattle.decode.specs.declared.instruction.Instruction.TheVariants.{NewArray}
use Rattle.decode.specs.declared.instruction.Placed.{Placed}
use Rattle.decode.specs.Places.{at_place, pushed_before}
use Rattle.typecheck.specs.Mismatch.{HasLength}
use Rattle.typecheck.specs.DeclaredPlaces.{ArePlacesRising}
use Rattle.typecheck.specs.declared.typed.Typed.{Typed}

-- `HasLengths row` holds if each `newarray` of a typed method has a constant length, and no declared frame
abbrev pub HasLengths : Typed → Type 0
HasLengths row = (q : ℕ) (p : Placed) (k : ArrayKind) → at_place row.code q ≡ Some p → p.instruction ≡ NewArray k → HasLength row.code q × (Contains row.declared.items q → ⊥)

-- `LacksLengthIn row` holds if a `newarray` of a typed method has no constant length, or has a declared frame
abbrev pub LacksLengthIn : Typed → Type 0
LacksLengthIn row = (q : ℕ) × (p : Placed) × (k : ArrayKind) × (at_place row.code q ≡ Some p) × (p.instruction ≡ NewArray k) × ((HasLength row.code q → ⊥) ⊎ Contains row.declared.items q)

-- the same for each typed method whose frames' pcs increase
abbrev pub HaveLengths : List Typed → Type 0
HaveLengths rows = (i : ℕ) (d : Typed) → i < length rows → ArePlacesRising (get_or rows i d).declared.items → HasLengths (get_or rows i d)

abbrev pub OneLacksLength : List Typed → Type 0
OneLacksLength rows = (i : ℕ) × (row : Typed) × (i < length rows) × (row ≡ get_or rows i row) × (ArePlacesRising row.declared.items → LacksLengthIn row)

-- ---- the same, instruction by instruction

abbrev pub is_length : Option ℤ → Bool
is_length None = false
is_length (Some n) = le_z (pos 0) n && le_z n (pos 65_535)

abbrev pub is_among : List ℕ → ℕ → Bool
is_among [] q = false
is_among (x ∷ xs) q = x == q || is_among xs q

abbrev pub has_length : Typed → Placed → Instruction → Bool
has_length row p (NewArray k) = is_length (pushed_before row.code p.place) && not (is_among row.declared.items p.place)
has_length row p _ = true
