-- The word indices of an arena's arrays, which are contiguous, each after its header.
use Rattle.std.specs.Prelude.{◌≡◌, ℕ, zero, suc, ◌+◌, ◌<◌, if◌then◌else◌, nat_lt, [], ◌∷◌, length, Option, Some, None, slice_get, ℤ, pos, negsuc, FitsSigned}
use Rattle.std.specs.Int.{w32}
use Rattle.jtypes.specs.declared.operations.ArrayKind.{ArrayKind}
use Rattle.jtypes.specs.declared.operations.ArrayKind.TheVariants as array
use Rattle.jtypes.specs.declared.types.RefValue.{RefValue}
use Rattle.jtypes.specs.declared.types.RefValue.TheVariants as reference
use Rattle.jtypes.specs.Values.{Array, Arrays, words_of}

-- The word index of array `k`: the number of words of the arrays before it.
abbrev pub place_of : Arrays → ℕ → ℕ
place_of [] k = 0
place_of (a ∷ arrays) zero = 0
place_of (a ∷ arrays) (suc k) = words_of (length a.items) + place_of arrays k

-- Array `k` begins at word `w`.
pub record IsArrayAt (arrays : Arrays) (k w : ℕ) : Type 0 where
  pub there : k < length arrays
  pub place : w ≡ place_of arrays k

-- The property holds for each array that begins at word `w`. There is at most one.
abbrev pub AtArray : Arrays → ℕ → (ℕ → Array → Type 0) → Type 0
AtArray arrays w P = (k : ℕ) (a : Array) → IsArrayAt arrays k w → slice_get arrays k ≡ Some a → P k a

-- The word index of an element of an array that begins at word `w`, or `None` if the index is out of bounds.
abbrev pub element_place : ℕ → Array → ℤ → Option ℕ
element_place w a (pos i) = if nat_lt i (length a.items) then Some (w + 1 + i) else None
element_place w a (negsuc i) = None

-- `v` and `r` are the same reference. An array is its number in `v`, and the index of its first word in `r`.
abbrev pub IsReference : Arrays → RefValue → RefValue → Type 0
IsReference arrays (reference.Array k) (reference.Array w) = IsArrayAt arrays k w
IsReference arrays (reference.Array k) _ = ⊥
IsReference arrays v r = r ≡ v

-- The number fits an element of this kind, given that it fits a word.
abbrev pub FitsElement : ArrayKind → ℤ → Type 0
FitsElement array.Int n = FitsSigned w32 n
FitsElement array.Long n = Unit {0}
