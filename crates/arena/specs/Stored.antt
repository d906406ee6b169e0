-- The layout of an arena's arrays: each is its header and then its elements, and the arrays are contiguous.
use Rattle.std.specs.Prelude.{◌≡◌, ℕ, zero, suc, ◌+◌, ◌-◌, ◌*◌, ◌/◌, ◌%◌, ◌^◌, ◌<◌, ◌≤◌, ◌==◌, if◌then◌else◌, List, [], ◌∷◌, ◌++◌, length, map, take, drop, ℤ, FitsSigned}
use Rattle.std.specs.Int.{w64, cast_signed, cast_unsigned}
use Rattle.jtypes.specs.declared.operations.ArrayKind.{ArrayKind}
use Rattle.jtypes.specs.declared.operations.ArrayKind.TheVariants as array
use Rattle.jtypes.specs.Values.{Array, Arrays}
use Rattle.arena.specs.declared.arena.Arena.TheInside.{Inside}
use Rattle.arena.specs.Held.{Held}
use Rattle.arena.specs.Placing.{FitsElement}

-- The header: the kind in the lowest bit, and the length in the bits above.
abbrev pub header_of : ArrayKind → ℕ → ℕ
header_of array.Int n = n * 2
header_of array.Long n = n * 2 + 1

abbrev pub length_in : ℕ → ℕ
length_in header = header / 2

abbrev pub kind_in : ℕ → ArrayKind
kind_in header = if header % 2 == 0 then array.Int else array.Long

-- The words of an array: its header and its elements.
abbrev pub words_for : Array → List ℕ
words_for a = header_of a.kind (length a.items) ∷ map (cast_unsigned w64) a.items

-- The words of all arrays, in order.
abbrev pub all_words : Arrays → List ℕ
all_words [] = []
all_words (a ∷ arrays) = words_for a ++ all_words arrays

-- The arrays that words represent, at most `n` of them.
abbrev pub arrays_in : ℕ → List ℕ → Arrays
arrays_in zero words = []
arrays_in (suc n) [] = []
arrays_in (suc n) (header ∷ words) = record { kind = kind_in header; items = map (cast_signed w64) (take (length_in header) words) } ∷ arrays_in n (drop (length_in header) words)

abbrev pub arrays_of : Inside → Arrays
arrays_of a = arrays_in (length a.words.items) a.words.items

abbrev pub held_in : Inside → Held
held_in a = record { arrays = arrays_of a; words_left = a.words.capacity - length a.words.items }

-- Each number fits a word and an element of the kind.
abbrev pub ElementsFit : ArrayKind → List ℤ → Type 0
ElementsFit kind [] = Unit {0}
ElementsFit kind (n ∷ items) = FitsSigned w64 n × FitsElement kind n × ElementsFit kind items

abbrev pub AllElementsFit : Arrays → Type 0
AllElementsFit [] = Unit {0}
AllElementsFit (a ∷ arrays) = ElementsFit a.kind a.items × AllElementsFit arrays

-- The words are exactly those of the arrays, within the capacity, and each element fits.
pub record IsStored (a : Inside) : Type 0 where
  pub words : a.words.items ≡ all_words (arrays_of a)
  pub elements : AllElementsFit (arrays_of a)
  pub room : length a.words.items ≤ a.words.capacity
  pub few : a.words.capacity < 2 ^ 32
