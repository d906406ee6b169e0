-- The contents of an arena: its arrays, and the number of free words.
use Rattle.std.specs.Prelude.{ℕ, length, ℤ}
use Rattle.std.specs.List.{sum_by}
use Rattle.jtypes.specs.Values.{Array, Arrays, words_of, with_item}

pub record Held : Type 0 where
  pub arrays : Arrays
  pub words_left : ℕ

-- The number of words of arrays, with their headers.
abbrev pub words_taken : Arrays → ℕ
words_taken arrays = sum_by (λ a. words_of (length a.items)) arrays

-- The array with one element changed, for an index within bounds.
abbrev pub with_element : ℤ → ℤ → Array → Array
with_element index value a = record { kind = a.kind; items = with_item a.items index value }
