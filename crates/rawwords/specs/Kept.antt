-- The invariant of a buffer of words.
use Rattle.std.specs.Prelude.{◌≡◌, ℕ, ◌<◌, ◌≤◌, ◌^◌, List, length, map, take, Option, Some, unwrap_or}
use Rattle.rawwords.specs.declared.words.RawWords.TheInside.{Inside}
use Rattle.rawwords.specs.Row.{Row}

-- The words of a block. An uninitialized word counts as 0.
abbrev pub words_in : List (Option ℕ) → List ℕ
words_in places = map (λ p. unwrap_or p 0) places

abbrev pub row_in : Inside → Row
row_in a = record { items = words_in (take a.len a.block.places); capacity = a.capacity }

-- The first `n` words are written.
abbrev pub IsWritten : List (Option ℕ) → ℕ → Type 0
IsWritten places n = map (λ w. Some w) (words_in (take n places)) ≡ take n places

-- The block has the capacity, the deed is the block's, and the first `len` words are written.
pub record IsKept (a : Inside) : Type 0 where
  pub narrow : a.capacity < 2 ^ 32
  pub few : a.len ≤ a.capacity
  pub places : length a.block.places ≡ a.capacity
  pub at : a.deed.at ≡ a.block.at
  pub count : a.deed.count ≡ a.capacity
  pub alloc : a.deed.alloc ≡ a.alloc
  pub written : IsWritten a.block.places a.len
