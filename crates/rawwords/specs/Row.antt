-- A buffer of words, as contracts see it.
use Rattle.std.specs.Prelude.{ℕ, List}

-- The words so far, and the capacity in words.
pub record Row : Type 0 where
  pub items : List ℕ
  pub capacity : ℕ
