-- Ranks and recursion: a class has ranks if and only if it isn't recursive.
use Rattle.std.specs.Prelude.{ℕ}
use Rattle.typecheck.specs.Typing.{Class}
use Rattle.bounds.specs.Recursion.{IsOrdered, IsRecursive}

-- `HasRanks` holds if some ranks decrease at each own call.
abbrev pub HasRanks : Class → Type 0
HasRanks c = (rank : ℕ → ℕ) × IsOrdered c rank

-- A class that isn't recursive has ranks.
abbrev pub NotRecursiveHasRanks : Type 0
NotRecursiveHasRanks = (c : Class) → (IsRecursive c → ⊥) → HasRanks c

-- A class with ranks isn't recursive.
abbrev pub RankedIsNotRecursive : Type 0
RankedIsNotRecursive = (c : Class) → HasRanks c → IsRecursive c → ⊥
