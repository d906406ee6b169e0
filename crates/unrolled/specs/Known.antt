-- What is known of a value before an instruction: constants of ints (JVMS §2.11), and the lengths of arrays.
use Rattle.std.specs.Prelude.{ℕ, Bool, true, false, List, [], ◌∷◌, ◌++◌, map, get_or, Option, Some, None, ℤ, pos, if◌then◌else◌}
use Rattle.std.specs.Bool.{beq}
use Rattle.jtypes.specs.declared.types.JType.{JType}
use Rattle.jtypes.specs.declared.types.JType.TheVariants as type
use Rattle.jtypes.specs.declared.operations.Comparison.{Comparison}
use Rattle.jtypes.specs.Arithmetic.{compare}

-- `Wide`: a long. All others are no longs. `Narrow`: nothing else is known. `Number n`: the int `n`. `Count`: an int, the number of the
-- invocation's arguments. `Sized n`: an array of `n` elements. `Arguments`: the array of the arguments.
pub data Known : Type 0 where
  Wide : Known
  Narrow : Known
  Number : ℤ → Known
  Count : Known
  Sized : ℕ → Known
  Arguments : Known

abbrev pub is_wide : Known → Bool
is_wide Wide = true
is_wide _ = false

-- only whether it is a long
abbrev pub forgotten : Known → Known
forgotten Wide = Wide
forgotten _ = Narrow

-- what is known of a value by its type alone
abbrev pub unknown_of : JType → Known
unknown_of type.Long = Wide
unknown_of t = Narrow

-- of a local variable; of one that the list lacks nothing is known
abbrev pub known_local : List Known → ℕ → Known
known_local ks n = get_or ks n Narrow

-- ---- comparisons

-- an invocation has at most eight arguments
abbrev pub counts : List ℤ
counts = pos 0 ∷ pos 1 ∷ pos 2 ∷ pos 3 ∷ pos 4 ∷ pos 5 ∷ pos 6 ∷ pos 7 ∷ pos 8 ∷ []

-- the ints that the value may be; none if that isn't known
abbrev pub ints_of : Known → List ℤ
ints_of (Number n) = n ∷ []
ints_of Count = counts
ints_of _ = []

-- the answer for each pair
abbrev pub answers : Comparison → List ℤ → List ℤ → List Bool
answers c [] bs = []
answers c (a ∷ others) bs = map (compare c a) bs ++ answers c others bs

abbrev pub all_are : Bool → List Bool → Bool
all_are b [] = true
all_are b (x ∷ xs) = if beq b x then all_are b xs else false

-- the answer, if there are answers and all are the same
abbrev pub unanimous : List Bool → Option Bool
unanimous [] = None
unanimous (b ∷ bs) = if all_are b bs then Some b else None

abbrev pub compared : Comparison → Known → Known → Option Bool
compared c a b = unanimous (answers c (ints_of a) (ints_of b))
