-- The classes of a stream, by number.
use Rattle.std.specs.Prelude.{ℕ, zero, suc, ◌<◌, ◌≤◌, ◌⊎◌, List, [], ◌∷◌, length, Option, Some, None, slice_get, slice_set}
use Rattle.jtypes.specs.Lists.{◌>>=◌}
use Rattle.typecheck.specs.Typing.{Class}

-- The classes by number. A number whose class was forgotten has none, and isn't given to another class.
abbrev pub Classes : Type 0
Classes = List (Option Class)

-- The class with this number, if there is one.
abbrev pub class_at : Classes → ℕ → Option Class
class_at classes number = slice_get classes number >>= (λ class. class)

-- The classes after the one with this number is forgotten.
abbrev pub without : ℕ → Classes → Classes
without number classes = slice_set classes number None

-- The number of classes that are not forgotten.
abbrev pub held : Classes → ℕ
held [] = 0
held (None ∷ classes) = held classes
held (Some c ∷ classes) = suc (held classes)

-- The maximum number of classes of a stream, without those that it forgot.
abbrev pub most_classes : ℕ
most_classes = 4096

-- The maximum number of class numbers of a stream.
abbrev pub most_numbers : ℕ
most_numbers = 65_536

-- `HasRoom` holds if the stream may define one more class.
pub record HasRoom (classes : Classes) : Type 0 where
  pub few : held classes < most_classes
  pub numbers : length classes < most_numbers

-- `IsFull` holds if the stream may not define one more class.
abbrev pub IsFull : Classes → Type 0
IsFull classes = (most_classes ≤ held classes) ⊎ (most_numbers ≤ length classes)
