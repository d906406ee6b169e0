-- The classes of an engine, by their numbers.
use Rattle.std.specs.Prelude.{◌≡◌, ℕ, ◌^◌, nat_lt, List, [], ◌∷◌, ◌++◌, length, Option, Some, slice_get}
use Rattle.jtypes.specs.Lists.{only_if, ◌>>=◌}
use Rattle.jtypes.specs.Profile.{Third}
use Rattle.typecheck.specs.Typing.{Class, IsProcessOf}
use Rattle.bounds.specs.declared.limits.Bounds.{Bounds}
use Rattle.bounds.specs.Limits.{IsWithinLimits}
use Rattle.bounds.specs.Paths.{AreBounds}
use Rattle.bounds.specs.Rows.{bounds_in}
use Rattle.verdict.specs.Sound.{IsSafe}
use Rattle.verdict.specs.Verdict.{IsAccepted, IsClassOf}
use Rattle.verify.specs.Texts.{string_at}
use Rattle.embedded.specs.declared.engine.Defined.{Defined}

-- The classes by number. A class that is forgotten leaves its number empty.
abbrev pub Classes : Type 0
Classes = List (Option Class)

-- The class with a number, if there is one.
abbrev pub class_at : Classes → ℕ → Option Class
class_at classes number = slice_get classes number >>= (λ class. class)

-- The text of the `String` constant at an index of a class's constant pool (JVMS §4.4.3). An index has 16 bits.
abbrev pub text_of : Class → ℕ → Option (List ℕ)
text_of c index = only_if (nat_lt index (2 ^ 16)) (string_at c.view.pool index)

-- The text at an index of the constant pool of the class with a number, if there is one.
abbrev pub text_at : Classes → ℕ → ℕ → Option (List ℕ)
text_at classes number index = class_at classes number >>= (λ c. text_of c index)

-- Each run of the class stays within these bounds, which are within the limits.
pub record HasBounds (c : Class) (b : Bounds) : Type 0 where
  pub limits : IsWithinLimits Third b
  pub bounds : (j : ℕ) → IsProcessOf c j → AreBounds c j (bounds_in b)
  pub safe : IsSafe c (bounds_in b)

-- The bytes are accepted, and their class has these bounds and is stored under the next number.
pub record IsDefined (bytes : List ℕ) (before : Classes) (d : Defined) (after : Classes) : Type 0 where
  pub accepted : IsAccepted Third bytes
  pub class : Class
  pub of_bytes : IsClassOf Third bytes class
  pub bounds : HasBounds class d.bounds
  pub number : d.number ≡ length before
  pub kept : after ≡ before ++ (Some class ∷ [])
