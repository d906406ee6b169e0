-- The costs of the methods of a class.
use Rattle.std.specs.Prelude.{◌≡◌, ℕ, ◌<◌, true, List, length, get_or}
use Rattle.typecheck.specs.Typing.{Class}
use Rattle.bounds.specs.Cells.{capped}
use Rattle.bounds.specs.Paths.{Cost, AreBounds}
use Rattle.bounds.specs.Table.{bounds_of}
use Rattle.verdict.specs.Checked.{members}
use Rattle.explain.specs.declared.costs.MethodCost.{MethodCost}

-- `IsCostOf` holds if the cost is the maximum of the method's paths in each of the four measures, capped at 32 bits.
abbrev pub IsCostOf : Class → MethodCost → Type 0
IsCostOf c m = (k : Cost) × AreBounds c m.number (bounds_of k) × (m.cost ≡ capped k)

-- `AreCostsOf` holds if these are costs of methods of the class, and each method except the constructor has one.
pub record AreCostsOf (c : Class) (costs : List MethodCost) : Type 0 where
  pub each : (i : ℕ) (d : MethodCost) → i < length costs → IsCostOf c (get_or costs i d)
  pub each_has_one : (j : ℕ) → members c j ≡ true → (i : ℕ) × (i < length costs) × ((d : MethodCost) → (get_or costs i d).number ≡ j)
