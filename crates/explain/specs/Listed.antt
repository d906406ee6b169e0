-- The results of the functions that explain a class.
use Rattle.std.specs.Prelude.{◌≡◌, ℕ, ◌<◌, List, length, get_or, Option, Some}
use Rattle.jtypes.specs.declared.refusal.Refusal.TheVariants.{LengthNotConstant}
use Rattle.typecheck.specs.Typing.{Class}
use Rattle.typecheck.specs.declared.typed.Typed.{Typed}
use Rattle.bounds.specs.Cells.{Cell, capped, known_at}
use Rattle.bounds.specs.Paths.{Cost, AreBounds}
use Rattle.bounds.specs.Table.{bounds_of}
use Rattle.bounds.specs.Told.{OneLacksLengthAt}
use Rattle.verdict.specs.declared.spot.Located.{Located}
use Rattle.verdict.specs.declared.spot.Spot.TheVariants.{AtInstruction}
use Rattle.explain.specs.declared.costs.MethodCost.{MethodCost}

-- `AreListed` holds if these are the known costs of the first `n` methods, in their order.
pub record AreListed (rows : List Typed) (known : List (Option Cell)) (n : ℕ) (costs : List MethodCost) : Type 0 where
  pub count : length costs ≡ n
  pub each : (i : ℕ) (d : MethodCost) (t : Typed) → i < n
      → ((get_or costs i d).number ≡ (get_or rows i t).number) × (known_at known (get_or rows i t).number ≡ Some (get_or costs i d).cost)

-- `AreCostsListed` holds if these are the maximum costs of the methods' paths, in their order.
pub record AreCostsListed (c : Class) (rows : List Typed) (costs : List MethodCost) : Type 0 where
  pub count : length costs ≡ length rows
  pub each : (i : ℕ) (d : MethodCost) (t : Typed) → i < length rows
      → ((get_or costs i d).number ≡ (get_or rows i t).number) × ((k : Cost) × AreBounds c (get_or rows i t).number (bounds_of k) × ((get_or costs i d).cost ≡ capped k))

-- `IsLackingAmong` holds if the location is that of a `newarray` without a constant length in one of the methods.
abbrev pub IsLackingAmong : List Typed → Located → Type 0
IsLackingAmong rows l = (l.refusal ≡ LengthNotConstant) × (number : ℕ) × (place : ℕ) × (l.spot ≡ AtInstruction number place) × OneLacksLengthAt rows number place
