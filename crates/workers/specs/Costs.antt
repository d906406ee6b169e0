-- The estimated cost of a call.
use Rattle.std.specs.Prelude.{◌≡◌, ℕ, ◌+◌}
use Rattle.jtypes.specs.Profile.{Third}
use Rattle.typecheck.specs.Typing.{Class, IsProcessOf}
use Rattle.bounds.specs.declared.limits.Bounds.{Bounds}
use Rattle.bounds.specs.Limits.{IsWithinLimits}
use Rattle.bounds.specs.Paths.{AreBounds}
use Rattle.bounds.specs.Rows.{bounds_in}

-- `IsCost` holds if `cost` is 192 plus the step bound of the class.
pub record IsCost (c : Class) (cost : ℕ) : Type 0 where
  pub limits : Bounds
  pub within : IsWithinLimits Third limits
  pub bounds : (j : ℕ) → IsProcessOf c j → AreBounds c j (bounds_in limits)
  pub cost_is : cost ≡ 192 + limits.steps
