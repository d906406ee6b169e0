-- The invariant of an accepted class.
use Rattle.std.specs.Prelude.{ℕ, List}
use Rattle.typecheck.specs.Typing.{Class, IsProcessOf}
use Rattle.bounds.specs.declared.limits.Bounds.{Bounds}
use Rattle.bounds.specs.Limits.{IsWithinLimits}
use Rattle.bounds.specs.Paths.{AreBounds}
use Rattle.bounds.specs.Rows.{bounds_in}
use Rattle.verdict.specs.Verdict.{IsAccepted, IsClassOf}
use Rattle.vmcode.specs.declared.stack_instr.LinkedClass.{LinkedClass}
use Rattle.vmcode.specs.Linking.{IsLinked, IsEntry}
use Rattle.vmcode.specs.Numbering.{index_of}
use Rattle.jtypes.specs.Profile.{Third}

-- `Holds` holds if `c` is the class of accepted bytes, and these are its bounds, within the limits, and its linked code.
pub record Holds (c : Class) (limits : Bounds) (linked : LinkedClass) : Type 0 where
  pub bytes : List ℕ
  pub accepted : IsAccepted Third bytes
  pub class : IsClassOf Third bytes c
  pub bounds : (j : ℕ) → IsProcessOf c j → AreBounds c j (bounds_in limits)
  pub within : IsWithinLimits Third limits
  pub code : IsLinked c (index_of c) linked
  pub entry : IsEntry c (index_of c) linked.process
