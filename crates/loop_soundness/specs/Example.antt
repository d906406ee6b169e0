-- The small class with a loop satisfies the premises.
use Rattle.typecheck.specs.Typing.{IsProcessOf}
use Rattle.bounds.specs.Paths.{Bounds}
use Rattle.unrolled.specs.Rules.{rules_of}
use Rattle.unrolled.specs.Paths.{start_node, AreBounds}
use Rattle.unrolled.specs.Example.{loop_class, loop_method}
use Rattle.loop_soundness.specs.Checked.{IsCheckedWithLoops}
use Rattle.loop_soundness.specs.Sound.{IsSafeWithArguments}

-- It is checked, has bounds, and is safe within them.
pub record LoopIsSafe : Type 0 where
  pub checked : IsCheckedWithLoops loop_class
  pub process : IsProcessOf loop_class 0
  pub bounds : Bounds
  pub are : AreBounds loop_class (rules_of loop_class) 0 (start_node (rules_of loop_class) 0 loop_method) bounds
  pub safe : IsSafeWithArguments loop_class bounds
