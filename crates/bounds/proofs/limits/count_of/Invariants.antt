use Rattle.std.proofs.Common.{ℕ, ◌<◌, ◌≤◌, suc, get_or}
use Rattle.std.specs.Prelude.{min}
use Rattle.typecheck.specs.declared.typed.Typed.{Typed}
use Rattle.bounds.proofs.limits.count_of.Given as goal

abbrev pub invariant-loop-method : goal.invariant-loop-method
invariant-loop-method l = (i : ℕ) (d : Typed) → i < l.method-index → min (suc (get_or l.methods i d).number) 18_446_744_073_709_551_615 ≤ l.count
