use Rattle.std.proofs.Common.{◌≡◌, false}
use Rattle.std.specs.List.{AllWithin}
use Rattle.bounds.proofs.limits.bound.Given as goal

abbrev pub invariant-loop-method : goal.invariant-loop-method
invariant-loop-method l = AllWithin (λ row. row.is_process ≡ false) l.methods 0 l.method-index
