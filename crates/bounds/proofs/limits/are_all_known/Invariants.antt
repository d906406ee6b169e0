use Rattle.std.specs.Prelude.{IsSome}
use Rattle.std.specs.List.{AllWithin}
use Rattle.bounds.specs.Cells.{known_at}
use Rattle.bounds.proofs.limits.are_all_known.Given as goal

abbrev pub invariant-loop-method : goal.invariant-loop-method
invariant-loop-method l = AllWithin (λ row. IsSome (known_at l.known row.number)) l.methods 0 l.method-index
