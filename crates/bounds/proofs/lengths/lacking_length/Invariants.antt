use Rattle.std.specs.List.{AllWithin}
use Rattle.typecheck.specs.DeclaredPlaces.{ArePlacesRising}
use Rattle.bounds.specs.Lengths.{HasLengths}
use Rattle.bounds.proofs.lengths.lacking_length.Given as goal

abbrev pub invariant-loop-method : goal.invariant-loop-method
invariant-loop-method l = AllWithin (λ row. ArePlacesRising row.declared.items → HasLengths row) l.methods 0 l.method-index
