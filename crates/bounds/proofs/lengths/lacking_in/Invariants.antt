use Rattle.std.proofs.Common.{◌≡◌, true}
use Rattle.std.specs.List.{AllWithin}
use Rattle.typecheck.specs.DeclaredPlaces.{ArePlacesRising}
use Rattle.bounds.specs.Lengths.{has_length}
use Rattle.bounds.proofs.lengths.lacking_in.Given as goal

abbrev pub invariant-loop-p : goal.invariant-loop-p
invariant-loop-p l = ArePlacesRising l.method.declared.items → AllWithin (λ p. has_length l.method p p.instruction ≡ true) l.method.code 0 l.p-index
