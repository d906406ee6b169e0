use Rattle.std.proofs.Common.{None}
use Rattle.std.specs.List.{AllWithin}
use Rattle.decode.specs.Reading.{IsTargetRefusal}
use Rattle.decode.proofs.sequence.Code.target_fault.Given as goal

abbrev pub invariant-loop-p : goal.invariant-loop-p
invariant-loop-p l = AllWithin (λ p. IsTargetRefusal l.self p None) l.self 0 l.p-index
