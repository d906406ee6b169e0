use Rattle.std.proofs.Common.{take}
use Rattle.verdict.specs.Shape.{is_constructor}
use Rattle.verdict.proofs.OnlyOne.{FoundSoFar}
use Rattle.verdict.proofs.shape.only_constructor.Given as goal

abbrev pub invariant-loop-number : goal.invariant-loop-number
invariant-loop-number l = FoundSoFar (is_constructor l.class.pool) (take l.number l.methods) l.methods l.found
