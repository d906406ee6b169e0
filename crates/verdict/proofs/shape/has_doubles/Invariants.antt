use Rattle.std.proofs.Common.{◌≡◌, length}
use Rattle.verdict.specs.Shaping.{has_doubles}
use Rattle.verdict.proofs.shape.has_doubles.Given as goal

abbrev pub invariant-loop-m : goal.invariant-loop-m
invariant-loop-m l = has_doubles l.class.pool l.rest ≡ has_doubles l.class.pool l.methods

abbrev pub decreases-loop-m : goal.decreases-loop-m
decreases-loop-m l = length l.rest
