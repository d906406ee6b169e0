use Rattle.verdict.specs.ShapeSpots.{AreGoodUpTo}
use Rattle.verdict.proofs.shape_spot.first_bad.Given as goal

abbrev pub invariant-loop-number : goal.invariant-loop-number
invariant-loop-number l = AreGoodUpTo l.class.pool l.class.parts l.methods l.number
