use Rattle.std.proofs.Common.{inr}
use Rattle.verdict.proofs.Spots.{initialiser_at, no_initialiser}
use Rattle.verdict.proofs.shape_spot.initialiser.Goals as goal

pub returns-in-Some : goal.returns-in-Some
returns-in-Some c = inr (c.requires, initialiser_at c.args.class.now.pool c.args.class.now.parts c.in-Some.number (rw c.as_slice.ensures at c.in-Some.ensures.some))

pub returns-in-None : goal.returns-in-None
returns-in-None c = absurd (no_initialiser c.args.class.now.pool c.args.class.now.parts (rw c.as_slice.ensures at c.in-None.ensures.none) c.requires)
