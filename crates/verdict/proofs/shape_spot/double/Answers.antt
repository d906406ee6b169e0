use Rattle.std.proofs.Common.{inr}
use Rattle.verdict.proofs.Spots.{double_at}
use Rattle.verdict.proofs.shape_spot.double.Goals as goal

pub returns-in-Some : goal.returns-in-Some
returns-in-Some c = inr (c.requires, double_at c.args.class.now.pool c.args.class.now.parts c.in-Some.number (rw c.as_slice.ensures at c.in-Some.ensures))
