use Rattle.explain.proofs.Listing.{AreCallsUpTo}
use Rattle.explain.proofs.circle.is_circle.Given as goal

abbrev pub invariant-loop-i : goal.invariant-loop-i
invariant-loop-i l = AreCallsUpTo l.methods l.calls l.i
