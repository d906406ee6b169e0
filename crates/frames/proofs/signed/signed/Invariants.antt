use Rattle.frames.proofs.Named.{AreSignedTo}
use Rattle.frames.proofs.signed.signed.Given as goal

abbrev pub invariant-loop-k : goal.invariant-loop-k
invariant-loop-k l = AreSignedTo l.class l.k l.methods.items
