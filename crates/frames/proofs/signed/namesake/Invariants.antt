use Rattle.std.proofs.Common.{◌≡◌}
use Rattle.frames.proofs.signed.namesake.Given as goal

abbrev pub invariant-loop-j : goal.invariant-loop-j
invariant-loop-j l = l.methods ≡ l.methods
