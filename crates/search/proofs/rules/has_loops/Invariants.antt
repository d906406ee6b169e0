use Rattle.std.proofs.Common.{◌≡◌, drop}
use Rattle.search.specs.Followed.{have_loops}
use Rattle.search.proofs.rules.has_loops.Given as goal

abbrev pub invariant-loop-m : goal.invariant-loop-m
invariant-loop-m l = have_loops l.methods ≡ have_loops (drop l.m-index l.methods)
