use Rattle.explain.specs.Listed.{AreListed}
use Rattle.explain.proofs.costs.listed.Given as goal

abbrev pub invariant-loop-method : goal.invariant-loop-method
invariant-loop-method l = AreListed l.methods l.known l.method-index l.costs.items
