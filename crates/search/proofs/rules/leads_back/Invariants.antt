use Rattle.std.proofs.Common.{◌≡◌, drop}
use Rattle.unrolled.specs.Rules.{leads_back}
use Rattle.search.proofs.rules.leads_back.Given as goal

abbrev pub invariant-loop-p : goal.invariant-loop-p
invariant-loop-p l = leads_back l.code ≡ leads_back (drop l.p-index l.code)
