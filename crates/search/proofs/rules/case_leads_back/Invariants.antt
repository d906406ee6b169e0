use Rattle.std.proofs.Common.{◌≡◌, drop}
use Rattle.decode.specs.Places.{cases_of}
use Rattle.unrolled.specs.Rules.{any_back}
use Rattle.search.proofs.rules.case_leads_back.Given as goal

abbrev pub invariant-loop-i : goal.invariant-loop-i
invariant-loop-i l = any_back l.p.place (cases_of l.p.instruction) ≡ any_back l.p.place (drop l.i (cases_of l.p.instruction))
