use Rattle.std.proofs.Common.{◌≡◌, drop}
use Rattle.decode.specs.Places.{among}
use Rattle.search.proofs.switches.among.Given as goal

abbrev pub invariant-loop-c : goal.invariant-loop-c
invariant-loop-c l = among l.default l.cases l.key ≡ among l.default (drop l.c-index l.cases) l.key
