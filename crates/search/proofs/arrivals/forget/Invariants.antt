use Rattle.std.proofs.Common.{◌≡◌, map}
use Rattle.unrolled.specs.Known.{forgotten}
use Rattle.search.specs.Seen.{known_seen}
use Rattle.search.proofs.Entering.{over}
use Rattle.search.proofs.arrivals.forget.Given as goal

abbrev pub invariant-loop-i : goal.invariant-loop-i
invariant-loop-i l = map known_seen l.operands ≡ over forgotten l.i (map known_seen l.initial.operands)
