use Rattle.std.proofs.Common.{◌≡◌, map}
use Rattle.unrolled.specs.Graph.{arrive}
use Rattle.search.specs.Seen.{node_seen, following_seen}
use Rattle.search.proofs.Entering.{over}
use Rattle.search.proofs.arrivals.arrive_all.Given as goal

abbrev pub invariant-loop-i : goal.invariant-loop-i
invariant-loop-i l = map node_seen l.ys ≡ over (arrive (following_seen l.f)) l.i (map node_seen l.initial.ys)
