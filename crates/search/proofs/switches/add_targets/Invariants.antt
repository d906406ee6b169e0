use Rattle.std.proofs.Common.{◌≡◌, ◌++◌, drop, map}
use Rattle.decode.specs.Places.{targets_in}
use Rattle.unrolled.specs.Graph.{to_targets}
use Rattle.search.specs.Seen.{node_seen, operands_seen}
use Rattle.search.proofs.switches.add_targets.Given as goal

abbrev pub invariant-loop-i : goal.invariant-loop-i
invariant-loop-i l =
    map node_seen l.to.items ++ to_targets (node_seen l.x) (drop l.i (targets_in l.cases)) (operands_seen l.x.operands.items)
    ≡ map node_seen l.initial.to.items ++ to_targets (node_seen l.x) (targets_in l.cases) (operands_seen l.x.operands.items)
