use Rattle.std.proofs.Common.{◌≡◌, ◌++◌, map}
use Rattle.search.specs.Seen.{node_seen}
use Rattle.loop_bounds.specs.Nexts.{at_node}
use Rattle.loop_bounds.specs.Found.{points_seen}
use Rattle.loop_bounds.proofs.nexts.add_nodes.Given as goal

abbrev pub invariant-loop-node : goal.invariant-loop-node
invariant-loop-node l = record {
  rest : l.yielded ++ l.node-iterator.rest.items ≡ l.fn.nodes.items;
  to : points_seen l.to.items ≡ points_seen l.fn.to.items ++ map (at_node l.method) (map node_seen l.yielded);
}
