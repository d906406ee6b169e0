use Rattle.std.proofs.Common.{◌≡◌, ◌++◌, [], List, map, ap, ◌∙◌}
use Rattle.search.specs.declared.node.Node.{Node}
use Rattle.search.specs.Seen.{node_seen}
use Rattle.loop_bounds.specs.Nexts.{at_node}
use Rattle.loop_bounds.specs.Found.{points_seen}
use Rattle.loop_bounds.proofs.Lists.{nothing_left, yielded_all, yielded_more, nodes_none, nodes_more}
use Rattle.loop_bounds.proofs.nexts.add_nodes.Goals as goal

pub loop-node-init : goal.loop-node-init
loop-node-init c = record { rest = c.into_iter-node-iterator.ensures.into_iter_gives.0; to = nodes_none c.args.to.items c.args.method }

pub loop-node-preserved : goal.loop-node-preserved
loop-node-preserved c = record {
  rest = yielded_more c.loop-node.yielded _ _ c.args.nodes.items c.in-Some.node c.loop-node.invariant.rest c.in-Some.ensures.steps.0;
  to = nodes_more c.args.to.items c.loop-node.to.items _ c.args.method c.loop-node.yielded c.in-Some.node c.loop-node.invariant.to c.in_ok-push.ensures.items;
}

pub returns : goal.returns
returns c =
    let none : c.loop-node.node-iterator.rest.items ≡ [] = nothing_left _ _ c.loop-node.node-iterator.rest.ok.0 c.in-None.ensures.steps.0 in
    let all : c.loop-node.yielded ≡ c.args.nodes.items = yielded_all c.loop-node.yielded _ _ c.loop-node.invariant.rest none in
    c.loop-node.invariant.to ∙ ap (λ (l : List Node). points_seen c.args.to.items ++ map (at_node c.args.method) (map node_seen l)) all
