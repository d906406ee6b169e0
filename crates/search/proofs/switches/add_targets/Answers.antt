use Rattle.std.proofs.Common.{arith, ◌≡◌, ◌++◌, map}
use Rattle.std.proofs.lemmas.Grind.{common_steps}
use Rattle.decode.specs.Places.{targets_in}
use Rattle.unrolled.specs.Graph.{to_target}
use Rattle.search.specs.Seen.{node_seen, operands_seen}
use Rattle.search.proofs.Targets.{targets_more}
use Rattle.search.proofs.switches.add_targets.Goals as goal

pub loop-i-preserved : goal.loop-i-preserved
loop-i-preserved c =
    let e : map node_seen c.in_ok-to.to.items ≡ map node_seen c.loop-i.to.items ++ to_target (node_seen c.args.x.now) c.target.result (operands_seen c.args.x.now.operands.items) = grind (arith, common_steps) in
    targets_more (node_seen c.args.x.now) (operands_seen c.args.x.now.operands.items) (targets_in c.args.cases.now) c.loop-i.i c.target.result _ _ _ c.target.ensures e c.loop-i.invariant
