use Rattle.std.proofs.Common.{◌≡◌, ◌<◌, ◌∙◌, arith, length, map}
use Rattle.std.proofs.lemmas.List.{length-map}
use Rattle.unrolled.specs.Graph.{arrive}
use Rattle.search.specs.Seen.{node_seen, following_seen}
use Rattle.search.proofs.Entering.{over_next, over-none, over-all}
use Rattle.search.proofs.arrivals.arrive_all.Goals as goal

pub loop-i-init : goal.loop-i-init
loop-i-init c = over-none _ _

pub loop-i-preserved : goal.loop-i-preserved
loop-i-preserved c =
    let within : c.loop-i.i < length c.loop-i.ys = omega arith in
    over_next node_seen (arrive (following_seen c.args.f.now)) c.loop-i.ys (map node_seen c.args.ys.now) c.loop-i.i c.index-ys-i.result c.arrive.new.x within c.loop-i.invariant
    c.arrive.ensures

pub returns : goal.returns
returns c =
    let size : length (map node_seen c.args.ys.now) ≡ length c.args.ys.now = length-map c.args.ys.now node_seen in
    let all : c.loop-i.i ≡ length (map node_seen c.args.ys.now) = omega arith in
    c.loop-i.invariant ∙ over-all (arrive (following_seen c.args.f.now)) (map node_seen c.args.ys.now) c.loop-i.i all
