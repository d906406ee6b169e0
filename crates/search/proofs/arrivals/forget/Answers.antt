use Rattle.std.proofs.Common.{◌≡◌, ◌<◌, ap, ◌∙◌, arith, length, map}
use Rattle.std.proofs.lemmas.List.{length-map}
use Rattle.unrolled.specs.Known.{forgotten}
use Rattle.search.specs.Seen.{known_seen}
use Rattle.search.proofs.Entering.{over_next, over-none, over-all}
use Rattle.search.proofs.arrivals.forget.Goals as goal

pub loop-i-init : goal.loop-i-init
loop-i-init c = over-none _ _

pub loop-i-preserved : goal.loop-i-preserved
loop-i-preserved c =
    let within : c.loop-i.i < length c.loop-i.operands = omega arith in
    over_next known_seen forgotten c.loop-i.operands (map known_seen c.args.operands.now) c.loop-i.i c.index-operands-i.result c.forgotten.result within c.loop-i.invariant
    (c.forgotten.ensures ∙ ap (λ k. forgotten (known_seen k)) c.index-operands-i.is)

pub returns : goal.returns
returns c =
    let size : length (map known_seen c.args.operands.now) ≡ length c.args.operands.now = length-map c.args.operands.now known_seen in
    let all : c.loop-i.i ≡ length (map known_seen c.args.operands.now) = omega arith in
    c.loop-i.invariant ∙ over-all forgotten (map known_seen c.args.operands.now) c.loop-i.i all
