use Rattle.std.proofs.Common.{refl, arith}
use Rattle.explain.proofs.Listing.{calls_more, some_left}
use Rattle.explain.proofs.circle.is_circle.Goals as goal

pub loop-i-preserved : goal.loop-i-preserved
loop-i-preserved c =
    calls_more c.args.methods.now c.args.calls.now c.loop-i.i c.next_of.result (record { method = 0; place = 0 }) c.loop-i-test.true c.next_of.ensures.next c.next_of.ensures.below (c.if-not-reaches.ensures refl) c.loop-i.invariant

pub returns : goal.returns
returns c = λ t. record { some = some_left _ c.is_empty.result c.is_empty.ensures t; each = λ i d l. c.loop-i.invariant i d (omega (arith, l, c.loop-i-test.false)) }
