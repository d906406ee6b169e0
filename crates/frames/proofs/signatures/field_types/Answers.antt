use Rattle.std.proofs.Common.{sym}
use Rattle.frames.proofs.Rows.{found_more, found_none, found_all}
use Rattle.frames.proofs.signatures.field_types.Goals as goal

pub returns-in-None : goal.returns-in-None
returns-in-None c =
    sym (found_none c.args.own.now c.loop-one.types.items c.args.found.now c.loop-one.one-index c.one-item.result _ c.loop-one-test.true c.one-item.is (sym c.in-None.ensures) c.loop-one.invariant)

pub loop-one-preserved : goal.loop-one-preserved
loop-one-preserved c =
    rw c.in_ok-push-in-Some.ensures.items (found_more c.args.own.now c.loop-one.types.items c.args.found.now c.loop-one.one-index c.one-item.result c.in-Some.t _ c.loop-one-test.true c.one-item.is (sym c.in-Some.ensures) c.loop-one.invariant)

pub returns : goal.returns
returns c = rw c.new.ensures (sym (found_all c.args.own.now c.loop-one.types.items c.args.found.now c.loop-one.one-index _ c.loop-one-test.false c.loop-one.invariant))
