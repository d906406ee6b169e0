use Rattle.std.proofs.Common.{◌∙◌}
use Rattle.std.proofs.lemmas.Result.{err_from_is_err_and}
use Rattle.constpool.proofs.Slots.{goes_on, ends, is_done}
use Rattle.constpool.proofs.reading.read_slots.Goals as goal

pub returns-in_err-slot : goal.returns-in_err-slot
returns-in_err-slot c =
    let p = err_from_is_err_and c.from_residual.result c.from_residual.ensures.1 in
    rw (p.1, p.2) (ends c.in_err-slot.field-0.0 c.loop.slots.items c.args.count c.loop.counter c.loop.second c.loop.cursor _ c.loop-test.true c.in_err-slot.ensures c.loop.invariant)

pub loop-preserved : goal.loop-preserved
loop-preserved c =
    let e = goes_on c.loop.slots.items c.args.count c.loop.counter c.loop.second c.loop.cursor c.in_ok-slot.slot c.read_slot.new.cursor _ c.loop-test.true c.in_ok-slot.ensures c.loop.invariant in
    rw (c.in_ok-push.ensures.items, c.takes_two-second.ensures) e

pub returns-then-second : goal.returns-then-second
returns-then-second c =
    is_done c.loop.slots.items c.args.count c.loop.counter c.loop.second c.loop.cursor _ c.loop-test.false c.loop.invariant ∙ rw c.if-second.true

pub returns : goal.returns
returns c =
    is_done c.loop.slots.items c.args.count c.loop.counter c.loop.second c.loop.cursor _ c.loop-test.false c.loop.invariant ∙ rw c.if-second.false
