use Rattle.std.proofs.Common.{subst}
use Rattle.interpreter.proofs.Taking.{HasShape, library_called, told_called, int_shape, ints_shape, longs_shape, reference_shape}
use Rattle.interpreter.proofs.library.call_library.Goals as goal

pub call_on_int-requires : goal.call_on_int-requires
call_on_int-requires c =
    let (k, e, x, call, r) = c.requires in
    let t = library_called k c.args.machine.now c.args.native e x call r in
    (k, t.values, t.rest, int_shape c.args.native t.values c.in-IntegerValueOf.is t.shape, t.called)

pub returns-in-IntegerValueOf-clause-told : goal.returns-in-IntegerValueOf-clause-told
returns-in-IntegerValueOf-clause-told c k e x call r =
    let t = library_called k c.args.machine.now c.args.native e x call r in
    told_called k c.args.machine.now c.call_on_int.new.machine c.args.native c.call_on_int.result _ t (c.call_on_int.ensures.told k t.values t.rest (int_shape c.args.native t.values c.in-IntegerValueOf.is t.shape) t.called)

pub call_on_long-requires : goal.call_on_long-requires
call_on_long-requires c =
    let (k, e, x, call, r) = c.requires in
    let t = library_called k c.args.machine.now c.args.native e x call r in
    (k, t.values, t.rest, subst (λ n. HasShape n t.values) c.in-LongValueOf.is t.shape, t.called)

pub returns-in-LongValueOf-clause-told : goal.returns-in-LongValueOf-clause-told
returns-in-LongValueOf-clause-told c k e x call r =
    let t = library_called k c.args.machine.now c.args.native e x call r in
    told_called k c.args.machine.now c.call_on_long.new.machine c.args.native c.call_on_long.result _ t (c.call_on_long.ensures.told k t.values t.rest (subst (λ n. HasShape n t.values) c.in-LongValueOf.is t.shape) t.called)

pub call_on_references-requires : goal.call_on_references-requires
call_on_references-requires c =
    let (k, e, x, call, r) = c.requires in
    let t = library_called k c.args.machine.now c.args.native e x call r in
    (k, t.values, t.rest, subst (λ n. HasShape n t.values) c.in-SetValue.is t.shape, t.called)

pub returns-in-SetValue-clause-told : goal.returns-in-SetValue-clause-told
returns-in-SetValue-clause-told c k e x call r =
    let t = library_called k c.args.machine.now c.args.native e x call r in
    told_called k c.args.machine.now c.call_on_references.new.machine c.args.native c.call_on_references.result _ t (c.call_on_references.ensures.told k t.values t.rest (subst (λ n. HasShape n t.values) c.in-SetValue.is t.shape) t.called)

pub call_on_ints-requires : goal.call_on_ints-requires
call_on_ints-requires c =
    let (k, e, x, call, r) = c.requires in
    let t = library_called k c.args.machine.now c.args.native e x call r in
    (k, t.values, t.rest, ints_shape c.args.native t.values c.in-MaxOfInts.is t.shape, t.called)

pub returns-in-MaxOfInts-clause-told : goal.returns-in-MaxOfInts-clause-told
returns-in-MaxOfInts-clause-told c k e x call r =
    let t = library_called k c.args.machine.now c.args.native e x call r in
    told_called k c.args.machine.now c.call_on_ints.new.machine c.args.native c.call_on_ints.result _ t (c.call_on_ints.ensures.told k t.values t.rest (ints_shape c.args.native t.values c.in-MaxOfInts.is t.shape) t.called)

pub call_on_longs-requires : goal.call_on_longs-requires
call_on_longs-requires c =
    let (k, e, x, call, r) = c.requires in
    let t = library_called k c.args.machine.now c.args.native e x call r in
    (k, t.values, t.rest, longs_shape c.args.native t.values c.in-MaxOfLongs.is t.shape, t.called)

pub returns-in-MaxOfLongs-clause-told : goal.returns-in-MaxOfLongs-clause-told
returns-in-MaxOfLongs-clause-told c k e x call r =
    let t = library_called k c.args.machine.now c.args.native e x call r in
    told_called k c.args.machine.now c.call_on_longs.new.machine c.args.native c.call_on_longs.result _ t (c.call_on_longs.ensures.told k t.values t.rest (longs_shape c.args.native t.values c.in-MaxOfLongs.is t.shape) t.called)

pub call_on_reference-requires : goal.call_on_reference-requires
call_on_reference-requires c =
    let (k, e, x, call, r) = c.requires in
    let t = library_called k c.args.machine.now c.args.native e x call r in
    (k, t.values, t.rest, reference_shape c.args.native t.values c.in-IntValue.is t.shape, t.called)

pub returns-in-IntValue-clause-told : goal.returns-in-IntValue-clause-told
returns-in-IntValue-clause-told c k e x call r =
    let t = library_called k c.args.machine.now c.args.native e x call r in
    told_called k c.args.machine.now c.call_on_reference.new.machine c.args.native c.call_on_reference.result _ t (c.call_on_reference.ensures.told k t.values t.rest (reference_shape c.args.native t.values c.in-IntValue.is t.shape) t.called)
