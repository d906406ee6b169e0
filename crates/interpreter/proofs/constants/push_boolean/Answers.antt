use Rattle.std.proofs.Common.{◌∷◌, refl, arith}
use Rattle.jtypes.specs.declared.types.RefValue.TheVariants as reference
use Rattle.jtypes.specs.declared.types.Value.TheVariants.{Ref}
use Rattle.interpreter.proofs.Taken.{same_self, put_room}
use Rattle.interpreter.proofs.Onward.{has_room, told_slots, with_values}
use Rattle.interpreter.proofs.constants.push_boolean.Goals as goal

pub push_reference-requires-clause-room : goal.push_reference-requires-clause-room
push_reference-requires-clause-room c =
    let (k, r) = c.requires in
    let m = c.args.machine.now in
    let v = Ref (reference.Boolean c.args.value) in
    let vs = v ∷ k.top.operands in
    let room = has_room k m r.at k.state (with_values k.top k.top.locals vs) r.next refl r.is in
    let free = put_room k.state.arrays m.slots m.slots k.top.locals k.top.operands vs k.below v (same_self m.slots) r.at.reads room refl in
    omega (arith, free)

pub returns-clause-told : goal.returns-clause-told
returns-clause-told c k r =
    let m = c.args.machine.now in
    let b = reference.Boolean c.args.value in
    told_slots k m c.push_reference.new.self k.top.locals (Ref b ∷ k.top.operands) _ r.at c.push_reference.ensures.same refl
    (c.push_reference.ensures.reads k.state.arrays k.top.locals b k.top.operands k.below refl r.at.reads) refl
