use Rattle.std.proofs.Common.{◌∷◌, [], refl}
use Rattle.jtypes.specs.declared.types.Value.TheVariants.{Ref}
use Rattle.interpreter.proofs.Taken.{reads_as}
use Rattle.interpreter.proofs.Replying.{taken_from, ready_there, told_back, called_as}
use Rattle.interpreter.proofs.library.call_on_reference.Goals as goal

pub answer-requires : goal.answer-requires
answer-requires c =
    let (k, values, rest, (a, is), on) = c.requires in
    let m = c.args.machine.now in
    let vs = Ref a ∷ [] in
    let at = called_as k m c.args.native values vs rest is on in
    let p = c.pop_reference-a.ensures.reads k.state.arrays k.top.locals a rest k.below (reads_as k.state.arrays m.slots k.top.locals k.top.operands (Ref a ∷ rest) k.below at.operands at.ready.at.reads) in
    let there = ready_there k m c.pop_reference-a.new.self c.args.native vs rest at c.pop_reference-a.ensures.same p.1 in
    (taken_from k rest, vs, (c.pop_reference-a.result, p.0, refl), there)

pub returns-clause-told : goal.returns-clause-told
returns-clause-told c k values rest (a, is) on =
    let m = c.args.machine.now in
    let vs = Ref a ∷ [] in
    let at = called_as k m c.args.native values vs rest is on in
    let p = c.pop_reference-a.ensures.reads k.state.arrays k.top.locals a rest k.below (reads_as k.state.arrays m.slots k.top.locals k.top.operands (Ref a ∷ rest) k.below at.operands at.ready.at.reads) in
    let there = ready_there k m c.pop_reference-a.new.self c.args.native vs rest at c.pop_reference-a.ensures.same p.1 in
    told_back k c.args.native values vs rest c.answer.result c.answer.new.machine is (c.answer.ensures.told (taken_from k rest) vs (c.pop_reference-a.result, p.0, refl) there)
