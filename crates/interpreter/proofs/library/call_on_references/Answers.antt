use Rattle.std.proofs.Common.{◌∷◌, [], refl}
use Rattle.jtypes.specs.declared.types.Value.TheVariants.{Ref}
use Rattle.interpreter.proofs.Taken.{reads_as, same_same}
use Rattle.interpreter.proofs.Replying.{taken_from, ready_there, told_back, called_as}
use Rattle.interpreter.proofs.library.call_on_references.Goals as goal

pub pop_reference-a-requires : goal.pop_reference-a-requires
pop_reference-a-requires c =
    let (k, values, rest, (a, b, is), on) = c.requires in
    let m = c.args.machine.now in
    let vs = Ref a ∷ Ref b ∷ [] in
    let at = called_as k m c.args.native values vs rest is on in
    let p = c.pop_reference-b.ensures.reads k.state.arrays k.top.locals b (Ref a ∷ rest) k.below (reads_as k.state.arrays m.slots k.top.locals k.top.operands (Ref b ∷ Ref a ∷ rest) k.below at.operands at.ready.at.reads) in
    (k.state.arrays, k.top.locals, a, rest, k.below, p.1)

pub answer-requires : goal.answer-requires
answer-requires c =
    let (k, values, rest, (a, b, is), on) = c.requires in
    let m = c.args.machine.now in
    let vs = Ref a ∷ Ref b ∷ [] in
    let at = called_as k m c.args.native values vs rest is on in
    let p = c.pop_reference-b.ensures.reads k.state.arrays k.top.locals b (Ref a ∷ rest) k.below (reads_as k.state.arrays m.slots k.top.locals k.top.operands (Ref b ∷ Ref a ∷ rest) k.below at.operands at.ready.at.reads) in
    let q = c.pop_reference-a.ensures.reads k.state.arrays k.top.locals a rest k.below p.1 in
    let same = same_same m.slots c.pop_reference-b.new.self c.pop_reference-a.new.self c.pop_reference-b.ensures.same c.pop_reference-a.ensures.same in
    let there = ready_there k m c.pop_reference-a.new.self c.args.native vs rest at same q.1 in
    (taken_from k rest, vs, (c.pop_reference-a.result, c.pop_reference-b.result, q.0, p.0, refl), there)

pub returns-clause-told : goal.returns-clause-told
returns-clause-told c k values rest (a, b, is) on =
    let m = c.args.machine.now in
    let vs = Ref a ∷ Ref b ∷ [] in
    let at = called_as k m c.args.native values vs rest is on in
    let p = c.pop_reference-b.ensures.reads k.state.arrays k.top.locals b (Ref a ∷ rest) k.below (reads_as k.state.arrays m.slots k.top.locals k.top.operands (Ref b ∷ Ref a ∷ rest) k.below at.operands at.ready.at.reads) in
    let q = c.pop_reference-a.ensures.reads k.state.arrays k.top.locals a rest k.below p.1 in
    let same = same_same m.slots c.pop_reference-b.new.self c.pop_reference-a.new.self c.pop_reference-b.ensures.same c.pop_reference-a.ensures.same in
    let there = ready_there k m c.pop_reference-a.new.self c.args.native vs rest at same q.1 in
    told_back k c.args.native values vs rest c.answer.result c.answer.new.machine is (c.answer.ensures.told (taken_from k rest) vs (c.pop_reference-a.result, c.pop_reference-b.result, q.0, p.0, refl) there)
