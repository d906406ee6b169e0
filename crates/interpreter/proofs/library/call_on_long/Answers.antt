use Rattle.std.proofs.Common.{◌≡◌, ◌∷◌, [], ap, ◌∙◌, w64, to_z, of_z}
use Rattle.std.proofs.lemmas.Int.{to_z-of_z}
use Rattle.jtypes.specs.declared.types.Value.TheVariants.{Long}
use Rattle.interpreter.proofs.Taken.{reads_as}
use Rattle.interpreter.proofs.Replying.{taken_from, ready_there, told_back, called_as}
use Rattle.interpreter.proofs.library.call_on_long.Goals as goal

pub answer-requires : goal.answer-requires
answer-requires c =
    let (k, values, rest, (a, is), on) = c.requires in
    let m = c.args.machine.now in
    let vs = Long a ∷ [] in
    let at = called_as k m c.args.native values vs rest is on in
    let p = c.pop_long-a.ensures.reads k.state.arrays k.top.locals a rest k.below (reads_as k.state.arrays m.slots k.top.locals k.top.operands (Long a ∷ rest) k.below at.operands at.ready.at.reads) in
    let back : to_z w64 (of_z w64 c.pop_long-a.result) ≡ c.pop_long-a.result = to_z-of_z w64 c.pop_long-a.result (record { sfits = c.pop_long-a.type_inv }) in
    let held = ap (λ n. Long n ∷ []) (back ∙ p.0) in
    let there = ready_there k m c.pop_long-a.new.self c.args.native vs rest at c.pop_long-a.ensures.same p.1 in
    (taken_from k rest, vs, held, there)

pub returns-clause-told : goal.returns-clause-told
returns-clause-told c k values rest (a, is) on =
    let m = c.args.machine.now in
    let vs = Long a ∷ [] in
    let at = called_as k m c.args.native values vs rest is on in
    let p = c.pop_long-a.ensures.reads k.state.arrays k.top.locals a rest k.below (reads_as k.state.arrays m.slots k.top.locals k.top.operands (Long a ∷ rest) k.below at.operands at.ready.at.reads) in
    let back : to_z w64 (of_z w64 c.pop_long-a.result) ≡ c.pop_long-a.result = to_z-of_z w64 c.pop_long-a.result (record { sfits = c.pop_long-a.type_inv }) in
    let held = ap (λ n. Long n ∷ []) (back ∙ p.0) in
    let there = ready_there k m c.pop_long-a.new.self c.args.native vs rest at c.pop_long-a.ensures.same p.1 in
    told_back k c.args.native values vs rest c.answer.result c.answer.new.machine is (c.answer.ensures.told (taken_from k rest) vs held there)
