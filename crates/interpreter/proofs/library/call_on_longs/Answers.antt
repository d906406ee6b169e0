use Rattle.std.proofs.Common.{◌≡◌, ◌∷◌, [], ap, ◌∙◌, w64, to_z, of_z}
use Rattle.std.proofs.lemmas.Int.{to_z-of_z}
use Rattle.jtypes.specs.declared.types.Value.TheVariants.{Long}
use Rattle.interpreter.proofs.Taken.{reads_as, same_same}
use Rattle.interpreter.proofs.Replying.{taken_from, ready_there, told_back, called_as}
use Rattle.interpreter.proofs.library.call_on_longs.Goals as goal

pub pop_long-a-requires : goal.pop_long-a-requires
pop_long-a-requires c =
    let (k, values, rest, (a, b, is), on) = c.requires in
    let m = c.args.machine.now in
    let vs = Long a ∷ Long b ∷ [] in
    let at = called_as k m c.args.native values vs rest is on in
    let p = c.pop_long-b.ensures.reads k.state.arrays k.top.locals b (Long a ∷ rest) k.below (reads_as k.state.arrays m.slots k.top.locals k.top.operands (Long b ∷ Long a ∷ rest) k.below at.operands at.ready.at.reads) in
    (k.state.arrays, k.top.locals, a, rest, k.below, p.1)

pub answer-requires : goal.answer-requires
answer-requires c =
    let (k, values, rest, (a, b, is), on) = c.requires in
    let m = c.args.machine.now in
    let vs = Long a ∷ Long b ∷ [] in
    let at = called_as k m c.args.native values vs rest is on in
    let p = c.pop_long-b.ensures.reads k.state.arrays k.top.locals b (Long a ∷ rest) k.below (reads_as k.state.arrays m.slots k.top.locals k.top.operands (Long b ∷ Long a ∷ rest) k.below at.operands at.ready.at.reads) in
    let q = c.pop_long-a.ensures.reads k.state.arrays k.top.locals a rest k.below p.1 in
    let same = same_same m.slots c.pop_long-b.new.self c.pop_long-a.new.self c.pop_long-b.ensures.same c.pop_long-a.ensures.same in
    let first : to_z w64 (of_z w64 c.pop_long-a.result) ≡ c.pop_long-a.result = to_z-of_z w64 c.pop_long-a.result (record { sfits = c.pop_long-a.type_inv }) in
    let second : to_z w64 (of_z w64 c.pop_long-b.result) ≡ c.pop_long-b.result = to_z-of_z w64 c.pop_long-b.result (record { sfits = c.pop_long-b.type_inv }) in
    let held = ap (λ n. Long n ∷ Long (to_z w64 (of_z w64 c.pop_long-b.result)) ∷ []) (first ∙ q.0) ∙ ap (λ n. Long a ∷ Long n ∷ []) (second ∙ p.0) in
    let there = ready_there k m c.pop_long-a.new.self c.args.native vs rest at same q.1 in
    (taken_from k rest, vs, held, there)

pub returns-clause-told : goal.returns-clause-told
returns-clause-told c k values rest (a, b, is) on =
    let m = c.args.machine.now in
    let vs = Long a ∷ Long b ∷ [] in
    let at = called_as k m c.args.native values vs rest is on in
    let p = c.pop_long-b.ensures.reads k.state.arrays k.top.locals b (Long a ∷ rest) k.below (reads_as k.state.arrays m.slots k.top.locals k.top.operands (Long b ∷ Long a ∷ rest) k.below at.operands at.ready.at.reads) in
    let q = c.pop_long-a.ensures.reads k.state.arrays k.top.locals a rest k.below p.1 in
    let same = same_same m.slots c.pop_long-b.new.self c.pop_long-a.new.self c.pop_long-b.ensures.same c.pop_long-a.ensures.same in
    let first : to_z w64 (of_z w64 c.pop_long-a.result) ≡ c.pop_long-a.result = to_z-of_z w64 c.pop_long-a.result (record { sfits = c.pop_long-a.type_inv }) in
    let second : to_z w64 (of_z w64 c.pop_long-b.result) ≡ c.pop_long-b.result = to_z-of_z w64 c.pop_long-b.result (record { sfits = c.pop_long-b.type_inv }) in
    let held = ap (λ n. Long n ∷ Long (to_z w64 (of_z w64 c.pop_long-b.result)) ∷ []) (first ∙ q.0) ∙ ap (λ n. Long a ∷ Long n ∷ []) (second ∙ p.0) in
    let there = ready_there k m c.pop_long-a.new.self c.args.native vs rest at same q.1 in
    told_back k c.args.native values vs rest c.answer.result c.answer.new.machine is (c.answer.ensures.told (taken_from k rest) vs held there)
