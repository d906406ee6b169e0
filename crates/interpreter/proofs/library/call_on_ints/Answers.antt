use Rattle.std.proofs.Common.{◌≡◌, ◌∷◌, [], ap, ◌∙◌, w32, to_z, of_z}
use Rattle.std.proofs.lemmas.Int.{to_z-of_z}
use Rattle.jtypes.specs.declared.types.Value.TheVariants.{Int}
use Rattle.interpreter.proofs.Taken.{reads_as, same_same}
use Rattle.interpreter.proofs.Replying.{taken_from, ready_there, told_back, called_as}
use Rattle.interpreter.proofs.library.call_on_ints.Goals as goal

pub pop_int-a-requires : goal.pop_int-a-requires
pop_int-a-requires c =
    let (k, values, rest, (a, b, is), on) = c.requires in
    let m = c.args.machine.now in
    let vs = Int a ∷ Int b ∷ [] in
    let at = called_as k m c.args.native values vs rest is on in
    let p = c.pop_int-b.ensures.reads k.state.arrays k.top.locals b (Int a ∷ rest) k.below (reads_as k.state.arrays m.slots k.top.locals k.top.operands (Int b ∷ Int a ∷ rest) k.below at.operands at.ready.at.reads) in
    (k.state.arrays, k.top.locals, a, rest, k.below, p.1)

pub answer-requires : goal.answer-requires
answer-requires c =
    let (k, values, rest, (a, b, is), on) = c.requires in
    let m = c.args.machine.now in
    let vs = Int a ∷ Int b ∷ [] in
    let at = called_as k m c.args.native values vs rest is on in
    let p = c.pop_int-b.ensures.reads k.state.arrays k.top.locals b (Int a ∷ rest) k.below (reads_as k.state.arrays m.slots k.top.locals k.top.operands (Int b ∷ Int a ∷ rest) k.below at.operands at.ready.at.reads) in
    let q = c.pop_int-a.ensures.reads k.state.arrays k.top.locals a rest k.below p.1 in
    let same = same_same m.slots c.pop_int-b.new.self c.pop_int-a.new.self c.pop_int-b.ensures.same c.pop_int-a.ensures.same in
    let first : to_z w32 (of_z w32 c.pop_int-a.result) ≡ c.pop_int-a.result = to_z-of_z w32 c.pop_int-a.result (record { sfits = c.pop_int-a.type_inv }) in
    let second : to_z w32 (of_z w32 c.pop_int-b.result) ≡ c.pop_int-b.result = to_z-of_z w32 c.pop_int-b.result (record { sfits = c.pop_int-b.type_inv }) in
    let held = ap (λ n. Int n ∷ Int (to_z w32 (of_z w32 c.pop_int-b.result)) ∷ []) (first ∙ q.0) ∙ ap (λ n. Int a ∷ Int n ∷ []) (second ∙ p.0) in
    let there = ready_there k m c.pop_int-a.new.self c.args.native vs rest at same q.1 in
    (taken_from k rest, vs, held, there)

pub returns-clause-told : goal.returns-clause-told
returns-clause-told c k values rest (a, b, is) on =
    let m = c.args.machine.now in
    let vs = Int a ∷ Int b ∷ [] in
    let at = called_as k m c.args.native values vs rest is on in
    let p = c.pop_int-b.ensures.reads k.state.arrays k.top.locals b (Int a ∷ rest) k.below (reads_as k.state.arrays m.slots k.top.locals k.top.operands (Int b ∷ Int a ∷ rest) k.below at.operands at.ready.at.reads) in
    let q = c.pop_int-a.ensures.reads k.state.arrays k.top.locals a rest k.below p.1 in
    let same = same_same m.slots c.pop_int-b.new.self c.pop_int-a.new.self c.pop_int-b.ensures.same c.pop_int-a.ensures.same in
    let first : to_z w32 (of_z w32 c.pop_int-a.result) ≡ c.pop_int-a.result = to_z-of_z w32 c.pop_int-a.result (record { sfits = c.pop_int-a.type_inv }) in
    let second : to_z w32 (of_z w32 c.pop_int-b.result) ≡ c.pop_int-b.result = to_z-of_z w32 c.pop_int-b.result (record { sfits = c.pop_int-b.type_inv }) in
    let held = ap (λ n. Int n ∷ Int (to_z w32 (of_z w32 c.pop_int-b.result)) ∷ []) (first ∙ q.0) ∙ ap (λ n. Int a ∷ Int n ∷ []) (second ∙ p.0) in
    let there = ready_there k m c.pop_int-a.new.self c.args.native vs rest at same q.1 in
    told_back k c.args.native values vs rest c.answer.result c.answer.new.machine is (c.answer.ensures.told (taken_from k rest) vs held there)
