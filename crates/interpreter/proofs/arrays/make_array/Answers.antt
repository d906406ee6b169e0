use Rattle.std.proofs.Common.{◌≡◌, ◌+◌, ◌<◌, ◌++◌, [], length, refl, sym, ap, ◌∙◌, subst, ◌∷◌, arith, w32, to_z, of_z}
use Rattle.std.specs.Prelude.{pos}
use Rattle.std.proofs.lemmas.Int.{to_z-of_z}
use Rattle.jtypes.specs.declared.types.RefValue.TheVariants as reference
use Rattle.jtypes.specs.declared.types.Value.TheVariants.{Int, Ref}
use Rattle.jtypes.specs.Values.{Arrays, new_array, words_of}
use Rattle.arena.specs.Held.{words_taken}
use Rattle.arena.specs.Placing.{IsArrayAt}
use Rattle.slots.proofs.Arrays.{reads_grown}
use Rattle.verdict.specs.Machine.{make_array}
use Rattle.interpreter.proofs.Taken.{reads_as, same_same, one_room}
use Rattle.interpreter.proofs.Allotted.{told_arena}
use Rattle.interpreter.proofs.Referred.{made_there, words_added, made_room}
use Rattle.interpreter.proofs.arrays.make_array.Goals as goal

pub size_of-size-requires : goal.size_of-size-requires
size_of-size-requires c =
    let (k, r) = c.requires in
    let m = c.args.machine.now in
    let t = made_there k c.args.kind k.top.operands r.next r.is in
    let read = reads_as k.state.arrays m.slots k.top.locals k.top.operands _ k.below t.2 r.at.reads in
    let h = c.pop_int.ensures.reads k.state.arrays k.top.locals (pos t.0) t.1 k.below read in
    let count : to_z w32 (of_z w32 c.pop_int.result) ≡ pos t.0 = to_z-of_z w32 c.pop_int.result (record { sfits = c.pop_int.type_inv }) ∙ h.0 in
    (t.0, count)

pub unreachable-requires : goal.unreachable-requires
unreachable-requires c =
    let (k, r) = c.requires in
    let m = c.args.machine.now in
    let t = made_there k c.args.kind k.top.operands r.next r.is in
    let read = reads_as k.state.arrays m.slots k.top.locals k.top.operands _ k.below t.2 r.at.reads in
    let h = c.pop_int.ensures.reads k.state.arrays k.top.locals (pos t.0) t.1 k.below read in
    let count : to_z w32 (of_z w32 c.pop_int.result) ≡ pos t.0 = to_z-of_z w32 c.pop_int.result (record { sfits = c.pop_int.type_inv }) ∙ h.0 in
    let size : c.size_of-size.result ≡ t.0 = c.size_of-size.ensures t.0 count in
    let room = made_room k c.args.kind t.0 t.1 r.next (length m.slots.words.items) (ap (make_array k.class k.state k.top k.below c.args.kind) (sym t.2) ∙ r.is) r.room in
    let few : m.arena.words_left < words_of c.size_of-size.result = c.in-Err.ensures.refused.0 refl in
    let left = r.at.rest.left in
    omega (arith, size, room, few, left)

pub push_reference-requires-clause-room : goal.push_reference-requires-clause-room
push_reference-requires-clause-room c =
    let (k, r) = c.requires in
    let m = c.args.machine.now in
    let t = made_there k c.args.kind k.top.operands r.next r.is in
    let read = reads_as k.state.arrays m.slots k.top.locals k.top.operands _ k.below t.2 r.at.reads in
    let h = c.pop_int.ensures.reads k.state.arrays k.top.locals (pos t.0) t.1 k.below read in
    let count : to_z w32 (of_z w32 c.pop_int.result) ≡ pos t.0 = to_z-of_z w32 c.pop_int.result (record { sfits = c.pop_int.type_inv }) ∙ h.0 in
    one_room k.state.arrays m.slots c.pop_int.new.self k.top.locals (Int (pos t.0)) t.1 k.below read refl c.pop_int.ensures.same h.1

pub returns-clause-told : goal.returns-clause-told
returns-clause-told c k r =
    let m = c.args.machine.now in
    let t = made_there k c.args.kind k.top.operands r.next r.is in
    let read = reads_as k.state.arrays m.slots k.top.locals k.top.operands _ k.below t.2 r.at.reads in
    let h = c.pop_int.ensures.reads k.state.arrays k.top.locals (pos t.0) t.1 k.below read in
    let count : to_z w32 (of_z w32 c.pop_int.result) ≡ pos t.0 = to_z-of_z w32 c.pop_int.result (record { sfits = c.pop_int.type_inv }) ∙ h.0 in
    let size : c.size_of-size.result ≡ t.0 = c.size_of-size.ensures t.0 count in
    let arrays : Arrays = k.state.arrays ++ new_array c.args.kind t.0 ∷ [] in
    let is : c.alloc.new.self.arrays ≡ arrays = c.in-Ok.ensures.arrays ∙ (λ i. r.at.rest.arrays i ++ new_array c.args.kind (size i) ∷ []) in
    let stands : IsArrayAt arrays (length k.state.arrays) c.in-Ok.id =
    subst (λ arrays. IsArrayAt arrays (length k.state.arrays) c.in-Ok.id) is (subst (λ (old : Arrays). IsArrayAt c.alloc.new.self.arrays (length old) c.in-Ok.id) r.at.rest.arrays c.in-Ok.ensures.stands) in
    let grown = reads_grown k.state.arrays (new_array c.args.kind t.0) c.pop_int.new.self k.top.locals t.1 k.below h.1 in
    let same = same_same m.slots c.pop_int.new.self c.push_reference.new.self c.pop_int.ensures.same c.push_reference.ensures.same in
    let taken : k.state.words + words_of t.0 ≡ words_taken arrays = ap (λ n. n + words_of t.0) r.at.rest.words ∙ sym (words_added k.state.arrays c.args.kind t.0) in
    let more = c.in-Ok.ensures.words in
    let left = r.at.rest.left in
    told_arena k m c.push_reference.new.self c.alloc.new.self arrays (k.state.words + words_of t.0) (Ref (reference.Array (length k.state.arrays)) ∷ t.1) _ r.at same
    (c.push_reference.ensures.reads arrays k.top.locals (reference.Array (length k.state.arrays)) t.1 k.below stands grown) is taken (omega (arith, more, left, size))
    (ap (make_array k.class k.state k.top k.below c.args.kind) t.2)
