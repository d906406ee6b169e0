use Rattle.std.proofs.Common.{◌≡◌, length, refl, sym, ap, ◌∙◌, subst, ◌∷◌, arith, w32, to_z, of_z}
use Rattle.std.specs.Prelude.{pos, slice_get, Some, List}
use Rattle.jtypes.specs.declared.types.Arg.{Arg}
use Rattle.jtypes.specs.Values.{Arrays}
use Rattle.arena.specs.Held.{words_taken}
use Rattle.arena.specs.Placing.{IsArrayAt}
use Rattle.std.proofs.lemmas.Int.{to_z-of_z}
use Rattle.jtypes.specs.declared.types.RefValue.TheVariants as reference
use Rattle.jtypes.specs.declared.types.Value.TheVariants.{Int, Ref}
use Rattle.slots.specs.Reads.{Reads}
use Rattle.verdict.specs.Machine.{Invocation, measure}
use Rattle.interpreter.proofs.Taken.{reads_as, one_room, same_same}
use Rattle.interpreter.proofs.Onward.{told_slots}
use Rattle.interpreter.proofs.Referred.{is_null_ref, is_args_ref, is_array_ref, measured_there, measured_array, measured_other}
use Rattle.interpreter.proofs.arrays.measure.Goals as goal

pub unreachable-requires : goal.unreachable-requires
unreachable-requires c =
    let (k, r) = c.requires in
    let m = c.args.machine.now in
    let t = measured_there k k.top.operands r.next r.is in
    let h = c.pop_reference.ensures.reads k.state.arrays k.top.locals t.0 t.1 k.below (reads_as k.state.arrays m.slots k.top.locals k.top.operands _ k.below t.2 r.at.reads) in
    measured_other k k.state.arrays t.0 c.pop_reference.result t.1 r.next h.0 c.in_default.not-Null c.in_default.not-Args c.in_default.not-Array (ap (measure k.class k.state k.top k.below) (sym t.2) ∙ r.is)

pub returns-in-Null-clause-told : goal.returns-in-Null-clause-told
returns-in-Null-clause-told c k r =
    let m = c.args.machine.now in
    let t = measured_there k k.top.operands r.next r.is in
    let h = c.in-Null.ensures.reads k.state.arrays k.top.locals t.0 t.1 k.below (reads_as k.state.arrays m.slots k.top.locals k.top.operands _ k.below t.2 r.at.reads) in
    let null = is_null_ref k.state.arrays t.0 h.0 in
    let e = r.at.rest in
    (k.state, record { call = e.call; now = e.now; steps = e.steps; arrays = e.arrays; words = e.words; left = e.left }, ap (measure k.class k.state k.top k.below) t.2 ∙ ap (λ v. measure k.class k.state k.top k.below (Ref v ∷ t.1)) null)

pub count_of-count-requires-in-Array : goal.count_of-count-requires-in-Array
count_of-count-requires-in-Array c =
    let (k, r) = c.requires in
    let below = c.length.ensures.below in
    let same = ap words_taken r.at.rest.arrays in
    let words = r.at.rest.words in
    let left = r.at.rest.left in
    omega (arith, below, same, words, left)

pub push_int-requires : goal.push_int-requires
push_int-requires c =
    let (k, r) = c.requires in
    let m = c.args.machine.now in
    let t = measured_there k k.top.operands r.next r.is in
    let read = reads_as k.state.arrays m.slots k.top.locals k.top.operands _ k.below t.2 r.at.reads in
    let h = c.pop_reference.ensures.reads k.state.arrays k.top.locals t.0 t.1 k.below read in
    record { room = one_room k.state.arrays m.slots c.pop_reference.new.self k.top.locals (Ref t.0) t.1 k.below read refl c.pop_reference.ensures.same h.1 }

pub push_int-requires-in-Array : goal.push_int-requires-in-Array
push_int-requires-in-Array c =
    let (k, r) = c.requires in
    let m = c.args.machine.now in
    let t = measured_there k k.top.operands r.next r.is in
    let read = reads_as k.state.arrays m.slots k.top.locals k.top.operands _ k.below t.2 r.at.reads in
    let h = c.pop_reference.ensures.reads k.state.arrays k.top.locals t.0 t.1 k.below read in
    record { room = one_room k.state.arrays m.slots c.pop_reference.new.self k.top.locals (Ref t.0) t.1 k.below read refl c.pop_reference.ensures.same h.1 }

pub length-requires : goal.length-requires
length-requires c =
    let (k, r) = c.requires in
    let m = c.args.machine.now in
    let t = measured_there k k.top.operands r.next r.is in
    let h = c.in-Array.ensures.reads k.state.arrays k.top.locals t.0 t.1 k.below (reads_as k.state.arrays m.slots k.top.locals k.top.operands _ k.below t.2 r.at.reads) in
    let there = is_array_ref k.state.arrays t.0 c.in-Array.id h.0 in
    (there.0, subst (λ arrays. IsArrayAt arrays there.0 c.in-Array.id) (sym r.at.rest.arrays) there.2)

pub returns-in-Args-clause-told : goal.returns-in-Args-clause-told
returns-in-Args-clause-told c k r =
    let m = c.args.machine.now in
    let t = measured_there k k.top.operands r.next r.is in
    let h = c.in-Args.ensures.reads k.state.arrays k.top.locals t.0 t.1 k.below (reads_as k.state.arrays m.slots k.top.locals k.top.operands _ k.below t.2 r.at.reads) in
    let args = is_args_ref k.state.arrays t.0 h.0 in
    let n = c.count_of-count.result in
    let call : k.state.call.args ≡ m.args = ap (λ (i : Invocation). i.args) r.at.rest.call in
    let count : to_z w32 (of_z w32 n) ≡ pos (length k.state.call.args) = to_z-of_z w32 n (record { sfits = c.count_of-count.type_inv }) ∙ c.count_of-count.ensures ∙ ap (λ (args : List Arg). pos (length args)) (c.as_slice.ensures.items ∙ sym call) in
    let same = same_same m.slots c.pop_reference.new.self c.push_int.new.self c.pop_reference.ensures.same c.push_int.ensures.same in
    told_slots k m c.push_int.new.self k.top.locals (Int (pos (length k.state.call.args)) ∷ t.1) _ r.at same refl
    (subst (λ n. Reads k.state.arrays c.push_int.new.self k.top.locals (Int n ∷ t.1) k.below) count (c.push_int.ensures.reads k.state.arrays k.top.locals t.1 k.below h.1))
    (ap (measure k.class k.state k.top k.below) t.2 ∙ ap (λ v. measure k.class k.state k.top k.below (Ref v ∷ t.1)) args)

pub returns-in-Array-clause-told : goal.returns-in-Array-clause-told
returns-in-Array-clause-told c k r =
    let m = c.args.machine.now in
    let t = measured_there k k.top.operands r.next r.is in
    let h = c.in-Array.ensures.reads k.state.arrays k.top.locals t.0 t.1 k.below (reads_as k.state.arrays m.slots k.top.locals k.top.operands _ k.below t.2 r.at.reads) in
    let there = is_array_ref k.state.arrays t.0 c.in-Array.id h.0 in
    let on : measure k.class k.state k.top k.below k.top.operands ≡ measure k.class k.state k.top k.below (Ref (reference.Array there.0) ∷ t.1) =
    ap (measure k.class k.state k.top k.below) t.2 ∙ ap (λ v. measure k.class k.state k.top k.below (Ref v ∷ t.1)) there.1 in
    let found = measured_array k there.0 t.1 r.next (sym on ∙ r.is) in
    let at = subst (λ arrays. IsArrayAt arrays there.0 c.in-Array.id) (sym r.at.rest.arrays) there.2 in
    let held : slice_get m.arena.arrays there.0 ≡ Some found.0 = ap (λ (arrays : Arrays). slice_get arrays there.0) r.at.rest.arrays ∙ found.1 in
    let n = c.count_of-count-in-Array.result in
    let count : to_z w32 (of_z w32 n) ≡ pos (length found.0.items) = to_z-of_z w32 n (record { sfits = c.count_of-count-in-Array.type_inv }) ∙ c.count_of-count-in-Array.ensures ∙ ap pos (c.length.ensures.count there.0 found.0 at held) in
    let same = same_same m.slots c.pop_reference.new.self c.push_int-in-Array.new.self c.pop_reference.ensures.same c.push_int-in-Array.ensures.same in
    told_slots k m c.push_int-in-Array.new.self k.top.locals (Int (pos (length found.0.items)) ∷ t.1) _ r.at same refl
    (subst (λ n. Reads k.state.arrays c.push_int-in-Array.new.self k.top.locals (Int n ∷ t.1) k.below) count (c.push_int-in-Array.ensures.reads k.state.arrays k.top.locals t.1 k.below h.1))
    (on ∙ found.2)
