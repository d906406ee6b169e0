use Rattle.std.proofs.Common.{rules, ◌≡◌, refl, sym, ap, ◌∙◌, subst, ◌∷◌, w32, w64, to_z, of_z}
use Rattle.std.specs.Prelude.{slice_get, Some, None, option_map}
use Rattle.std.proofs.lemmas.Int.{to_z-of_z}
use Rattle.jtypes.specs.declared.types.RefValue.TheVariants as reference
use Rattle.jtypes.specs.declared.types.Value.TheVariants.{Int, Ref}
use Rattle.jtypes.specs.declared.types.JavaFault.TheVariants.{ArrayIndexOutOfBounds}
use Rattle.jtypes.specs.Values.{Arrays, item_at}
use Rattle.arena.specs.Placing.{IsArrayAt}
use Rattle.arena.specs.Placing.{FitsElement}
use Rattle.slots.specs.Reads.{Reads}
use Rattle.jtypes.specs.declared.types.Outcome.TheVariants.{Threw}
use Rattle.verdict.specs.Machine.{load_item, push_item, element_value, ends}
use Rattle.slots.specs.Seen.{seen}
use Rattle.slots.proofs.Seen.{same_seen}
use Rattle.interpreter.specs.RegArrays.{IsPushable}
use Rattle.interpreter.specs.Holds.{at_regs}
use Rattle.interpreter.specs.Within.{within}
use Rattle.interpreter.proofs.Taken.{reads_as, same_same}
use Rattle.interpreter.proofs.Onward.{told_slots, has_room, same_room, with_values}
use Rattle.interpreter.proofs.Referred.{is_null_ref, is_array_ref, item_there, item_array, item_from, ok_some, err_none}
use Rattle.interpreter.proofs.arrays.load_item.Goals as goal

pub pop_array-requires : goal.pop_array-requires
pop_array-requires c =
    let (mm, (place, steps, (k, r))) = c.requires in
    let m = at_regs (within mm c.args.window.now c.args.arena.now) place steps in
    let t = item_there k c.args.kind k.top.operands r.next r.is in
    let h = c.pop_int-index.ensures.reads k.state.arrays mm.slots.callers.0 k.top.locals t.0 (Ref t.1 ∷ t.2) k.below (reads_as k.state.arrays m.slots k.top.locals k.top.operands _ k.below t.3 r.at.reads) in
    let from = item_from k c.args.kind t.0 t.1 t.2 r.next (ap (load_item k.class k.state k.top k.below c.args.kind) (sym t.3) ∙ r.is) in
    (k.state.arrays, mm.slots.callers.0, k.top.locals, t.1, t.2, k.below, from, h.1)

pub returns-in-None-clause-told : goal.returns-in-None-clause-told
returns-in-None-clause-told c mm place steps k r =
    let m = at_regs (within mm c.args.window.now c.args.arena.now) place steps in
    let t = item_there k c.args.kind k.top.operands r.next r.is in
    let h = c.pop_int-index.ensures.reads k.state.arrays mm.slots.callers.0 k.top.locals t.0 (Ref t.1 ∷ t.2) k.below (reads_as k.state.arrays m.slots k.top.locals k.top.operands _ k.below t.3 r.at.reads) in
    let from = item_from k c.args.kind t.0 t.1 t.2 r.next (ap (load_item k.class k.state k.top k.below c.args.kind) (sym t.3) ∙ r.is) in
    let g = c.in-None.ensures.reads k.state.arrays mm.slots.callers.0 k.top.locals t.1 t.2 k.below from h.1 in
    let null = is_null_ref k.state.arrays t.1 g.0 in
    let e = r.at.rest in
    (k.state, record { call = e.call; now = e.now; steps = e.steps; arrays = e.arrays; words = e.words; left = e.left }, ap (load_item k.class k.state k.top k.below c.args.kind) t.3 ∙ ap (λ v. load_item k.class k.state k.top k.below c.args.kind (Int t.0 ∷ Ref v ∷ t.2)) null)

pub get-requires : goal.get-requires
get-requires c =
    let (mm, (place, steps, (k, r))) = c.requires in
    let m = at_regs (within mm c.args.window.now c.args.arena.now) place steps in
    let t = item_there k c.args.kind k.top.operands r.next r.is in
    let h = c.pop_int-index.ensures.reads k.state.arrays mm.slots.callers.0 k.top.locals t.0 (Ref t.1 ∷ t.2) k.below (reads_as k.state.arrays m.slots k.top.locals k.top.operands _ k.below t.3 r.at.reads) in
    let from = item_from k c.args.kind t.0 t.1 t.2 r.next (ap (load_item k.class k.state k.top k.below c.args.kind) (sym t.3) ∙ r.is) in
    let g = c.in-Some.ensures.reads k.state.arrays mm.slots.callers.0 k.top.locals t.1 t.2 k.below from h.1 in
    let there = is_array_ref k.state.arrays t.1 c.in-Some.id g.0 in
    (there.0, subst (λ arrays. IsArrayAt arrays there.0 c.in-Some.id) (sym r.at.rest.arrays) there.2)

pub push_element-requires : goal.push_element-requires
push_element-requires c =
    let (mm, (place, steps, (k, r))) = c.requires in
    let m = at_regs (within mm c.args.window.now c.args.arena.now) place steps in
    let t = item_there k c.args.kind k.top.operands r.next r.is in
    let h = c.pop_int-index.ensures.reads k.state.arrays mm.slots.callers.0 k.top.locals t.0 (Ref t.1 ∷ t.2) k.below (reads_as k.state.arrays m.slots k.top.locals k.top.operands _ k.below t.3 r.at.reads) in
    let from = item_from k c.args.kind t.0 t.1 t.2 r.next (ap (load_item k.class k.state k.top k.below c.args.kind) (sym t.3) ∙ r.is) in
    let g = c.in-Some.ensures.reads k.state.arrays mm.slots.callers.0 k.top.locals t.1 t.2 k.below from h.1 in
    let there = is_array_ref k.state.arrays t.1 c.in-Some.id g.0 in
    let at = subst (λ arrays. IsArrayAt arrays there.0 c.in-Some.id) (sym r.at.rest.arrays) there.2 in
    let on = load_item k.class k.state k.top k.below c.args.kind in
    let to : on k.top.operands ≡ on (Int t.0 ∷ Ref (reference.Array there.0) ∷ t.2) = ap on t.3 ∙ ap (λ v. on (Int t.0 ∷ Ref v ∷ t.2)) there.1 in
    let found = item_array k c.args.kind t.0 there.0 t.2 r.next (sym to ∙ r.is) in
    let held : slice_get m.arena.arrays there.0 ≡ Some found.array = ap (λ (arrays : Arrays). slice_get arrays there.0) r.at.rest.arrays ∙ found.there in
    let ri = c.pop_int-index.result in
    let ei : to_z w32 (of_z w32 ri) ≡ t.0 = to_z-of_z w32 ri (record { sfits = c.pop_int-index.type_inv }) ∙ h.0 in
    let n = c.in-Ok.n in
    let item : item_at found.array.items t.0 ≡ Some n = ap (item_at found.array.items) (sym ei) ∙ ok_some (item_at found.array.items (to_z w32 (of_z w32 ri))) ArrayIndexOutOfBounds n (c.in-Ok.ensures.item there.0 found.array at held) in
    let step = to ∙ found.step ∙ ap (λ o. push_item k.class k.state k.top k.below t.2 (option_map (element_value c.args.kind) o)) item in
    let back : to_z w64 (of_z w64 n) ≡ n = to_z-of_z w64 n (search rules) in
    let fits : FitsElement c.args.kind n = subst (λ kind. FitsElement kind n) found.kind_is (c.in-Ok.ensures.element there.0 found.array at held n refl) in
    let room = has_room k m r.at k.state (with_values k.top k.top.locals (element_value c.args.kind n ∷ t.2)) r.next refl (sym step ∙ r.is) in
    let same = same_same m.slots (seen mm.slots c.pop_int-index.new.self) (seen mm.slots c.pop_array.new.self) (same_seen mm.slots _ _ c.pop_int-index.ensures.same) (same_seen mm.slots _ _ c.pop_array.ensures.same) in
    let ok : IsPushable c.args.kind n k.state.arrays (seen mm.slots c.pop_array.new.self) k.top.locals t.2 k.below = record { reads = g.1; fits = fits; room = same_room m.slots (seen mm.slots c.pop_array.new.self) k.top.locals (element_value c.args.kind n ∷ t.2) same room } in
    (mm.slots, (k.state.arrays, k.top.locals, t.2, k.below, subst (λ n. IsPushable c.args.kind n k.state.arrays (seen mm.slots c.pop_array.new.self) k.top.locals t.2 k.below) (sym back) ok))

pub returns-in-Ok-clause-told : goal.returns-in-Ok-clause-told
returns-in-Ok-clause-told c mm place steps k r =
    let m = at_regs (within mm c.args.window.now c.args.arena.now) place steps in
    let t = item_there k c.args.kind k.top.operands r.next r.is in
    let h = c.pop_int-index.ensures.reads k.state.arrays mm.slots.callers.0 k.top.locals t.0 (Ref t.1 ∷ t.2) k.below (reads_as k.state.arrays m.slots k.top.locals k.top.operands _ k.below t.3 r.at.reads) in
    let from = item_from k c.args.kind t.0 t.1 t.2 r.next (ap (load_item k.class k.state k.top k.below c.args.kind) (sym t.3) ∙ r.is) in
    let g = c.in-Some.ensures.reads k.state.arrays mm.slots.callers.0 k.top.locals t.1 t.2 k.below from h.1 in
    let there = is_array_ref k.state.arrays t.1 c.in-Some.id g.0 in
    let at = subst (λ arrays. IsArrayAt arrays there.0 c.in-Some.id) (sym r.at.rest.arrays) there.2 in
    let on = load_item k.class k.state k.top k.below c.args.kind in
    let to : on k.top.operands ≡ on (Int t.0 ∷ Ref (reference.Array there.0) ∷ t.2) = ap on t.3 ∙ ap (λ v. on (Int t.0 ∷ Ref v ∷ t.2)) there.1 in
    let found = item_array k c.args.kind t.0 there.0 t.2 r.next (sym to ∙ r.is) in
    let held : slice_get m.arena.arrays there.0 ≡ Some found.array = ap (λ (arrays : Arrays). slice_get arrays there.0) r.at.rest.arrays ∙ found.there in
    let ri = c.pop_int-index.result in
    let ei : to_z w32 (of_z w32 ri) ≡ t.0 = to_z-of_z w32 ri (record { sfits = c.pop_int-index.type_inv }) ∙ h.0 in
    let n = c.in-Ok.n in
    let item : item_at found.array.items t.0 ≡ Some n = ap (item_at found.array.items) (sym ei) ∙ ok_some (item_at found.array.items (to_z w32 (of_z w32 ri))) ArrayIndexOutOfBounds n (c.in-Ok.ensures.item there.0 found.array at held) in
    let step = to ∙ found.step ∙ ap (λ o. push_item k.class k.state k.top k.below t.2 (option_map (element_value c.args.kind) o)) item in
    let back : to_z w64 (of_z w64 n) ≡ n = to_z-of_z w64 n (search rules) in
    let same = same_same m.slots (seen mm.slots c.pop_int-index.new.self) (seen mm.slots c.pop_array.new.self) (same_seen mm.slots _ _ c.pop_int-index.ensures.same) (same_seen mm.slots _ _ c.pop_array.ensures.same) in
    told_slots k m (seen mm.slots c.push_element.new.window) k.top.locals (element_value c.args.kind n ∷ t.2) _ r.at (same_same m.slots (seen mm.slots c.pop_array.new.self) (seen mm.slots c.push_element.new.window) same (same_seen mm.slots _ _ c.push_element.ensures.same)) refl
    (subst (λ n. Reads k.state.arrays (seen mm.slots c.push_element.new.window) k.top.locals (element_value c.args.kind n ∷ t.2) k.below) back (c.push_element.ensures.pushes mm.slots k.state.arrays k.top.locals t.2 k.below g.1)) step

pub returns-in-Err-clause-told : goal.returns-in-Err-clause-told
returns-in-Err-clause-told c mm place steps k r =
    let m = at_regs (within mm c.args.window.now c.args.arena.now) place steps in
    let t = item_there k c.args.kind k.top.operands r.next r.is in
    let h = c.pop_int-index.ensures.reads k.state.arrays mm.slots.callers.0 k.top.locals t.0 (Ref t.1 ∷ t.2) k.below (reads_as k.state.arrays m.slots k.top.locals k.top.operands _ k.below t.3 r.at.reads) in
    let from = item_from k c.args.kind t.0 t.1 t.2 r.next (ap (load_item k.class k.state k.top k.below c.args.kind) (sym t.3) ∙ r.is) in
    let g = c.in-Some.ensures.reads k.state.arrays mm.slots.callers.0 k.top.locals t.1 t.2 k.below from h.1 in
    let there = is_array_ref k.state.arrays t.1 c.in-Some.id g.0 in
    let at = subst (λ arrays. IsArrayAt arrays there.0 c.in-Some.id) (sym r.at.rest.arrays) there.2 in
    let on = load_item k.class k.state k.top k.below c.args.kind in
    let to : on k.top.operands ≡ on (Int t.0 ∷ Ref (reference.Array there.0) ∷ t.2) = ap on t.3 ∙ ap (λ v. on (Int t.0 ∷ Ref v ∷ t.2)) there.1 in
    let found = item_array k c.args.kind t.0 there.0 t.2 r.next (sym to ∙ r.is) in
    let held : slice_get m.arena.arrays there.0 ≡ Some found.array = ap (λ (arrays : Arrays). slice_get arrays there.0) r.at.rest.arrays ∙ found.there in
    let ri = c.pop_int-index.result in
    let ei : to_z w32 (of_z w32 ri) ≡ t.0 = to_z-of_z w32 ri (record { sfits = c.pop_int-index.type_inv }) ∙ h.0 in
    let none = err_none (item_at found.array.items (to_z w32 (of_z w32 ri))) ArrayIndexOutOfBounds c.in-Err.fault (c.in-Err.ensures.item there.0 found.array at held) in
    let item : item_at found.array.items t.0 ≡ None = ap (item_at found.array.items) (sym ei) ∙ none.0 in
    let step = to ∙ found.step ∙ ap (λ o. push_item k.class k.state k.top k.below t.2 (option_map (element_value c.args.kind) o)) item in
    let e = r.at.rest in
    (k.state, record { call = e.call; now = e.now; steps = e.steps; arrays = e.arrays; words = e.words; left = e.left }, step ∙ ap (λ f. Some (ends k.state (Threw f))) (sym none.1))
