use Rattle.std.proofs.Common.{true, false, ◌≡◌, sym, ap, ◌∙◌, subst, ◌∷◌, arith, w32, w64, to_z, of_z}
use Rattle.std.specs.Prelude.{slice_get, is_some, Some, if◌then◌else◌}
use Rattle.std.proofs.lemmas.Int.{to_z-of_z}
use Rattle.jtypes.specs.declared.types.RefValue.TheVariants as reference
use Rattle.jtypes.specs.declared.types.Value.TheVariants.{Int, Ref}
use Rattle.jtypes.specs.Values.{Arrays, item_at}
use Rattle.arena.specs.Placing.{IsArrayAt, FitsElement}
use Rattle.jtypes.specs.Lists.{change}
use Rattle.jtypes.specs.declared.types.JavaFault.TheVariants.{ArrayIndexOutOfBounds}
use Rattle.jtypes.specs.declared.types.Outcome.TheVariants.{Threw}
use Rattle.arena.specs.Held.{Held, words_taken}
use Rattle.slots.proofs.Arrays.{reads_changed}
use Rattle.verdict.specs.Machine.{store_item, store_number, with_element, next_with, throws, ends}
use Rattle.slots.specs.Seen.{seen}
use Rattle.slots.proofs.Seen.{same_seen}
use Rattle.interpreter.specs.Holds.{at_regs}
use Rattle.interpreter.specs.Within.{within}
use Rattle.interpreter.proofs.Allotted.{told_arena}
use Rattle.interpreter.proofs.Taken.{reads_as, same_same}
use Rattle.interpreter.proofs.Referred.{is_null_ref, is_array_ref, stored_there, changed_array, stored_in, words_changed, set_inside, set_outside}
use Rattle.interpreter.proofs.arrays.store_item.Goals as goal

pub pop_element-n-requires : goal.pop_element-n-requires
pop_element-n-requires c =
    let (mm, (place, steps, (k, r))) = c.requires in
    let m = at_regs (within mm c.args.window.now c.args.arena.now) place steps in
    let t = stored_there k c.args.kind k.top.operands r.next r.is in
    (mm.slots, (k.state.arrays, k.top.locals, t.number, Int t.at ∷ Ref t.value ∷ t.rest, k.below, reads_as k.state.arrays m.slots k.top.locals k.top.operands _ k.below t.operands r.at.reads))

pub pop_int-index-requires : goal.pop_int-index-requires
pop_int-index-requires c =
    let (mm, (place, steps, (k, r))) = c.requires in
    let m = at_regs (within mm c.args.window.now c.args.arena.now) place steps in
    let t = stored_there k c.args.kind k.top.operands r.next r.is in
    let popped = c.pop_element-n.ensures.pops mm.slots k.state.arrays k.top.locals t.number (Int t.at ∷ Ref t.value ∷ t.rest) k.below (reads_as k.state.arrays m.slots k.top.locals k.top.operands _ k.below t.operands r.at.reads) in
    (k.state.arrays, mm.slots.callers.0, k.top.locals, t.at, Ref t.value ∷ t.rest, k.below, popped.2)

pub pop_array-requires : goal.pop_array-requires
pop_array-requires c =
    let (mm, (place, steps, (k, r))) = c.requires in
    let m = at_regs (within mm c.args.window.now c.args.arena.now) place steps in
    let t = stored_there k c.args.kind k.top.operands r.next r.is in
    let popped = c.pop_element-n.ensures.pops mm.slots k.state.arrays k.top.locals t.number (Int t.at ∷ Ref t.value ∷ t.rest) k.below (reads_as k.state.arrays m.slots k.top.locals k.top.operands _ k.below t.operands r.at.reads) in
    let h = c.pop_int-index.ensures.reads k.state.arrays mm.slots.callers.0 k.top.locals t.at (Ref t.value ∷ t.rest) k.below popped.2 in
    let from = stored_in k c.args.kind t.number t.at t.value t.rest r.next (sym t.step ∙ r.is) in
    (k.state.arrays, mm.slots.callers.0, k.top.locals, t.value, t.rest, k.below, from, h.1)

pub returns-in-None-clause-told : goal.returns-in-None-clause-told
returns-in-None-clause-told c mm place steps k r =
    let m = at_regs (within mm c.args.window.now c.args.arena.now) place steps in
    let t = stored_there k c.args.kind k.top.operands r.next r.is in
    let popped = c.pop_element-n.ensures.pops mm.slots k.state.arrays k.top.locals t.number (Int t.at ∷ Ref t.value ∷ t.rest) k.below (reads_as k.state.arrays m.slots k.top.locals k.top.operands _ k.below t.operands r.at.reads) in
    let h = c.pop_int-index.ensures.reads k.state.arrays mm.slots.callers.0 k.top.locals t.at (Ref t.value ∷ t.rest) k.below popped.2 in
    let from = stored_in k c.args.kind t.number t.at t.value t.rest r.next (sym t.step ∙ r.is) in
    let g = c.in-None.ensures.reads k.state.arrays mm.slots.callers.0 k.top.locals t.value t.rest k.below from h.1 in
    let null = is_null_ref k.state.arrays t.value g.0 in
    let e = r.at.rest in
    (k.state, record { call = e.call; now = e.now; steps = e.steps; arrays = e.arrays; words = e.words; left = e.left }, t.step ∙ ap (λ v. store_number k.class k.state k.top k.below c.args.kind (Some t.number) (Int t.at ∷ Ref v ∷ t.rest)) null)

pub set-requires : goal.set-requires
set-requires c =
    let (mm, (place, steps, (k, r))) = c.requires in
    let m = at_regs (within mm c.args.window.now c.args.arena.now) place steps in
    let t = stored_there k c.args.kind k.top.operands r.next r.is in
    let popped = c.pop_element-n.ensures.pops mm.slots k.state.arrays k.top.locals t.number (Int t.at ∷ Ref t.value ∷ t.rest) k.below (reads_as k.state.arrays m.slots k.top.locals k.top.operands _ k.below t.operands r.at.reads) in
    let h = c.pop_int-index.ensures.reads k.state.arrays mm.slots.callers.0 k.top.locals t.at (Ref t.value ∷ t.rest) k.below popped.2 in
    let from = stored_in k c.args.kind t.number t.at t.value t.rest r.next (sym t.step ∙ r.is) in
    let g = c.in-Some.ensures.reads k.state.arrays mm.slots.callers.0 k.top.locals t.value t.rest k.below from h.1 in
    let there = is_array_ref k.state.arrays t.value c.in-Some.id g.0 in
    let at = subst (λ arrays. IsArrayAt arrays there.0 c.in-Some.id) (sym r.at.rest.arrays) there.2 in
    let on = store_number k.class k.state k.top k.below c.args.kind (Some t.number) in
    let to : store_item k.class k.state k.top k.below c.args.kind k.top.operands ≡ on (Int t.at ∷ Ref (reference.Array there.0) ∷ t.rest) = t.step ∙ ap (λ v. on (Int t.at ∷ Ref v ∷ t.rest)) there.1 in
    let found = changed_array k c.args.kind t.number t.at there.0 t.rest r.next (sym to ∙ r.is) in
    let held : slice_get m.arena.arrays there.0 ≡ Some found.array = ap (λ (arrays : Arrays). slice_get arrays there.0) r.at.rest.arrays ∙ found.there in
    let ri = c.pop_int-index.result in
    let ei : to_z w32 (of_z w32 ri) ≡ t.at = to_z-of_z w32 ri (record { sfits = c.pop_int-index.type_inv }) ∙ h.0 in
    let rn = c.pop_element-n.result in
    let number : to_z w64 (of_z w64 rn) ≡ t.number = to_z-of_z w64 rn (record { sfits = c.pop_element-n.type_inv }) ∙ popped.0 in
    let fits : FitsElement found.array.kind t.number = subst (λ kind. FitsElement kind t.number) (sym found.kind_is) popped.1 in
    (there.0, found.array, at, held, subst (FitsElement found.array.kind) (sym number) fits)

pub returns-in-Ok-clause-told : goal.returns-in-Ok-clause-told
returns-in-Ok-clause-told c mm place steps k r =
    let m = at_regs (within mm c.args.window.now c.args.arena.now) place steps in
    let t = stored_there k c.args.kind k.top.operands r.next r.is in
    let popped = c.pop_element-n.ensures.pops mm.slots k.state.arrays k.top.locals t.number (Int t.at ∷ Ref t.value ∷ t.rest) k.below (reads_as k.state.arrays m.slots k.top.locals k.top.operands _ k.below t.operands r.at.reads) in
    let h = c.pop_int-index.ensures.reads k.state.arrays mm.slots.callers.0 k.top.locals t.at (Ref t.value ∷ t.rest) k.below popped.2 in
    let from = stored_in k c.args.kind t.number t.at t.value t.rest r.next (sym t.step ∙ r.is) in
    let g = c.in-Some.ensures.reads k.state.arrays mm.slots.callers.0 k.top.locals t.value t.rest k.below from h.1 in
    let there = is_array_ref k.state.arrays t.value c.in-Some.id g.0 in
    let at = subst (λ arrays. IsArrayAt arrays there.0 c.in-Some.id) (sym r.at.rest.arrays) there.2 in
    let on = store_number k.class k.state k.top k.below c.args.kind (Some t.number) in
    let to : store_item k.class k.state k.top k.below c.args.kind k.top.operands ≡ on (Int t.at ∷ Ref (reference.Array there.0) ∷ t.rest) = t.step ∙ ap (λ v. on (Int t.at ∷ Ref v ∷ t.rest)) there.1 in
    let found = changed_array k c.args.kind t.number t.at there.0 t.rest r.next (sym to ∙ r.is) in
    let held : slice_get m.arena.arrays there.0 ≡ Some found.array = ap (λ (arrays : Arrays). slice_get arrays there.0) r.at.rest.arrays ∙ found.there in
    let ri = c.pop_int-index.result in
    let ei : to_z w32 (of_z w32 ri) ≡ t.at = to_z-of_z w32 ri (record { sfits = c.pop_int-index.type_inv }) ∙ h.0 in
    let rn = c.pop_element-n.result in
    let number : to_z w64 (of_z w64 rn) ≡ t.number = to_z-of_z w64 rn (record { sfits = c.pop_element-n.type_inv }) ∙ popped.0 in
    let changed : c.set.new.self.arrays ≡ change (with_element t.at t.number) k.state.arrays there.0 =
    c.in-Ok.ensures.ok there.0 found.array at held ∙ (λ i. change (with_element (ei i) (number i)) (r.at.rest.arrays i) there.0) in
    let inside = set_inside (item_at found.array.items (to_z w32 (of_z w32 ri))) (c.in-Ok.ensures.answer there.0 found.array at held) in
    let within : is_some (item_at found.array.items t.at) ≡ true = ap (λ i. is_some (item_at found.array.items i)) (sym ei) ∙ inside in
    let arrays : Arrays = change (with_element t.at t.number) k.state.arrays there.0 in
    let step = to ∙ found.step ∙ ap (λ b. if b then next_with k.class (record k.state { arrays = arrays }) k.top k.below t.rest else throws k.state ArrayIndexOutOfBounds) within in
    let same = same_same m.slots (seen mm.slots c.pop_element-n.new.window) (seen mm.slots c.pop_array.new.self) (same_seen mm.slots _ _ c.pop_element-n.ensures.same) (same_same (seen mm.slots c.pop_element-n.new.window) (seen mm.slots c.pop_int-index.new.self) (seen mm.slots c.pop_array.new.self) (same_seen mm.slots _ _ c.pop_int-index.ensures.same) (same_seen mm.slots _ _ c.pop_array.ensures.same)) in
    let words = c.in-Ok.ensures.words in
    let left = r.at.rest.left in
    told_arena k m (seen mm.slots c.pop_array.new.self) c.set.new.self arrays k.state.words t.rest _ r.at same
    (reads_changed k.state.arrays t.at t.number there.0 (seen mm.slots c.pop_array.new.self) k.top.locals t.rest k.below g.1) changed (r.at.rest.words ∙ sym (words_changed k.state.arrays there.0 t.at t.number)) (omega (arith, words, left)) step

pub returns-in-Ok-clause-words : goal.returns-in-Ok-clause-words
returns-in-Ok-clause-words c =
    let (mm, (place, steps, (k, r))) = c.requires in
    let m = at_regs (within mm c.args.window.now c.args.arena.now) place steps in
    let t = stored_there k c.args.kind k.top.operands r.next r.is in
    let popped = c.pop_element-n.ensures.pops mm.slots k.state.arrays k.top.locals t.number (Int t.at ∷ Ref t.value ∷ t.rest) k.below (reads_as k.state.arrays m.slots k.top.locals k.top.operands _ k.below t.operands r.at.reads) in
    let h = c.pop_int-index.ensures.reads k.state.arrays mm.slots.callers.0 k.top.locals t.at (Ref t.value ∷ t.rest) k.below popped.2 in
    let from = stored_in k c.args.kind t.number t.at t.value t.rest r.next (sym t.step ∙ r.is) in
    let g = c.in-Some.ensures.reads k.state.arrays mm.slots.callers.0 k.top.locals t.value t.rest k.below from h.1 in
    let there = is_array_ref k.state.arrays t.value c.in-Some.id g.0 in
    let at = subst (λ arrays. IsArrayAt arrays there.0 c.in-Some.id) (sym r.at.rest.arrays) there.2 in
    let on = store_number k.class k.state k.top k.below c.args.kind (Some t.number) in
    let to : store_item k.class k.state k.top k.below c.args.kind k.top.operands ≡ on (Int t.at ∷ Ref (reference.Array there.0) ∷ t.rest) = t.step ∙ ap (λ v. on (Int t.at ∷ Ref v ∷ t.rest)) there.1 in
    let found = changed_array k c.args.kind t.number t.at there.0 t.rest r.next (sym to ∙ r.is) in
    let held : slice_get m.arena.arrays there.0 ≡ Some found.array = ap (λ (arrays : Arrays). slice_get arrays there.0) r.at.rest.arrays ∙ found.there in
    let ri = c.pop_int-index.result in
    let ei : to_z w32 (of_z w32 ri) ≡ t.at = to_z-of_z w32 ri (record { sfits = c.pop_int-index.type_inv }) ∙ h.0 in
    let rn = c.pop_element-n.result in
    let number : to_z w64 (of_z w64 rn) ≡ t.number = to_z-of_z w64 rn (record { sfits = c.pop_element-n.type_inv }) ∙ popped.0 in
    let changed : c.set.new.self.arrays ≡ change (with_element t.at t.number) k.state.arrays there.0 =
    c.in-Ok.ensures.ok there.0 found.array at held ∙ (λ i. change (with_element (ei i) (number i)) (r.at.rest.arrays i) there.0) in
    let same = same_same m.slots (seen mm.slots c.pop_element-n.new.window) (seen mm.slots c.pop_array.new.self) (same_seen mm.slots _ _ c.pop_element-n.ensures.same) (same_same (seen mm.slots c.pop_element-n.new.window) (seen mm.slots c.pop_int-index.new.self) (seen mm.slots c.pop_array.new.self) (same_seen mm.slots _ _ c.pop_int-index.ensures.same) (same_seen mm.slots _ _ c.pop_array.ensures.same)) in
    let taken : words_taken c.set.new.self.arrays ≡ words_taken m.arena.arrays = ap words_taken changed ∙ words_changed k.state.arrays there.0 t.at t.number ∙ ap words_taken (sym r.at.rest.arrays) in
    let words = c.in-Ok.ensures.words in
    omega (arith, taken, words)

pub returns-in-Err-clause-told : goal.returns-in-Err-clause-told
returns-in-Err-clause-told c mm place steps k r =
    let m = at_regs (within mm c.args.window.now c.args.arena.now) place steps in
    let t = stored_there k c.args.kind k.top.operands r.next r.is in
    let popped = c.pop_element-n.ensures.pops mm.slots k.state.arrays k.top.locals t.number (Int t.at ∷ Ref t.value ∷ t.rest) k.below (reads_as k.state.arrays m.slots k.top.locals k.top.operands _ k.below t.operands r.at.reads) in
    let h = c.pop_int-index.ensures.reads k.state.arrays mm.slots.callers.0 k.top.locals t.at (Ref t.value ∷ t.rest) k.below popped.2 in
    let from = stored_in k c.args.kind t.number t.at t.value t.rest r.next (sym t.step ∙ r.is) in
    let g = c.in-Some.ensures.reads k.state.arrays mm.slots.callers.0 k.top.locals t.value t.rest k.below from h.1 in
    let there = is_array_ref k.state.arrays t.value c.in-Some.id g.0 in
    let at = subst (λ arrays. IsArrayAt arrays there.0 c.in-Some.id) (sym r.at.rest.arrays) there.2 in
    let on = store_number k.class k.state k.top k.below c.args.kind (Some t.number) in
    let to : store_item k.class k.state k.top k.below c.args.kind k.top.operands ≡ on (Int t.at ∷ Ref (reference.Array there.0) ∷ t.rest) = t.step ∙ ap (λ v. on (Int t.at ∷ Ref v ∷ t.rest)) there.1 in
    let found = changed_array k c.args.kind t.number t.at there.0 t.rest r.next (sym to ∙ r.is) in
    let held : slice_get m.arena.arrays there.0 ≡ Some found.array = ap (λ (arrays : Arrays). slice_get arrays there.0) r.at.rest.arrays ∙ found.there in
    let ri = c.pop_int-index.result in
    let ei : to_z w32 (of_z w32 ri) ≡ t.at = to_z-of_z w32 ri (record { sfits = c.pop_int-index.type_inv }) ∙ h.0 in
    let rn = c.pop_element-n.result in
    let outside = set_outside (item_at found.array.items (to_z w32 (of_z w32 ri))) c.in-Err.fault (c.in-Err.ensures.answer there.0 found.array at held) in
    let past : is_some (item_at found.array.items t.at) ≡ false = ap (λ i. is_some (item_at found.array.items i)) (sym ei) ∙ outside.0 in
    let step = to ∙ found.step ∙ ap (λ b. if b then next_with k.class (record k.state { arrays = change (with_element t.at t.number) k.state.arrays there.0 }) k.top k.below t.rest else throws k.state ArrayIndexOutOfBounds) past in
    let e = r.at.rest in
    let arrays = ap (λ (h : Held). h.arrays) c.in-Err.ensures.err ∙ e.arrays in
    let words = ap (λ (h : Held). h.words_left) c.in-Err.ensures.err in
    let left = e.left in
    (k.state, record { call = e.call; now = e.now; steps = e.steps; arrays = arrays; words = e.words; left = omega (arith, words, left) }, step ∙ ap (λ f. Some (ends k.state (Threw f))) (sym outside.1))
