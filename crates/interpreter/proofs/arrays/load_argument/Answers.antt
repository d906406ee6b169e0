use Rattle.std.proofs.Common.{◌≡◌, refl, sym, ap, ◌∙◌, subst, ◌∷◌, w32, to_z, of_z}
use Rattle.std.specs.Prelude.{Some, None, option_map}
use Rattle.std.proofs.lemmas.Int.{to_z-of_z}
use Rattle.jtypes.specs.declared.types.Value.TheVariants.{Int, Ref}
use Rattle.jtypes.specs.Values.{item_at, value_of_arg}
use Rattle.slots.specs.Reads.{Reads}
use Rattle.verdict.specs.Machine.{Invocation, load_reference, push_item}
use Rattle.interpreter.proofs.Taken.{reads_as, same_same, one_room}
use Rattle.interpreter.proofs.Onward.{told_slots}
use Rattle.interpreter.proofs.Referred.{is_null_ref, is_args_ref, argument_there, argument_other, argument_held}
use Rattle.interpreter.proofs.arrays.load_argument.Goals as goal

pub pop_reference-requires : goal.pop_reference-requires
pop_reference-requires c =
    let (k, r) = c.requires in
    let m = c.args.machine.now in
    let t = argument_there k k.top.operands r.next r.is in
    let h = c.pop_int-index.ensures.reads k.state.arrays k.top.locals t.0 (Ref t.1 ∷ t.2) k.below (reads_as k.state.arrays m.slots k.top.locals k.top.operands _ k.below t.3 r.at.reads) in
    (k.state.arrays, k.top.locals, t.1, t.2, k.below, h.1)

pub unreachable-requires : goal.unreachable-requires
unreachable-requires c =
    let (k, r) = c.requires in
    let m = c.args.machine.now in
    let t = argument_there k k.top.operands r.next r.is in
    let h = c.pop_int-index.ensures.reads k.state.arrays k.top.locals t.0 (Ref t.1 ∷ t.2) k.below (reads_as k.state.arrays m.slots k.top.locals k.top.operands _ k.below t.3 r.at.reads) in
    let g = c.pop_reference.ensures.reads k.state.arrays k.top.locals t.1 t.2 k.below h.1 in
    argument_other k k.state.arrays t.0 t.1 c.pop_reference.result t.2 r.next g.0 c.in_default.not-Null c.in_default.not-Args (ap (load_reference k.class k.state k.top k.below) (sym t.3) ∙ r.is)

pub returns-in-Null-clause-told : goal.returns-in-Null-clause-told
returns-in-Null-clause-told c k r =
    let m = c.args.machine.now in
    let t = argument_there k k.top.operands r.next r.is in
    let h = c.pop_int-index.ensures.reads k.state.arrays k.top.locals t.0 (Ref t.1 ∷ t.2) k.below (reads_as k.state.arrays m.slots k.top.locals k.top.operands _ k.below t.3 r.at.reads) in
    let g = c.in-Null.ensures.reads k.state.arrays k.top.locals t.1 t.2 k.below h.1 in
    let null = is_null_ref k.state.arrays t.1 g.0 in
    let e = r.at.rest in
    (k.state, record { call = e.call; now = e.now; steps = e.steps; arrays = e.arrays; words = e.words; left = e.left }, ap (load_reference k.class k.state k.top k.below) t.3 ∙ ap (λ v. load_reference k.class k.state k.top k.below (Int t.0 ∷ Ref v ∷ t.2)) null)

pub push_reference-requires-clause-room : goal.push_reference-requires-clause-room
push_reference-requires-clause-room c =
    let (k, r) = c.requires in
    let m = c.args.machine.now in
    let t = argument_there k k.top.operands r.next r.is in
    let h = c.pop_int-index.ensures.reads k.state.arrays k.top.locals t.0 (Ref t.1 ∷ t.2) k.below (reads_as k.state.arrays m.slots k.top.locals k.top.operands _ k.below t.3 r.at.reads) in
    let g = c.pop_reference.ensures.reads k.state.arrays k.top.locals t.1 t.2 k.below h.1 in
    one_room k.state.arrays c.pop_int-index.new.self c.pop_reference.new.self k.top.locals (Ref t.1) t.2 k.below h.1 refl c.pop_reference.ensures.same g.1

pub returns-in-Some-clause-told : goal.returns-in-Some-clause-told
returns-in-Some-clause-told c k r =
    let m = c.args.machine.now in
    let t = argument_there k k.top.operands r.next r.is in
    let h = c.pop_int-index.ensures.reads k.state.arrays k.top.locals t.0 (Ref t.1 ∷ t.2) k.below (reads_as k.state.arrays m.slots k.top.locals k.top.operands _ k.below t.3 r.at.reads) in
    let g = c.in-Args.ensures.reads k.state.arrays k.top.locals t.1 t.2 k.below h.1 in
    let args = is_args_ref k.state.arrays t.1 g.0 in
    let ri = c.pop_int-index.result in
    let ei : to_z w32 (of_z w32 ri) ≡ t.0 = to_z-of_z w32 ri (record { sfits = c.pop_int-index.type_inv }) ∙ h.0 in
    let call : k.state.call.args ≡ m.args = ap (λ (i : Invocation). i.args) r.at.rest.call in
    let item : item_at k.state.call.args t.0 ≡ Some c.in-Some.argument = (λ i. item_at (call i) (sym ei i)) ∙ sym c.in-Some.ensures in
    let on = load_reference k.class k.state k.top k.below in
    let step = ap on t.3 ∙ ap (λ v. on (Int t.0 ∷ Ref v ∷ t.2)) args ∙ ap (λ o. push_item k.class k.state k.top k.below t.2 (option_map value_of_arg o)) item in
    let same = same_same m.slots c.pop_int-index.new.self c.pop_reference.new.self c.pop_int-index.ensures.same c.pop_reference.ensures.same in
    let held = argument_held k.state.arrays c.in-Some.argument c.reference_of.result c.reference_of.ensures in
    told_slots k m c.push_reference.new.self k.top.locals (value_of_arg c.in-Some.argument ∷ t.2) _ r.at (same_same m.slots c.pop_reference.new.self c.push_reference.new.self same c.push_reference.ensures.same) refl
    (subst (λ v. Reads k.state.arrays c.push_reference.new.self k.top.locals (v ∷ t.2) k.below) held.1 (c.push_reference.ensures.reads k.state.arrays k.top.locals held.0 t.2 k.below held.2 g.1)) step

pub returns-in-None-clause-told : goal.returns-in-None-clause-told
returns-in-None-clause-told c k r =
    let m = c.args.machine.now in
    let t = argument_there k k.top.operands r.next r.is in
    let h = c.pop_int-index.ensures.reads k.state.arrays k.top.locals t.0 (Ref t.1 ∷ t.2) k.below (reads_as k.state.arrays m.slots k.top.locals k.top.operands _ k.below t.3 r.at.reads) in
    let g = c.in-Args.ensures.reads k.state.arrays k.top.locals t.1 t.2 k.below h.1 in
    let args = is_args_ref k.state.arrays t.1 g.0 in
    let ri = c.pop_int-index.result in
    let ei : to_z w32 (of_z w32 ri) ≡ t.0 = to_z-of_z w32 ri (record { sfits = c.pop_int-index.type_inv }) ∙ h.0 in
    let call : k.state.call.args ≡ m.args = ap (λ (i : Invocation). i.args) r.at.rest.call in
    let item : item_at k.state.call.args t.0 ≡ None = (λ i. item_at (call i) (sym ei i)) ∙ sym c.in-None.ensures in
    let on = load_reference k.class k.state k.top k.below in
    let step = ap on t.3 ∙ ap (λ v. on (Int t.0 ∷ Ref v ∷ t.2)) args ∙ ap (λ o. push_item k.class k.state k.top k.below t.2 (option_map value_of_arg o)) item in
    let e = r.at.rest in
    (k.state, record { call = e.call; now = e.now; steps = e.steps; arrays = e.arrays; words = e.words; left = e.left }, step)
