use Rattle.std.proofs.Common.{◌≡◌, refl, sym, ap, ◌∙◌, subst, ◌∷◌, w32, to_z, of_z}
use Rattle.std.proofs.lemmas.Int.{to_z-of_z}
use Rattle.jtypes.specs.declared.types.Value.TheVariants.{Int, Ref}
use Rattle.jtypes.specs.Library.{flag}
use Rattle.jtypes.specs.Values.{passes}
use Rattle.arena.specs.Placing.{IsReference}
use Rattle.slots.specs.Reads.{Reads}
use Rattle.interpreter.proofs.Taken.{reads_as, one_room, same_same}
use Rattle.interpreter.proofs.Onward.{told_slots}
use Rattle.interpreter.proofs.Castings.{ask_there}
use Rattle.interpreter.proofs.casts.instance_of.Goals as goal

pub passes-is_one-requires : goal.passes-is_one-requires
passes-is_one-requires c =
    let (k, r) = c.requires in
    let m = c.args.machine.now in
    let t = ask_there k c.args.target k.top.operands r.next r.is in
    let h = c.pop_reference-value.ensures.reads k.state.arrays k.top.locals t.0 t.1 k.below (reads_as k.state.arrays m.slots k.top.locals k.top.operands _ k.below t.2 r.at.reads) in
    (t.0, subst (λ arrays. IsReference arrays t.0 c.pop_reference-value.result) (sym r.at.rest.arrays) h.0)

pub push_int-requires : goal.push_int-requires
push_int-requires c =
    let (k, r) = c.requires in
    let m = c.args.machine.now in
    let t = ask_there k c.args.target k.top.operands r.next r.is in
    let read = reads_as k.state.arrays m.slots k.top.locals k.top.operands _ k.below t.2 r.at.reads in
    let h = c.pop_reference-value.ensures.reads k.state.arrays k.top.locals t.0 t.1 k.below read in
    record { room = one_room k.state.arrays m.slots c.pop_reference-value.new.self k.top.locals (Ref t.0) t.1 k.below read refl c.pop_reference-value.ensures.same h.1 }

pub returns-clause-told : goal.returns-clause-told
returns-clause-told c k r =
    let m = c.args.machine.now in
    let t = ask_there k c.args.target k.top.operands r.next r.is in
    let read = reads_as k.state.arrays m.slots k.top.locals k.top.operands _ k.below t.2 r.at.reads in
    let h = c.pop_reference-value.ensures.reads k.state.arrays k.top.locals t.0 t.1 k.below read in
    let held = subst (λ arrays. IsReference arrays t.0 c.pop_reference-value.result) (sym r.at.rest.arrays) h.0 in
    let is : c.passes-is_one.result ≡ passes k.state.arrays t.0 c.args.target = subst (λ arrays. c.passes-is_one.result ≡ passes arrays t.0 c.args.target) r.at.rest.arrays (c.passes-is_one.ensures t.0 held) in
    let back : to_z w32 (of_z w32 c.flag.result) ≡ c.flag.result = to_z-of_z w32 c.flag.result (record { sfits = c.flag.type_inv }) in
    let value : Int (to_z w32 (of_z w32 c.flag.result)) ≡ flag (passes k.state.arrays t.0 c.args.target) = ap (λ n. Int n) back ∙ c.flag.ensures ∙ ap flag is in
    let same = same_same m.slots c.pop_reference-value.new.self c.push_int.new.self c.pop_reference-value.ensures.same c.push_int.ensures.same in
    told_slots k m c.push_int.new.self k.top.locals (flag (passes k.state.arrays t.0 c.args.target) ∷ t.1) _ r.at same refl
    (subst (λ v. Reads k.state.arrays c.push_int.new.self k.top.locals (v ∷ t.1) k.below) value (c.push_int.ensures.reads k.state.arrays k.top.locals t.1 k.below h.1)) t.3
