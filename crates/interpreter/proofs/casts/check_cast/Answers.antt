use Rattle.std.proofs.Common.{◌≡◌, true, false, refl, sym, ap, ◌∙◌, subst, ◌∷◌}
use Rattle.std.specs.Prelude.{if◌then◌else◌}
use Rattle.jtypes.specs.declared.types.Value.TheVariants.{Ref}
use Rattle.jtypes.specs.declared.types.JavaFault.TheVariants.{ClassCast}
use Rattle.arena.specs.Placing.{IsReference}
use Rattle.verdict.specs.Machine.{may_cast, next_with, throws}
use Rattle.interpreter.proofs.Taken.{reads_as, same_self}
use Rattle.interpreter.proofs.Onward.{told_slots}
use Rattle.interpreter.proofs.Castings.{cast_there}
use Rattle.interpreter.proofs.casts.check_cast.Goals as goal

pub may_cast-requires : goal.may_cast-requires
may_cast-requires c =
    let (k, r) = c.requires in
    let m = c.args.machine.now in
    let t = cast_there k c.args.target k.top.operands r.next r.is in
    let h = c.top_reference-value.ensures k.state.arrays k.top.locals t.0 t.1 k.below (reads_as k.state.arrays m.slots k.top.locals k.top.operands _ k.below t.2 r.at.reads) in
    (t.0, subst (λ arrays. IsReference arrays t.0 c.top_reference-value.result) (sym r.at.rest.arrays) h)

pub returns-then-may_cast-clause-told : goal.returns-then-may_cast-clause-told
returns-then-may_cast-clause-told c k r =
    let m = c.args.machine.now in
    let t = cast_there k c.args.target k.top.operands r.next r.is in
    let read = reads_as k.state.arrays m.slots k.top.locals k.top.operands _ k.below t.2 r.at.reads in
    let h = c.top_reference-value.ensures k.state.arrays k.top.locals t.0 t.1 k.below read in
    let may = c.if-may_cast.ensures t.0 (subst (λ arrays. IsReference arrays t.0 c.top_reference-value.result) (sym r.at.rest.arrays) h) in
    let passes : may_cast k.state.arrays t.0 c.args.target ≡ true = subst (λ arrays. may_cast arrays t.0 c.args.target ≡ true) r.at.rest.arrays (sym may) in
    told_slots k m m.slots k.top.locals (Ref t.0 ∷ t.1) _ r.at (same_self m.slots) refl read
    (t.3 ∙ ap (λ b. if b then next_with k.class k.state k.top k.below (Ref t.0 ∷ t.1) else throws k.state ClassCast) passes)

pub returns-else-may_cast-clause-told : goal.returns-else-may_cast-clause-told
returns-else-may_cast-clause-told c k r =
    let m = c.args.machine.now in
    let t = cast_there k c.args.target k.top.operands r.next r.is in
    let read = reads_as k.state.arrays m.slots k.top.locals k.top.operands _ k.below t.2 r.at.reads in
    let h = c.top_reference-value.ensures k.state.arrays k.top.locals t.0 t.1 k.below read in
    let may = c.if-may_cast.ensures t.0 (subst (λ arrays. IsReference arrays t.0 c.top_reference-value.result) (sym r.at.rest.arrays) h) in
    let fails : may_cast k.state.arrays t.0 c.args.target ≡ false = subst (λ arrays. may_cast arrays t.0 c.args.target ≡ false) r.at.rest.arrays (sym may) in
    (k.state, r.at.rest, t.3 ∙ ap (λ b. if b then next_with k.class k.state k.top k.below (Ref t.0 ∷ t.1) else throws k.state ClassCast) fails)
