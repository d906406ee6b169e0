use Rattle.std.proofs.Common.{◌≡◌, ◌∷◌, sym, refl, subst, ◌∙◌, arith, w32, w64, to_z, of_z}
use Rattle.std.proofs.lemmas.Int.{to_z-of_z}
use Rattle.jtypes.specs.declared.types.Value.TheVariants.{Int, Long}
use Rattle.jtypes.specs.declared.operations.ArrayKind.TheVariants as array
use Rattle.arena.specs.Placing.{FitsElement}
use Rattle.slots.specs.Reads.{Reads}
use Rattle.verdict.specs.Machine.{element_value}
use Rattle.slots.specs.Seen.{seen}
use Rattle.interpreter.specs.Operated.{HasRoomFor}
use Rattle.interpreter.proofs.Taken.{put_room, same_self}
use Rattle.interpreter.proofs.arrays.push_element.Goals as goal

pub push_int-requires : goal.push_int-requires
push_int-requires c =
    let (s, (arrays, ls, vs, below, ok)) = c.requires in
    let room = put_room arrays (seen s c.args.window.now) (seen s c.args.window.now) ls vs (Int c.args.n ∷ vs) below (Int c.args.n) (same_self (seen s c.args.window.now)) ok.reads (subst (λ kind. HasRoomFor (seen s c.args.window.now) ls (element_value kind c.args.n ∷ vs)) c.in-Int.is ok.room) refl in
    record { room = omega (arith, room) }

pub push_long-requires : goal.push_long-requires
push_long-requires c =
    let (s, (arrays, ls, vs, below, ok)) = c.requires in
    let room = put_room arrays (seen s c.args.window.now) (seen s c.args.window.now) ls vs (Long c.args.n ∷ vs) below (Long c.args.n) (same_self (seen s c.args.window.now)) ok.reads (subst (λ kind. HasRoomFor (seen s c.args.window.now) ls (element_value kind c.args.n ∷ vs)) c.in-Long.is ok.room) refl in
    record { room = omega (arith, room) }

pub returns-in-Int-clause-pushes : goal.returns-in-Int-clause-pushes
returns-in-Int-clause-pushes c s arrays ls vs below r =
    let back : to_z w32 (of_z w32 c.int_of.result) ≡ c.args.n = to_z-of_z w32 c.int_of.result (record { sfits = c.int_of.type_inv }) ∙ c.int_of.ensures ∙ to_z-of_z w64 c.args.n c.ranges.n in
    subst (λ kind. Reads arrays (seen s c.push_int.new.self) ls (element_value kind c.args.n ∷ vs) below) (sym c.in-Int.is)
    (subst (λ n. Reads arrays (seen s c.push_int.new.self) ls (Int n ∷ vs) below) back (c.push_int.ensures.reads arrays s.callers.0 ls vs below r))

pub returns-in-Long-clause-pushes : goal.returns-in-Long-clause-pushes
returns-in-Long-clause-pushes c s arrays ls vs below r =
    let back : to_z w64 (of_z w64 c.args.n) ≡ c.args.n = to_z-of_z w64 c.args.n c.ranges.n in
    subst (λ kind. Reads arrays (seen s c.push_long.new.self) ls (element_value kind c.args.n ∷ vs) below) (sym c.in-Long.is)
    (subst (λ n. Reads arrays (seen s c.push_long.new.self) ls (Long n ∷ vs) below) back (c.push_long.ensures.reads arrays s.callers.0 ls vs below r))

pub int_of-requires : goal.int_of-requires
int_of-requires c =
    let (s, (arrays, ls, vs, below, ok)) = c.requires in
    let fits : FitsElement array.Int c.args.n = subst (λ kind. FitsElement kind c.args.n) c.in-Int.is ok.fits in
    subst (FitsElement array.Int) (sym (to_z-of_z w64 c.args.n c.ranges.n)) fits
