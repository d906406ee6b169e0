use Rattle.std.proofs.Common.{rules, ◌≡◌, ◌∷◌, ◌∙◌, sym, refl, subst, pos, w32, to_z, of_z}
use Rattle.std.proofs.lemmas.Int.{to_z-of_z}
use Rattle.jtypes.specs.declared.types.Value.TheVariants.{Int}
use Rattle.jtypes.specs.Arithmetic.{divide}
use Rattle.slots.specs.Reads.{Reads}
use Rattle.interpreter.proofs.Taken.{two_ints_room, divides_some, divides_none}
use Rattle.interpreter.proofs.arithmetic.divide_ints.Goals as goal

pub pop_int-a-requires : goal.pop_int-a-requires
pop_int-a-requires c =
    let (arrays, ls, a, b, vs, below, r) = c.requires in
    (arrays, ls, a, vs, below, (c.pop_int-b.ensures.reads arrays ls b (Int a ∷ vs) below r).1)

pub push_int-requires : goal.push_int-requires
push_int-requires c =
    let (arrays, ls, a, b, vs, below, r) = c.requires in
    let first = c.pop_int-b.ensures.reads arrays ls b (Int a ∷ vs) below r in
    let second = c.pop_int-a.ensures.reads arrays ls a vs below first.1 in
    record { room = two_ints_room arrays c.args.slots.now c.pop_int-b.new.self c.pop_int-a.new.self ls a b vs below r c.pop_int-b.ensures.same c.pop_int-a.ensures.same second.1 }

pub returns-in-Some-clause-divides : goal.returns-in-Some-clause-divides
returns-in-Some-clause-divides c arrays ls a b vs below r =
    let first = c.pop_int-b.ensures.reads arrays ls b (Int a ∷ vs) below r in
    let second = c.pop_int-a.ensures.reads arrays ls a vs below first.1 in
    let ra = c.pop_int-a.result in
    let rb = c.pop_int-b.result in
    let ea : to_z w32 (of_z w32 ra) ≡ a = to_z-of_z w32 ra (record { sfits = c.pop_int-a.type_inv }) ∙ second.0 in
    let eb : to_z w32 (of_z w32 rb) ≡ b = to_z-of_z w32 rb (record { sfits = c.pop_int-b.type_inv }) ∙ first.0 in
    let n = c.in-Some.n in
    let there = c.in-Some.ensures.some n refl in
    let back : to_z w32 (of_z w32 n) ≡ divide w32 c.args.division a b = to_z-of_z w32 n (search rules) ∙ there.1 ∙ (λ i. divide w32 c.args.division (ea i) (eb i)) in
    let whole = λ (e : b ≡ pos 0). there.0 (eb ∙ e) in
    divides_some w32 arrays c.push_int.new.self ls c.args.division (λ n. Int n) a b vs below whole
    (subst (λ n. Reads arrays c.push_int.new.self ls (Int n ∷ vs) below) back (c.push_int.ensures.reads arrays ls vs below second.1))

pub returns-in-None-clause-divides : goal.returns-in-None-clause-divides
returns-in-None-clause-divides c arrays ls a b vs below r =
    let first = c.pop_int-b.ensures.reads arrays ls b (Int a ∷ vs) below r in
    let rb = c.pop_int-b.result in
    let eb : to_z w32 (of_z w32 rb) ≡ b = to_z-of_z w32 rb (record { sfits = c.pop_int-b.type_inv }) ∙ first.0 in
    divides_none w32 arrays c.pop_int-a.new.self ls c.args.division (λ n. Int n) a b vs below (sym eb ∙ c.in-None.ensures.none refl)
