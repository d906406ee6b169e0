use Rattle.std.proofs.Common.{rules, ◌≡◌, ◌∷◌, ◌∙◌, sym, refl, subst, pos, w64, to_z, of_z}
use Rattle.std.proofs.lemmas.Int.{to_z-of_z}
use Rattle.jtypes.specs.declared.types.Value.TheVariants.{Long}
use Rattle.jtypes.specs.Arithmetic.{divide}
use Rattle.slots.specs.Reads.{Reads}
use Rattle.interpreter.proofs.Taken.{two_longs_room, divides_some, divides_none}
use Rattle.interpreter.proofs.arithmetic.divide_longs.Goals as goal

pub pop_long-a-requires : goal.pop_long-a-requires
pop_long-a-requires c =
    let (arrays, ls, a, b, vs, below, r) = c.requires in
    (arrays, ls, a, vs, below, (c.pop_long-b.ensures.reads arrays ls b (Long a ∷ vs) below r).1)

pub push_long-requires : goal.push_long-requires
push_long-requires c =
    let (arrays, ls, a, b, vs, below, r) = c.requires in
    let first = c.pop_long-b.ensures.reads arrays ls b (Long a ∷ vs) below r in
    let second = c.pop_long-a.ensures.reads arrays ls a vs below first.1 in
    record { room = two_longs_room arrays c.args.slots.now c.pop_long-b.new.self c.pop_long-a.new.self ls a b vs below r c.pop_long-b.ensures.same c.pop_long-a.ensures.same second.1 }

pub returns-in-Some-clause-divides : goal.returns-in-Some-clause-divides
returns-in-Some-clause-divides c arrays ls a b vs below r =
    let first = c.pop_long-b.ensures.reads arrays ls b (Long a ∷ vs) below r in
    let second = c.pop_long-a.ensures.reads arrays ls a vs below first.1 in
    let ra = c.pop_long-a.result in
    let rb = c.pop_long-b.result in
    let ea : to_z w64 (of_z w64 ra) ≡ a = to_z-of_z w64 ra (record { sfits = c.pop_long-a.type_inv }) ∙ second.0 in
    let eb : to_z w64 (of_z w64 rb) ≡ b = to_z-of_z w64 rb (record { sfits = c.pop_long-b.type_inv }) ∙ first.0 in
    let n = c.in-Some.n in
    let there = c.in-Some.ensures.some n refl in
    let back : to_z w64 (of_z w64 n) ≡ divide w64 c.args.division a b = to_z-of_z w64 n (search rules) ∙ there.1 ∙ (λ i. divide w64 c.args.division (ea i) (eb i)) in
    let whole = λ (e : b ≡ pos 0). there.0 (eb ∙ e) in
    divides_some w64 arrays c.push_long.new.self ls c.args.division (λ n. Long n) a b vs below whole
    (subst (λ n. Reads arrays c.push_long.new.self ls (Long n ∷ vs) below) back (c.push_long.ensures.reads arrays ls vs below second.1))

pub returns-in-None-clause-divides : goal.returns-in-None-clause-divides
returns-in-None-clause-divides c arrays ls a b vs below r =
    let first = c.pop_long-b.ensures.reads arrays ls b (Long a ∷ vs) below r in
    let rb = c.pop_long-b.result in
    let eb : to_z w64 (of_z w64 rb) ≡ b = to_z-of_z w64 rb (record { sfits = c.pop_long-b.type_inv }) ∙ first.0 in
    divides_none w64 arrays c.pop_long-a.new.self ls c.args.division (λ n. Long n) a b vs below (sym eb ∙ c.in-None.ensures.none refl)
