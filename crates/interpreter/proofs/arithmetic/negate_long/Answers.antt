use Rattle.std.proofs.Common.{◌≡◌, ◌∷◌, ◌∙◌, sym, subst, arith, w64, to_z, of_z}
use Rattle.std.specs.Int.{int_wrapping_neg}
use Rattle.std.proofs.lemmas.Int.{to_z-of_z}
use Rattle.jtypes.specs.declared.types.Value.TheVariants.{Long}
use Rattle.slots.specs.Reads.{Reads}
use Rattle.slots.specs.Seen.{seen}
use Rattle.slots.proofs.Seen.{same_seen}
use Rattle.interpreter.proofs.Taken.{negated_long_taken, put_room, reads_as}
use Rattle.interpreter.proofs.arithmetic.negate_long.Goals as goal

pub push_long-requires : goal.push_long-requires
push_long-requires c =
    let (s, (arrays, ls, vs, ws, below, ok)) = c.requires in
    let t = negated_long_taken vs ws ok.leaves in
    let first = c.pop_long-a.ensures.reads arrays s.callers.0 ls t.0 t.1 below (reads_as arrays (seen s c.args.window.now) ls vs _ below t.2.operands ok.reads) in
    let room = put_room arrays (seen s c.args.window.now) (seen s c.pop_long-a.new.self) ls t.1 ws below (Long (int_wrapping_neg w64 t.0)) (same_seen s _ _ c.pop_long-a.ensures.same) first.1 ok.room t.2.answer in
    record { room = omega (arith, room) }

pub returns-clause-operated : goal.returns-clause-operated
returns-clause-operated c s arrays ls vs ws below ok =
    let t = negated_long_taken vs ws ok.leaves in
    let first = c.pop_long-a.ensures.reads arrays s.callers.0 ls t.0 t.1 below (reads_as arrays (seen s c.args.window.now) ls vs _ below t.2.operands ok.reads) in
    let ra = c.pop_long-a.result in
    let ea : to_z w64 (of_z w64 ra) ≡ t.0 = to_z-of_z w64 ra (record { sfits = c.pop_long-a.type_inv }) ∙ first.0 in
    let e : to_z w64 (of_z w64 c.wrapping_neg.result) ≡ int_wrapping_neg w64 t.0 = to_z-of_z w64 c.wrapping_neg.result (record { sfits = c.wrapping_neg.type_inv }) ∙ c.wrapping_neg.ensures ∙ (λ i. int_wrapping_neg w64 (ea i)) in
    subst (λ ws. Reads arrays (seen s c.push_long.new.self) ls ws below) (sym t.2.answer)
    (subst (λ n. Reads arrays (seen s c.push_long.new.self) ls (Long n ∷ t.1) below) e (c.push_long.ensures.reads arrays s.callers.0 ls t.1 below first.1))
