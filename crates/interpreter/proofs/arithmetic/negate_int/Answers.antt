use Rattle.std.proofs.Common.{◌≡◌, ◌∷◌, ◌∙◌, sym, subst, arith, w32, to_z, of_z}
use Rattle.std.specs.Int.{int_wrapping_neg}
use Rattle.std.proofs.lemmas.Int.{to_z-of_z}
use Rattle.jtypes.specs.declared.types.Value.TheVariants.{Int}
use Rattle.slots.specs.Reads.{Reads}
use Rattle.slots.specs.Seen.{seen}
use Rattle.slots.proofs.Seen.{same_seen}
use Rattle.interpreter.proofs.Taken.{negated_int_taken, put_room, reads_as}
use Rattle.interpreter.proofs.arithmetic.negate_int.Goals as goal

pub push_int-requires : goal.push_int-requires
push_int-requires c =
    let (s, (arrays, ls, vs, ws, below, ok)) = c.requires in
    let t = negated_int_taken vs ws ok.leaves in
    let first = c.pop_int-a.ensures.reads arrays s.callers.0 ls t.0 t.1 below (reads_as arrays (seen s c.args.window.now) ls vs _ below t.2.operands ok.reads) in
    let room = put_room arrays (seen s c.args.window.now) (seen s c.pop_int-a.new.self) ls t.1 ws below (Int (int_wrapping_neg w32 t.0)) (same_seen s _ _ c.pop_int-a.ensures.same) first.1 ok.room t.2.answer in
    record { room = omega (arith, room) }

pub returns-clause-operated : goal.returns-clause-operated
returns-clause-operated c s arrays ls vs ws below ok =
    let t = negated_int_taken vs ws ok.leaves in
    let first = c.pop_int-a.ensures.reads arrays s.callers.0 ls t.0 t.1 below (reads_as arrays (seen s c.args.window.now) ls vs _ below t.2.operands ok.reads) in
    let ra = c.pop_int-a.result in
    let ea : to_z w32 (of_z w32 ra) ≡ t.0 = to_z-of_z w32 ra (record { sfits = c.pop_int-a.type_inv }) ∙ first.0 in
    let e : to_z w32 (of_z w32 c.wrapping_neg.result) ≡ int_wrapping_neg w32 t.0 = to_z-of_z w32 c.wrapping_neg.result (record { sfits = c.wrapping_neg.type_inv }) ∙ c.wrapping_neg.ensures ∙ (λ i. int_wrapping_neg w32 (ea i)) in
    subst (λ ws. Reads arrays (seen s c.push_int.new.self) ls ws below) (sym t.2.answer)
    (subst (λ n. Reads arrays (seen s c.push_int.new.self) ls (Int n ∷ t.1) below) e (c.push_int.ensures.reads arrays s.callers.0 ls t.1 below first.1))
