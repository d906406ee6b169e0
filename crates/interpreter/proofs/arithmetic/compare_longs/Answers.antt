use Rattle.std.proofs.Common.{◌≡◌, ◌∷◌, ◌∙◌, sym, subst, arith, w32, w64, to_z, of_z}
use Rattle.std.proofs.lemmas.Int.{to_z-of_z}
use Rattle.jtypes.specs.declared.types.Value.TheVariants.{Int, Long}
use Rattle.jtypes.specs.Arithmetic.{order}
use Rattle.slots.specs.Reads.{Reads}
use Rattle.slots.specs.Seen.{seen}
use Rattle.slots.proofs.Seen.{same_seen}
use Rattle.interpreter.proofs.Taken.{compared_taken, put_room, reads_as, same_same}
use Rattle.interpreter.proofs.arithmetic.compare_longs.Goals as goal

pub pop_long-a-requires : goal.pop_long-a-requires
pop_long-a-requires c =
    let (s, (arrays, ls, vs, ws, below, ok)) = c.requires in
    let t = compared_taken vs ws ok.leaves in
    let first = c.pop_long-b.ensures.reads arrays s.callers.0 ls t.0 (Long t.1 ∷ t.2) below (reads_as arrays (seen s c.args.window.now) ls vs _ below t.3.operands ok.reads) in
    (arrays, s.callers.0, ls, t.1, t.2, below, first.1)

pub push_int-requires : goal.push_int-requires
push_int-requires c =
    let (s, (arrays, ls, vs, ws, below, ok)) = c.requires in
    let t = compared_taken vs ws ok.leaves in
    let first = c.pop_long-b.ensures.reads arrays s.callers.0 ls t.0 (Long t.1 ∷ t.2) below (reads_as arrays (seen s c.args.window.now) ls vs _ below t.3.operands ok.reads) in
    let second = c.pop_long-a.ensures.reads arrays s.callers.0 ls t.1 t.2 below first.1 in
    let same = same_same (seen s c.args.window.now) (seen s c.pop_long-b.new.self) (seen s c.pop_long-a.new.self) (same_seen s _ _ c.pop_long-b.ensures.same) (same_seen s _ _ c.pop_long-a.ensures.same) in
    let room = put_room arrays (seen s c.args.window.now) (seen s c.pop_long-a.new.self) ls t.2 ws below (Int (order t.1 t.0)) same second.1 ok.room t.3.answer in
    record { room = omega (arith, room) }

pub returns-clause-operated : goal.returns-clause-operated
returns-clause-operated c s arrays ls vs ws below ok =
    let t = compared_taken vs ws ok.leaves in
    let first = c.pop_long-b.ensures.reads arrays s.callers.0 ls t.0 (Long t.1 ∷ t.2) below (reads_as arrays (seen s c.args.window.now) ls vs _ below t.3.operands ok.reads) in
    let second = c.pop_long-a.ensures.reads arrays s.callers.0 ls t.1 t.2 below first.1 in
    let ra = c.pop_long-a.result in
    let rb = c.pop_long-b.result in
    let ea : to_z w64 (of_z w64 ra) ≡ t.1 = to_z-of_z w64 ra (record { sfits = c.pop_long-a.type_inv }) ∙ second.0 in
    let eb : to_z w64 (of_z w64 rb) ≡ t.0 = to_z-of_z w64 rb (record { sfits = c.pop_long-b.type_inv }) ∙ first.0 in
    let e : to_z w32 (of_z w32 c.order.result) ≡ order t.1 t.0 =
    to_z-of_z w32 c.order.result (record { sfits = c.order.type_inv }) ∙ c.order.ensures ∙ (λ i. order (ea i) (eb i)) in
    subst (λ ws. Reads arrays (seen s c.push_int.new.self) ls ws below) (sym t.3.answer)
    (subst (λ n. Reads arrays (seen s c.push_int.new.self) ls (Int n ∷ t.2) below) e (c.push_int.ensures.reads arrays s.callers.0 ls t.2 below second.1))
