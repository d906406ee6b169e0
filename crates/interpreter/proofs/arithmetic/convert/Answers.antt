use Rattle.std.proofs.Common.{◌≡◌, ◌%◌, ◌^◌, ◌∷◌, ◌∙◌, sym, subst, arith, pos, w32, w64, to_z, of_z}
use Rattle.std.specs.Int.{w8, w16, cast_signed, cast_unsigned}
use Rattle.std.proofs.lemmas.Int.{to_z-of_z}
use Rattle.jtypes.specs.declared.types.Value.TheVariants.{Int, Long}
use Rattle.jtypes.specs.Arithmetic.{Leaves, operate, low_int}
use Rattle.jtypes.specs.declared.operations.Operation.TheVariants.{Convert}
use Rattle.slots.specs.Reads.{Reads}
use Rattle.slots.specs.Seen.{seen}
use Rattle.slots.proofs.Seen.{same_seen}
use Rattle.interpreter.proofs.Taken.{widened_taken, narrowed_taken, byte_taken, char_taken, short_taken, put_room, reads_as}
use Rattle.interpreter.proofs.arithmetic.convert.Goals as goal

pub push_long-requires : goal.push_long-requires
push_long-requires c =
    let (s, (arrays, ls, vs, ws, below, ok)) = c.requires in
    let t = widened_taken vs ws (subst (λ k. operate (Convert k) vs ≡ Leaves ws) c.in-IntToLong.is ok.leaves) in
    let first = c.pop_int-a.ensures.reads arrays s.callers.0 ls t.0 t.1 below (reads_as arrays (seen s c.args.window.now) ls vs _ below t.2.operands ok.reads) in
    let room = put_room arrays (seen s c.args.window.now) (seen s c.pop_int-a.new.self) ls t.1 ws below (Long (t.0)) (same_seen s _ _ c.pop_int-a.ensures.same) first.1 ok.room t.2.answer in
    record { room = omega (arith, room) }

pub returns-in-IntToLong-clause-operated : goal.returns-in-IntToLong-clause-operated
returns-in-IntToLong-clause-operated c s arrays ls vs ws below ok =
    let t = widened_taken vs ws (subst (λ k. operate (Convert k) vs ≡ Leaves ws) c.in-IntToLong.is ok.leaves) in
    let first = c.pop_int-a.ensures.reads arrays s.callers.0 ls t.0 t.1 below (reads_as arrays (seen s c.args.window.now) ls vs _ below t.2.operands ok.reads) in
    let ra = c.pop_int-a.result in
    let ea : to_z w32 (of_z w32 ra) ≡ t.0 = to_z-of_z w32 ra (record { sfits = c.pop_int-a.type_inv }) ∙ first.0 in
    let e : to_z w64 (of_z w64 c.from.result) ≡ t.0 = to_z-of_z w64 c.from.result (record { sfits = c.from.type_inv }) ∙ c.from.ensures ∙ (λ i. (ea i)) in
    subst (λ ws. Reads arrays (seen s c.push_long.new.self) ls ws below) (sym t.2.answer)
    (subst (λ n. Reads arrays (seen s c.push_long.new.self) ls (Long n ∷ t.1) below) e (c.push_long.ensures.reads arrays s.callers.0 ls t.1 below first.1))

pub push_int-requires : goal.push_int-requires
push_int-requires c =
    let (s, (arrays, ls, vs, ws, below, ok)) = c.requires in
    let t = narrowed_taken vs ws (subst (λ k. operate (Convert k) vs ≡ Leaves ws) c.in-LongToInt.is ok.leaves) in
    let first = c.pop_long-a.ensures.reads arrays s.callers.0 ls t.0 t.1 below (reads_as arrays (seen s c.args.window.now) ls vs _ below t.2.operands ok.reads) in
    let room = put_room arrays (seen s c.args.window.now) (seen s c.pop_long-a.new.self) ls t.1 ws below (Int (low_int t.0)) (same_seen s _ _ c.pop_long-a.ensures.same) first.1 ok.room t.2.answer in
    record { room = omega (arith, room) }

pub returns-in-LongToInt-clause-operated : goal.returns-in-LongToInt-clause-operated
returns-in-LongToInt-clause-operated c s arrays ls vs ws below ok =
    let t = narrowed_taken vs ws (subst (λ k. operate (Convert k) vs ≡ Leaves ws) c.in-LongToInt.is ok.leaves) in
    let first = c.pop_long-a.ensures.reads arrays s.callers.0 ls t.0 t.1 below (reads_as arrays (seen s c.args.window.now) ls vs _ below t.2.operands ok.reads) in
    let ra = c.pop_long-a.result in
    let ea : to_z w64 (of_z w64 ra) ≡ t.0 = to_z-of_z w64 ra (record { sfits = c.pop_long-a.type_inv }) ∙ first.0 in
    let e : to_z w32 (of_z w32 c.low_int.result) ≡ low_int t.0 = to_z-of_z w32 c.low_int.result (record { sfits = c.low_int.type_inv }) ∙ c.low_int.ensures ∙ (λ i. low_int (ea i)) in
    subst (λ ws. Reads arrays (seen s c.push_int.new.self) ls ws below) (sym t.2.answer)
    (subst (λ n. Reads arrays (seen s c.push_int.new.self) ls (Int n ∷ t.1) below) e (c.push_int.ensures.reads arrays s.callers.0 ls t.1 below first.1))

pub push_int-requires-in-IntToByte : goal.push_int-requires-in-IntToByte
push_int-requires-in-IntToByte c =
    let (s, (arrays, ls, vs, ws, below, ok)) = c.requires in
    let t = byte_taken vs ws (subst (λ k. operate (Convert k) vs ≡ Leaves ws) c.in-IntToByte.is ok.leaves) in
    let first = c.pop_int-a-in-IntToByte.ensures.reads arrays s.callers.0 ls t.0 t.1 below (reads_as arrays (seen s c.args.window.now) ls vs _ below t.2.operands ok.reads) in
    let room = put_room arrays (seen s c.args.window.now) (seen s c.pop_int-a-in-IntToByte.new.self) ls t.1 ws below (Int (cast_signed w8 (cast_unsigned w32 t.0 % 2 ^ 8))) (same_seen s _ _ c.pop_int-a-in-IntToByte.ensures.same) first.1 ok.room t.2.answer in
    record { room = omega (arith, room) }

pub returns-in-IntToByte-clause-operated : goal.returns-in-IntToByte-clause-operated
returns-in-IntToByte-clause-operated c s arrays ls vs ws below ok =
    let t = byte_taken vs ws (subst (λ k. operate (Convert k) vs ≡ Leaves ws) c.in-IntToByte.is ok.leaves) in
    let first = c.pop_int-a-in-IntToByte.ensures.reads arrays s.callers.0 ls t.0 t.1 below (reads_as arrays (seen s c.args.window.now) ls vs _ below t.2.operands ok.reads) in
    let ra = c.pop_int-a-in-IntToByte.result in
    let ea : to_z w32 (of_z w32 ra) ≡ t.0 = to_z-of_z w32 ra (record { sfits = c.pop_int-a-in-IntToByte.type_inv }) ∙ first.0 in
    let e : to_z w32 (of_z w32 c.byte_of.result) ≡ cast_signed w8 (cast_unsigned w32 t.0 % 2 ^ 8) = to_z-of_z w32 c.byte_of.result (record { sfits = c.byte_of.type_inv }) ∙ c.byte_of.ensures ∙ (λ i. cast_signed w8 (cast_unsigned w32 (ea i) % 2 ^ 8)) in
    subst (λ ws. Reads arrays (seen s c.push_int-in-IntToByte.new.self) ls ws below) (sym t.2.answer)
    (subst (λ n. Reads arrays (seen s c.push_int-in-IntToByte.new.self) ls (Int n ∷ t.1) below) e (c.push_int-in-IntToByte.ensures.reads arrays s.callers.0 ls t.1 below first.1))

pub push_int-requires-in-IntToChar : goal.push_int-requires-in-IntToChar
push_int-requires-in-IntToChar c =
    let (s, (arrays, ls, vs, ws, below, ok)) = c.requires in
    let t = char_taken vs ws (subst (λ k. operate (Convert k) vs ≡ Leaves ws) c.in-IntToChar.is ok.leaves) in
    let first = c.pop_int-a-in-IntToChar.ensures.reads arrays s.callers.0 ls t.0 t.1 below (reads_as arrays (seen s c.args.window.now) ls vs _ below t.2.operands ok.reads) in
    let room = put_room arrays (seen s c.args.window.now) (seen s c.pop_int-a-in-IntToChar.new.self) ls t.1 ws below (Int (pos (cast_unsigned w32 t.0 % 2 ^ 16))) (same_seen s _ _ c.pop_int-a-in-IntToChar.ensures.same) first.1 ok.room t.2.answer in
    record { room = omega (arith, room) }

pub returns-in-IntToChar-clause-operated : goal.returns-in-IntToChar-clause-operated
returns-in-IntToChar-clause-operated c s arrays ls vs ws below ok =
    let t = char_taken vs ws (subst (λ k. operate (Convert k) vs ≡ Leaves ws) c.in-IntToChar.is ok.leaves) in
    let first = c.pop_int-a-in-IntToChar.ensures.reads arrays s.callers.0 ls t.0 t.1 below (reads_as arrays (seen s c.args.window.now) ls vs _ below t.2.operands ok.reads) in
    let ra = c.pop_int-a-in-IntToChar.result in
    let ea : to_z w32 (of_z w32 ra) ≡ t.0 = to_z-of_z w32 ra (record { sfits = c.pop_int-a-in-IntToChar.type_inv }) ∙ first.0 in
    let e : to_z w32 (of_z w32 c.char_of.result) ≡ pos (cast_unsigned w32 t.0 % 2 ^ 16) = to_z-of_z w32 c.char_of.result (record { sfits = c.char_of.type_inv }) ∙ c.char_of.ensures ∙ (λ i. pos (cast_unsigned w32 (ea i) % 2 ^ 16)) in
    subst (λ ws. Reads arrays (seen s c.push_int-in-IntToChar.new.self) ls ws below) (sym t.2.answer)
    (subst (λ n. Reads arrays (seen s c.push_int-in-IntToChar.new.self) ls (Int n ∷ t.1) below) e (c.push_int-in-IntToChar.ensures.reads arrays s.callers.0 ls t.1 below first.1))

pub push_int-requires-in-IntToShort : goal.push_int-requires-in-IntToShort
push_int-requires-in-IntToShort c =
    let (s, (arrays, ls, vs, ws, below, ok)) = c.requires in
    let t = short_taken vs ws (subst (λ k. operate (Convert k) vs ≡ Leaves ws) c.in-IntToShort.is ok.leaves) in
    let first = c.pop_int-a-in-IntToShort.ensures.reads arrays s.callers.0 ls t.0 t.1 below (reads_as arrays (seen s c.args.window.now) ls vs _ below t.2.operands ok.reads) in
    let room = put_room arrays (seen s c.args.window.now) (seen s c.pop_int-a-in-IntToShort.new.self) ls t.1 ws below (Int (cast_signed w16 (cast_unsigned w32 t.0 % 2 ^ 16))) (same_seen s _ _ c.pop_int-a-in-IntToShort.ensures.same) first.1 ok.room t.2.answer in
    record { room = omega (arith, room) }

pub returns-in-IntToShort-clause-operated : goal.returns-in-IntToShort-clause-operated
returns-in-IntToShort-clause-operated c s arrays ls vs ws below ok =
    let t = short_taken vs ws (subst (λ k. operate (Convert k) vs ≡ Leaves ws) c.in-IntToShort.is ok.leaves) in
    let first = c.pop_int-a-in-IntToShort.ensures.reads arrays s.callers.0 ls t.0 t.1 below (reads_as arrays (seen s c.args.window.now) ls vs _ below t.2.operands ok.reads) in
    let ra = c.pop_int-a-in-IntToShort.result in
    let ea : to_z w32 (of_z w32 ra) ≡ t.0 = to_z-of_z w32 ra (record { sfits = c.pop_int-a-in-IntToShort.type_inv }) ∙ first.0 in
    let e : to_z w32 (of_z w32 c.short_of.result) ≡ cast_signed w16 (cast_unsigned w32 t.0 % 2 ^ 16) = to_z-of_z w32 c.short_of.result (record { sfits = c.short_of.type_inv }) ∙ c.short_of.ensures ∙ (λ i. cast_signed w16 (cast_unsigned w32 (ea i) % 2 ^ 16)) in
    subst (λ ws. Reads arrays (seen s c.push_int-in-IntToShort.new.self) ls ws below) (sym t.2.answer)
    (subst (λ n. Reads arrays (seen s c.push_int-in-IntToShort.new.self) ls (Int n ∷ t.1) below) e (c.push_int-in-IntToShort.ensures.reads arrays s.callers.0 ls t.1 below first.1))
