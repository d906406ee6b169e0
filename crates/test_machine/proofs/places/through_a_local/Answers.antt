use Rattle.std.proofs.Common.{List, [], Option, refl, ap, length, arith, w32, to_z, of_z}
use Rattle.std.specs.Prelude.{ℤ}
use Rattle.jtypes.specs.declared.types.Value.{Value}
use Rattle.jtypes.specs.declared.types.Value.TheVariants.{Int}
use Rattle.verdict.specs.Machine.{store_value}
use Rattle.slots.specs.Seen.{seen}
use Rattle.slots.proofs.Arrays.{reads_top}
use Rattle.test_machine.proofs.Begun.{own, begun}
use Rattle.test_machine.proofs.places.through_a_local.Goals as goal

-- the local variables after the store
abbrev after_store : ℤ → List (Option Value)
after_store i = store_value own 3 (Int i)

pub push_int-requires : goal.push_int-requires
push_int-requires c =
    let top = reads_top [] c.begin.new.self own [] [] (c.begin.ensures.reads []) in
    let w0 = c.begin.ensures.rows.words in
    let w1 = ap length c.as_mut_slice-words.ensures.value in
    let b0 = c.begin.ensures.base in
    record { room = omega (arith, top, w0, w1, b0) }

pub store_int-requires : goal.store_int-requires
store_int-requires c =
    let i : ℤ = to_z w32 (of_z w32 c.args.n) in
    let callers = c.begin.new.self.callers.0 in
    let a = begun c.begin.new.self c.as_mut_slice-words.result.now c.as_mut_slice-kinds.result.now c.as_mut_slice-words.ensures.value c.as_mut_slice-kinds.ensures.value (c.begin.ensures.reads []) in
    let b = c.push_int.ensures.reads [] callers own [] [] a in
    ([], callers, own, i, [], [], omega arith, b)

pub load_int-requires-clause-local : goal.load_int-requires-clause-local
load_int-requires-clause-local c =
    let i : ℤ = to_z w32 (of_z w32 c.args.n) in
    let callers = c.begin.new.self.callers.0 in
    let a = begun c.begin.new.self c.as_mut_slice-words.result.now c.as_mut_slice-kinds.result.now c.as_mut_slice-words.ensures.value c.as_mut_slice-kinds.ensures.value (c.begin.ensures.reads []) in
    let b = c.push_int.ensures.reads [] callers own [] [] a in
    let d = c.store_int.ensures.reads [] callers own i [] [] (omega arith) b in
    ([], callers, after_store i, i, [], [], refl, d)

pub load_int-requires-clause-room : goal.load_int-requires-clause-room
load_int-requires-clause-room c =
    let i : ℤ = to_z w32 (of_z w32 c.args.n) in
    let callers = c.begin.new.self.callers.0 in
    let a = begun c.begin.new.self c.as_mut_slice-words.result.now c.as_mut_slice-kinds.result.now c.as_mut_slice-words.ensures.value c.as_mut_slice-kinds.ensures.value (c.begin.ensures.reads []) in
    let b = c.push_int.ensures.reads [] callers own [] [] a in
    let d = c.store_int.ensures.reads [] callers own i [] [] (omega arith) b in
    let top = reads_top [] (seen c.begin.new.self c.store_int.new.self) (after_store i) [] [] d in
    let w0 = c.begin.ensures.rows.words in
    let w1 = ap length c.as_mut_slice-words.ensures.value in
    let w2 = c.push_int.ensures.same.words in
    let w3 = c.store_int.ensures.same.words in
    let b0 = c.begin.ensures.base in
    let b1 = c.push_int.ensures.same.base in
    let b2 = c.store_int.ensures.same.base in
    omega (arith, top, w0, w1, w2, w3, b0, b1, b2)

pub pop_int-requires : goal.pop_int-requires
pop_int-requires c =
    let i : ℤ = to_z w32 (of_z w32 c.args.n) in
    let callers = c.begin.new.self.callers.0 in
    let a = begun c.begin.new.self c.as_mut_slice-words.result.now c.as_mut_slice-kinds.result.now c.as_mut_slice-words.ensures.value c.as_mut_slice-kinds.ensures.value (c.begin.ensures.reads []) in
    let b = c.push_int.ensures.reads [] callers own [] [] a in
    let d = c.store_int.ensures.reads [] callers own i [] [] (omega arith) b in
    let e = c.load_int.ensures.reads [] callers (after_store i) i [] [] refl d in
    ([], callers, after_store i, i, [], [], e)
