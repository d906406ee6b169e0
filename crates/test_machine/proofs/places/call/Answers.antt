use Rattle.std.proofs.Common.{◌≡◌, ℕ, ◌+◌, List, [], ◌∷◌, length, Option, Some, None, refl, ap, arith, w32, to_z, of_z}
use Rattle.std.specs.Prelude.{ℤ}
use Rattle.jtypes.specs.declared.types.Value.{Value}
use Rattle.jtypes.specs.declared.types.Value.TheVariants.{Int}
use Rattle.verdict.specs.Machine.{Activation}
use Rattle.slots.specs.declared.reference.Reference.{Reference}
use Rattle.slots.specs.Reads.{IsRead}
use Rattle.slots.specs.Leaving.{Callers, Leaves}
use Rattle.slots.proofs.Arrays.{reads_top, stack_top}
use Rattle.test_machine.proofs.Begun.{own, begun}
use Rattle.test_machine.proofs.places.call.Goals as goal

-- the frame of the caller, and the local variables of the called method
abbrev caller : Activation
caller = record { method = 0; place = 0; locals = own; operands = [] }

abbrev called : ℤ → List (Option Value)
called i = Some (Int i) ∷ None ∷ []

back : (callers left : Callers) (words : List ℕ) (kinds : List Reference) (base top : ℕ) (i : ℤ) (answer : Option ℕ) → Leaves [] (Int i ∷ []) callers words kinds base top left (caller ∷ []) answer
    → IsRead [] words kinds left.0 base top own (Int i ∷ []) []
back callers left words kinds base top i None h = absurd h
back callers left words kinds base top i (Some place) h = h.2

pub push_int-requires : goal.push_int-requires
push_int-requires c =
    let top = reads_top [] c.begin.new.self own [] [] (c.begin.ensures.reads []) in
    let w0 = c.begin.ensures.rows.words in
    let w1 = ap length c.as_mut_slice-words.ensures.value in
    let b0 = c.begin.ensures.base in
    record { room = omega (arith, top, w0, w1, b0) }

pub enter-requires-clause-callers : goal.enter-requires-clause-callers
enter-requires-clause-callers c = let e = ap (λ (r : Callers). r.1) c.begin.ensures.callers in omega (arith, e)

pub enter-requires-clause-params : goal.enter-requires-clause-params
enter-requires-clause-params c =
    let i : ℤ = to_z w32 (of_z w32 c.args.n) in
    let callers = c.begin.new.self.callers.0 in
    let a = begun c.begin.new.self c.as_mut_slice-words.result.now c.as_mut_slice-kinds.result.now c.as_mut_slice-words.ensures.value c.as_mut_slice-kinds.ensures.value (c.begin.ensures.reads []) in
    let b = c.push_int.ensures.reads [] callers own [] [] a in
    let w = c.push_int.new.self in
    let top = stack_top [] w.words.now w.kinds.now (w.base + length own) w.top (Int i ∷ []) b.stack in
    omega (arith, top)

pub enter-requires-clause-room : goal.enter-requires-clause-room
enter-requires-clause-room c =
    let i : ℤ = to_z w32 (of_z w32 c.args.n) in
    let callers = c.begin.new.self.callers.0 in
    let a = begun c.begin.new.self c.as_mut_slice-words.result.now c.as_mut_slice-kinds.result.now c.as_mut_slice-words.ensures.value c.as_mut_slice-kinds.ensures.value (c.begin.ensures.reads []) in
    let b = c.push_int.ensures.reads [] callers own [] [] a in
    let w = c.push_int.new.self in
    let top = stack_top [] w.words.now w.kinds.now (w.base + length own) w.top (Int i ∷ []) b.stack in
    let w0 = c.begin.ensures.rows.words in
    let w1 = ap length c.as_mut_slice-words.ensures.value in
    let w2 = c.push_int.ensures.same.words in
    let b0 = c.begin.ensures.base in
    let b1 = c.push_int.ensures.same.base in
    omega (arith, top, w0, w1, w2, b0, b1)

pub push_int-requires-2 : goal.push_int-requires-2
push_int-requires-2 c =
    let i : ℤ = to_z w32 (of_z w32 c.args.n) in
    let callers = c.begin.new.self.callers.0 in
    let a = begun c.begin.new.self c.as_mut_slice-words.result.now c.as_mut_slice-kinds.result.now c.as_mut_slice-words.ensures.value c.as_mut_slice-kinds.ensures.value (c.begin.ensures.reads []) in
    let b = c.push_int.ensures.reads [] callers own [] [] a in
    let d = c.enter.ensures.reads [] caller (Int i ∷ []) [] b refl (omega arith) in
    let w = c.push_int.new.self in
    let v = c.enter.new.self in
    let top = stack_top [] w.words.now w.kinds.now (w.base + length own) w.top (Int i ∷ []) b.stack in
    let high = stack_top [] v.words.now v.kinds.now (v.base + length (called i)) v.top [] d.stack in
    let w0 = c.begin.ensures.rows.words in
    let w1 = ap length c.as_mut_slice-words.ensures.value in
    let w2 = c.push_int.ensures.same.words in
    let w3 = c.enter.ensures.rows.words in
    let b0 = c.begin.ensures.base in
    let b1 = c.push_int.ensures.same.base in
    let b2 = c.enter.ensures.base in
    record { room = omega (arith, top, high, w0, w1, w2, w3, b0, b1, b2) }

pub leave_int-place-requires : goal.leave_int-place-requires
leave_int-place-requires c =
    let i : ℤ = to_z w32 (of_z w32 c.args.n) in
    let callers = c.begin.new.self.callers.0 in
    let a = begun c.begin.new.self c.as_mut_slice-words.result.now c.as_mut_slice-kinds.result.now c.as_mut_slice-words.ensures.value c.as_mut_slice-kinds.ensures.value (c.begin.ensures.reads []) in
    let b = c.push_int.ensures.reads [] callers own [] [] a in
    let d = c.enter.ensures.reads [] caller (Int i ∷ []) [] b refl (omega arith) in
    ([], c.enter.new.callers.0, called i, i, [], caller ∷ [], c.push_int-2.ensures.reads [] c.enter.new.callers.0 (called i) [] (caller ∷ []) d)

pub pop_int-requires : goal.pop_int-requires
pop_int-requires c =
    let i : ℤ = to_z w32 (of_z w32 c.args.n) in
    let callers = c.begin.new.self.callers.0 in
    let a = begun c.begin.new.self c.as_mut_slice-words.result.now c.as_mut_slice-kinds.result.now c.as_mut_slice-words.ensures.value c.as_mut_slice-kinds.ensures.value (c.begin.ensures.reads []) in
    let b = c.push_int.ensures.reads [] callers own [] [] a in
    let d = c.enter.ensures.reads [] caller (Int i ∷ []) [] b refl (omega arith) in
    let e = c.push_int-2.ensures.reads [] c.enter.new.callers.0 (called i) [] (caller ∷ []) d in
    let w = c.leave_int-place.new.self in
    ([], c.leave_int-place.new.callers.0, own, i, [], [], back c.enter.new.callers c.leave_int-place.new.callers w.words.now w.kinds.now w.base w.top i c.leave_int-place.result (c.leave_int-place.ensures.reads [] (called i) i [] (caller ∷ []) e))
