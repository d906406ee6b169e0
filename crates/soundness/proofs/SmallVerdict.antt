-- No refusal applies to the bytes of the small class, and its bounds are the cost of its only path.
use Rattle.std.proofs.Common.{◌≡◌, ℕ, zero, suc, ◌<◌, ◌≤◌, ◌==◌, Bool, true, false, cond, List, [], ◌∷◌, length, Some, None, Ok, refl, sym, ap, ◌∙◌, subst, arith, zero-add, inl, inr}
use Rattle.std.specs.Prelude.{slice_get, Any, IsFalse, IsSome, ℤ, pos, is_some}
use Rattle.std.proofs.lemmas.Bool.{eqb-true, false≢true}
use Rattle.jtypes.specs.declared.refusal.Refusal.{Refusal}
use Rattle.jtypes.specs.declared.refusal.Refusal.TheVariants.{UnknownMember, BadStackMap, TypeMismatch, FallsOff, LengthNotConstant, Recursive, StepLimit, WordLimit, FrameLimit, BadTarget, BackwardBranch}
use Rattle.jtypes.specs.Layout.{first, operand, Stands}
use Rattle.jtypes.proofs.Laws.{whole_found}
use Rattle.constpool.specs.Lookup.{Slot, utf8_at, class_at, pair_at, member_of, method_at}
use Rattle.classfile.specs.declared.class_file.Member.{Member}
use Rattle.classfile.specs.declared.class_file.Parts.{Parts}
use Rattle.classfile.specs.declared.class_file.CodeParts.{CodeParts}
use Rattle.classfile.specs.Code.{contents_named}
use Rattle.classfile.specs.View.{ClassView, view_of}
use Rattle.decode.specs.Code.{IsSequence, one, by_form, operands}
use Rattle.decode.specs.Table.{form_at}
use Rattle.decode.specs.Places.{at_place, target_of, IsTarget, falls_through, BranchStands, CodeStands}
use Rattle.decode.proofs.Targets.{no_target}
use Rattle.decode.specs.declared.instruction.Instruction.TheVariants as instruction
use Rattle.decode.specs.declared.instruction.Placed.{Placed}
use Rattle.decode.proofs.Runs.{Run, run_goes_on, sequence_once}
use Rattle.jtypes.specs.declared.operations.Kind.TheVariants as kind
use Rattle.jtypes.specs.declared.operations.Invoke.TheVariants as invoke
use Rattle.frames.specs.Members.{library_rows, callee_at}
use Rattle.frames.specs.declared.frame.Environment.{Environment}
use Rattle.frames.specs.StackMap.{without}
use Rattle.typecheck.specs.Typing.{Method, IsProcessOf, instruction_at, call_of}
use Rattle.typecheck.specs.Mismatch.{LacksFrame, at_target, after_end, IsMismatch}
use Rattle.typecheck.specs.Pass.{failure_of, IsReady}
use Rattle.typecheck.proofs.Passes.{fails_at_mismatch}
use Rattle.bounds.specs.Paths.{Cost, Path, StandsAt, AreBounds, IsWithin, SomePathExceeds, last_cost, after_one, step_limit, word_limit, slot_limit, depth_limit}
use Rattle.bounds.specs.Recursion.{HasCall, IsOrdered, IsRecursive}
use Rattle.bounds.specs.Table.{Costs, IsTable, LeadsOn, cost_by}
use Rattle.bounds.proofs.Greatest.{tables_are_bounds}
use Rattle.verdict.specs.Shape.{is_constructor, HasCode, ShapeStands}
use Rattle.verdict.specs.Verdict.{is_known, InstructionStands, InstructionsStand, HasInstructions, IsBody, BodyStands, TypesStand, HasTypes, IsClassOfFile, ClassStands, BoundStands, by_layout, by_shape, by_instructions, by_types, by_class, by_names, IsAccepted, IsClassOf}
use Rattle.verdict.proofs.Known.{none_beyond}
use Rattle.verdict.proofs.Methods.{any_at}
use Rattle.soundness.specs.Example as example
use Rattle.soundness.specs.Accepted.{small_bytes, small_pool, small_parts, constructor_member, process_member, constructor_code, constructor_method, small_class}
use Rattle.soundness.proofs.StraightCode.{Each, each_at, at_its_place, IsStraight}
use Rattle.frames.proofs.Declares.{declared_once}
use Rattle.soundness.proofs.OneClass.{code_once, body_once, class_once}
use Rattle.bounds.proofs.Ranks.{ranked_is_not_recursive}
use Rattle.soundness.proofs.SmallBytes.{is_file, same_file, has_shape, constructor_parts, process_parts, constructor_signed, process_signed, are_good}
use Rattle.jtypes.specs.Profile.{Third}

abbrev view : ClassView
view = view_of small_pool small_parts

-- ---- the instructions

aload_1 : first (one Third small_pool 0) (0x2B ∷ []) ≡ Ok (instruction.Load kind.Reference 1, [])
unfolding one by_form operands form_at operand
aload_1 = refl

areturn : first (one Third small_pool 1) (0xB0 ∷ []) ≡ Ok (instruction.Return kind.Reference, [])
unfolding one by_form operands form_at operand
areturn = refl

aload_0 : first (one Third small_pool 0) (0x2A ∷ []) ≡ Ok (instruction.Load kind.Reference 0, [])
unfolding one by_form operands form_at operand
aload_0 = refl

invokespecial : first (one Third small_pool 1) (0xB7 ∷ 0 ∷ 10 ∷ []) ≡ Ok (instruction.Invoke invoke.Special 10, [])
unfolding one by_form operands form_at operand method_at class_at pair_at member_of utf8_at
invokespecial = refl

returns : first (one Third small_pool 4) (0xB1 ∷ []) ≡ Ok (instruction.ReturnVoid, [])
unfolding one by_form operands form_at operand
returns = refl

process_sequence : IsSequence Third small_pool 0 process_parts.code example.method.code
process_sequence = (
  refl,
  0x2B ∷ [],
  0xB0 ∷ [],
  refl,
  refl,
  whole_found (one Third small_pool 0) (0x2B ∷ []) (instruction.Load kind.Reference 1) aload_1,
  (refl, 0xB0 ∷ [], [], refl, refl, whole_found (one Third small_pool 1) (0xB0 ∷ []) (instruction.Return kind.Reference) areturn, refl),
)

constructor_sequence : IsSequence Third small_pool 0 constructor_parts.code constructor_code
constructor_sequence = (
  refl,
  0x2A ∷ [],
  0xB7 ∷ 0 ∷ 10 ∷ 0xB1 ∷ [],
  refl,
  refl,
  whole_found (one Third small_pool 0) (0x2A ∷ []) (instruction.Load kind.Reference 0) aload_0,
  (
    refl,
    0xB7 ∷ 0 ∷ 10 ∷ [],
    0xB1 ∷ [],
    refl,
    refl,
    whole_found (one Third small_pool 1) (0xB7 ∷ 0 ∷ 10 ∷ []) (instruction.Invoke invoke.Special 10) invokespecial,
    (refl, 0xB1 ∷ [], [], refl, refl, whole_found (one Third small_pool 4) (0xB1 ∷ []) instruction.ReturnVoid returns, refl),
  ),
)

-- ---- level by level: the instructions

first_whole : first (one Third small_pool 0) (0x2B ∷ 0xB0 ∷ []) ≡ Ok (instruction.Load kind.Reference 1, 0xB0 ∷ [])
unfolding one by_form operands form_at operand
first_whole = refl

process_run : Run small_pool 2 process_parts.code example.method.code []
process_run = (refl, 0xB0 ∷ [], refl, first_whole, (refl, [], refl, areturn, refl))

-- `IsPlain` holds if the instruction is neither a branch nor an own call.
abbrev IsPlain : Placed → Type 0
IsPlain p = (target_of p.instruction ≡ None) × (call_of view p.instruction ≡ None)

process_plain : Each IsPlain example.method.code
process_plain = ((refl, refl), ((refl, refl), tt))

-- The code has no branch.
branch_in : {P : Placed → Type 0} → ((p : Placed) → P p → (z : ℤ) × IsTarget p.instruction z) → Any P example.method.code → ⊥
branch_in {P = P} leads any =
    let it = any_at P example.method.code any in
    go it.0 it.1 it.2 (leads it.1 it.3)
  where
    go : (n : ℕ) (p : Placed) → slice_get example.method.code n ≡ Some p → (z : ℤ) × IsTarget p.instruction z → ⊥
    go zero p e h = let same : example.load_entry ≡ p = cc e in let none : target_of p.instruction ≡ None = subst (λ (x : Placed). target_of x.instruction ≡ None) same refl in no_target p.instruction h.0 none h.1
    go (suc zero) p e h = let same : example.give ≡ p = cc e in let none : target_of p.instruction ≡ None = subst (λ (x : Placed). target_of x.instruction ≡ None) same refl in no_target p.instruction h.0 none h.1
    go (suc (suc n)) p e h = cc e

no_branch : (r : Refusal) → BranchStands example.method.code r → ⊥
no_branch BadTarget h = branch_in (λ p b. (b.0, b.1)) h
no_branch BackwardBranch h = branch_in (λ p b. (b.0, b.1)) h
no_branch r h = h

same_code : (code : List Placed) → IsSequence Third small_pool 0 process_parts.code code → code ≡ example.method.code
same_code code h = sequence_once Third small_pool 0 process_parts.code process_parts.code code example.method.code refl h process_sequence

no_refusal : (r : Refusal) → CodeStands Third small_pool process_parts.code r → ⊥
no_refusal r (inl (ps, front, back, e, s, n, h)) =
    run_goes_on small_pool 2 process_parts.code example.method.code r (omega arith) process_run ps 0 front back refl e s n (subst (λ k. Stands (one Third small_pool k) back r) (sym (zero-add (length front))) h)
no_refusal r (inr (code, s, h)) = no_branch r (subst (λ c. BranchStands c r) (same_code code s) h)

names_known : Any (λ p. IsFalse (is_known view p.instruction)) example.method.code → ⊥
names_known any =
    let it = any_at (λ (p : Placed). IsFalse (is_known view p.instruction)) example.method.code any in
    go it.0 it.1 it.2 it.3
  where
    go : (n : ℕ) (p : Placed) → slice_get example.method.code n ≡ Some p → IsFalse (is_known view p.instruction) → ⊥
    go zero p e h = let same : example.load_entry ≡ p = cc e in false≢true (sym (subst (λ (x : Placed). is_known view x.instruction ≡ false) (sym same) h))
    go (suc zero) p e h = let same : example.give ≡ p = cc e in false≢true (sym (subst (λ (x : Placed). is_known view x.instruction ≡ false) (sym same) h))
    go (suc (suc n)) p e h = cc e

no_instruction : (r : Refusal) → InstructionStands Third view process_parts.code r → ⊥
no_instruction UnknownMember h = names_known (subst (λ c. Any (λ p. IsFalse (is_known view p.instruction)) c) (same_code h.0 h.1) h.2)
no_instruction r h = no_refusal r h

-- `process` is the only method except the constructor.
only_process : (P : Member → Type 0) → Any (λ m. IsFalse (is_constructor small_pool m) × P m) small_parts.methods → P process_member
unfolding utf8_at
only_process P any =
    let it = any_at (λ (m : Member). IsFalse (is_constructor small_pool m) × P m) small_parts.methods any in
    go it.0 it.1 it.2 it.3
  where
    go : (n : ℕ) (m : Member) → slice_get small_parts.methods n ≡ Some m → IsFalse (is_constructor small_pool m) × P m → P process_member
    go zero m e h = let same : constructor_member ≡ m = cc e in absurd (false≢true (sym (subst (λ (x : Member). is_constructor small_pool x ≡ false) (sym same) h.0)))
    go (suc zero) m e h = let same : process_member ≡ m = cc e in subst P (sym same) h.1
    go (suc (suc n)) m e h = cc e

pub has_instructions : HasInstructions Third small_pool small_parts
has_instructions = record { none_stands = none }
  where
    none : (r : Refusal) → InstructionsStand Third small_pool small_parts r → ⊥
    none r h =
        let it = only_process (λ m. (c : CodeParts) × HasCode small_pool m c × InstructionStands Third view c.code r) h in
        let same : it.0 ≡ process_parts = code_once small_pool process_member it.0 process_parts it.1 are_good.1.0.has_code in
        no_instruction r (subst (λ (c : CodeParts). InstructionStands Third view c.code r) same it.2)

-- ---- the types

process_body : IsBody Third small_pool small_parts process_member example.method.environment example.method.code []
unfolding contents_named
process_body = record {
  parts = process_parts;
  has_code = are_good.1.0.has_code;
  signature = process_signed;
  max_stack = refl;
  max_locals = refl;
  sequence = process_sequence;
  tables_are = refl;
}

whole : LacksFrame example.method → ⊥
whole (at_target q p z e to none) = no_target p.instruction z (each_at IsStraight example.method.code (refl, (refl, tt)) q p e) to
whole (after_end q p e over some none) =
    let nothing : instruction_at example.method p.next ≡ None = each_at (λ x. falls_through x.instruction ≡ false → instruction_at example.method x.next ≡ None) example.method.code ((λ h. cc h), ((λ h. refl), tt)) q p e over in
    false≢true (sym (ap is_some nothing) ∙ some)

ready : IsReady example.method
ready = record { consecutive = (refl, omega arith, (refl, omega arith, tt)); declared = λ q d h. cc h; whole = whole }

passes : failure_of view example.method ≡ None
passes = refl

no_type : (r : Refusal) → BodyStands view example.method.environment example.method.code [] r → ⊥
no_type BadStackMap (inl none) = none [] without
no_type BadStackMap (inr (ds, d, lacks)) =
    let same = declared_once view example.method.environment example.method.code [] ds [] d without in
    whole (subst (λ xs. LacksFrame (record { environment = example.method.environment; code = example.method.code; declared = xs })) same lacks)
no_type (TypeMismatch place) (fine, (ds, d, wrong)) =
    let same = declared_once view example.method.environment example.method.code [] ds [] d without in
    let fails = (fails_at_mismatch view example.method place ready).1 (subst (λ xs. IsMismatch view (record { environment = example.method.environment; code = example.method.code; declared = xs }) place) same wrong) in
    cc (passes, fails)
no_type FallsOff (p, e, falls) = let same : example.give ≡ p = cc e in false≢true (subst (λ (x : Placed). falls_through x.instruction ≡ true) (sym same) falls)
no_type LengthNotConstant (place, p, k, at, new, h) = each_at (λ x. x.instruction ≡ instruction.NewArray k → ⊥) example.method.code ((λ e. cc e), ((λ e. cc e), tt)) place p at new
no_type r h = h

pub has_types : HasTypes Third small_pool small_parts
has_types = record { none_stands = none }
  where
    none : (r : Refusal) → TypesStand Third small_pool small_parts r → ⊥
    none r h =
        let it = only_process (λ m. (e : Environment) × (code : List Placed) × (tables : List (List ℕ)) × IsBody Third small_pool small_parts m e code tables × BodyStands view e code tables r) h in
        let one = body_once Third small_pool small_parts process_member it.0 example.method.environment it.1 example.method.code it.2 [] it.3 process_body in
        no_type r
        (subst (λ ts. BodyStands view example.method.environment example.method.code ts r) one.tables
        (subst (λ ps. BodyStands view example.method.environment ps it.2 r) one.code
        (subst (λ e. BodyStands view e it.1 it.2 r) one.environment it.4)))

-- ---- the class

constructor_body : IsBody Third small_pool small_parts constructor_member constructor_method.environment constructor_code []
unfolding contents_named
constructor_body = record {
  parts = constructor_parts;
  has_code = are_good.0.has_code;
  signature = constructor_signed;
  max_stack = refl;
  max_locals = refl;
  sequence = constructor_sequence;
  tables_are = refl;
}

is_class : IsClassOfFile Third small_pool small_parts small_class
is_class = record {
  view = refl;
  methods = (record { tables = []; body = constructor_body; declared = without }, (record { tables = []; body = process_body; declared = without }, tt));
}

pub class_is : IsClassOf Third small_bytes small_class
class_is = record { pool = small_pool; parts = small_parts; file = is_file; class = is_class }

pub process_is : IsProcessOf small_class 1
unfolding utf8_at
process_is = refl

process_is_one : (j : ℕ) → IsProcessOf small_class j → j ≡ 1
process_is_one j h = let both : Some 1 ≡ Some j = sym process_is ∙ h in cc both

constructor_lone : Each (λ p. call_of view p.instruction ≡ None) constructor_code
unfolding callee_at library_rows method_at class_at pair_at member_of utf8_at
constructor_lone = (refl, (refl, (refl, tt)))

process_lone : Each (λ p. call_of view p.instruction ≡ None) example.method.code
process_lone = (refl, (refl, tt))

no_calls : (j k : ℕ) → HasCall small_class j k → ⊥
no_calls zero k (m, q, p, known, at, call) =
    let same : constructor_method ≡ m = cc known in
    let here : at_place constructor_code q ≡ Some p = subst (λ (x : Method). instruction_at x q ≡ Some p) (sym same) at in
    cc (each_at (λ x. call_of view x.instruction ≡ None) constructor_code constructor_lone q p here, call)
no_calls (suc zero) k (m, q, p, known, at, call) =
    let same : example.method ≡ m = cc known in
    let here : at_place example.method.code q ≡ Some p = subst (λ (x : Method). instruction_at x q ≡ Some p) (sym same) at in
    cc (each_at (λ x. call_of view x.instruction ≡ None) example.method.code process_lone q p here, call)
no_calls (suc (suc j)) k (m, q, p, known, at, call) = cc known

ordered : IsOrdered small_class (λ j. 0)
ordered j k call = absurd (no_calls j k call)

not_recursive : IsRecursive small_class → ⊥
not_recursive h = ranked_is_not_recursive small_class ((λ j. 0), ordered) h

-- ---- the bounds

abbrev is_one : ℕ → Bool
is_one j = j == 1

stands : (j place : ℕ) (m : Method) (p : Placed) → is_one j ≡ true → StandsAt small_class j place m p → (example.method ≡ m) × (at_place example.method.code place ≡ Some p) × (p.place ≡ place)
stands j place m p one s =
    let number : j ≡ 1 = eqb-true j 1 one in
    let known : Some example.method ≡ Some m = subst (λ i. slice_get small_class.methods i ≡ Some m) number s.method in
    let same : example.method ≡ m = cc known in
    let at : at_place example.method.code place ≡ Some p = subst (λ (x : Method). instruction_at x place ≡ Some p) (sym same) s.instruction in
    (same, at, at_its_place example.method.code place p at)

abbrev GoesOn : Placed → Type 0
GoesOn p = falls_through p.instruction ≡ true → (p.place < p.next) × IsSome (instruction_at example.method p.next)

leads : LeadsOn small_class is_one
leads = record { next = next; target = target; callee = callee; ranks = ((λ j. 0), ordered) }
  where
    next : (j q : ℕ) (m : Method) (p : Placed) → is_one j ≡ true → StandsAt small_class j q m p → falls_through p.instruction ≡ true → (q < p.next) × IsSome (instruction_at m p.next)
    next j q m p one s falls =
        let it = stands j q m p one s in
        let on = each_at GoesOn example.method.code ((λ h. (omega arith, refl)), ((λ h. cc h), tt)) q p it.1 falls in
        (subst (λ k. k < p.next) it.2 on.0, subst (λ (x : Method). IsSome (instruction_at x p.next)) it.0 on.1)

    target : (j q : ℕ) (m : Method) (p : Placed) (z : ℤ) → is_one j ≡ true → StandsAt small_class j q m p → IsTarget p.instruction z → (r : ℕ) × (z ≡ pos r) × (q < r) × IsSome (instruction_at m r)
    target j q m p z one s to =
        let it = stands j q m p one s in
        absurd (no_target p.instruction z (each_at IsStraight example.method.code (refl, (refl, tt)) q p it.1) to)

    callee : (j q k : ℕ) (m : Method) (p : Placed) → is_one j ≡ true → StandsAt small_class j q m p → call_of view p.instruction ≡ Some k → (is_one k ≡ true) × ((n : Method) × (slice_get small_class.methods k ≡ Some n) × IsSome (instruction_at n 0))
    callee j q k m p one s call =
        let it = stands j q m p one s in
        cc (each_at (λ x. call_of view x.instruction ≡ None) example.method.code process_lone q p it.1, call)

-- The costs of the paths from the load and from the return.
abbrev costs : Costs
costs j place = cond (place == 0) (after_one 0 (last_cost example.method)) (last_cost example.method)

is_table : IsTable small_class is_one costs
is_table j place m p one s =
    let it = stands j place m p one s in
    let here : costs j p.place ≡ cost_by small_class costs example.method j p.place p p.instruction = each_at (λ x. costs j x.place ≡ cost_by small_class costs example.method j x.place x x.instruction) example.method.code (refl, (refl, tt)) place p it.1 in
    subst (λ (x : Method). costs j place ≡ cost_by small_class costs x j place p p.instruction) it.0 (subst (λ n. costs j n ≡ cost_by small_class costs example.method j n p p.instruction) it.2 here)

pub are_bounds : AreBounds small_class 1 example.limits
are_bounds = tables_are_bounds small_class is_one costs 1 example.method leads is_table refl refl refl

-- ---- the verdict

few : (measure : Cost → ℕ) (limit : ℕ) → ((k : Cost) → IsWithin k example.limits → measure k ≤ limit) → (j : ℕ) → IsProcessOf small_class j → SomePathExceeds small_class j measure limit → ⊥
few measure limit most j is (k, path, more) =
    let within = are_bounds.none_exceeds k (subst (λ i. Path small_class i 0 k) (process_is_one j is) path) in
    omega (arith, most k within, more)

within_limits : (j : ℕ) (r : Refusal) → IsProcessOf small_class j → BoundStands Third small_class j r → ⊥
within_limits j StepLimit is h = few (λ k. k.steps) (step_limit Third) (λ k w. omega (arith, w.steps)) j is h
within_limits j WordLimit is h = few (λ k. k.words) word_limit (λ k w. omega (arith, w.words)) j is h
within_limits j FrameLimit is (inl h) = few (λ k. k.slots) slot_limit (λ k w. omega (arith, w.slots)) j is h
within_limits j FrameLimit is (inr h) = few (λ k. k.depth) depth_limit (λ k w. omega (arith, w.depth)) j is h
within_limits j r is h = h

no_class : (r : Refusal) → ClassStands Third small_class r → ⊥
no_class Recursive h = not_recursive h
no_class r (calm, (j, is, h)) = within_limits j r is h

pub is_accepted : IsAccepted Third small_bytes
is_accepted r (by_layout s) = is_file.none_stands r s
is_accepted r (by_shape pool p file s) = has_shape.none_stands r (subst (λ (x : List Slot × Parts). ShapeStands x.0 x.1 r) (same_file pool p file) s)
is_accepted r (by_instructions pool p file a s) = has_instructions.none_stands r (subst (λ (x : List Slot × Parts). InstructionsStand Third x.0 x.1 r) (same_file pool p file) s)
is_accepted r (by_types pool p file a b s) = has_types.none_stands r (subst (λ (x : List Slot × Parts). TypesStand Third x.0 x.1 r) (same_file pool p file) s)
is_accepted r (by_class pool p c file a b d of s) =
    let class : IsClassOfFile Third small_pool small_parts c = subst (λ (x : List Slot × Parts). IsClassOfFile Third x.0 x.1 c) (same_file pool p file) of in
    no_class r (subst (λ x. ClassStands Third x r) (class_once Third small_pool small_parts c small_class class is_class) s)
is_accepted r (by_names pool p file _ s) = none_beyond pool p r s
