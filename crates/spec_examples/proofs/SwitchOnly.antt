-- The first profile refuses the small class with a switch by nothing else than the switch.
use Rattle.std.proofs.Common.{◌≡◌, ℕ, zero, suc, ◌+◌, false, List, [], ◌∷◌, ◌++◌, length, Some, Ok, refl, sym, ap, ◌∙◌, subst, inl, inr}
use Rattle.std.proofs.lemmas.Bool.{false≢true}
use Rattle.std.proofs.lemmas.List.{append_assoc}
use Rattle.std.specs.Prelude.{slice_get, IsFalse, pos}
use Rattle.jtypes.specs.Profile.{First}
use Rattle.jtypes.specs.declared.refusal.Refusal.{Refusal}
use Rattle.jtypes.specs.declared.refusal.Refusal.TheVariants.{OutsideProfile, BadDescriptor, UnknownMember, BadStackMap}
use Rattle.jtypes.specs.declared.operations.Pushed.TheVariants as pushed
use Rattle.jtypes.specs.Layout.{first, operand, IsLaidOut, Stands}
use Rattle.jtypes.proofs.Laws.{whole_found, first_stands, laid_out_once}
use Rattle.constpool.specs.Lookup.{Slot, utf8_at}
use Rattle.classfile.specs.Class.{class_file}
use Rattle.classfile.specs.declared.class_file.Member.{Member}
use Rattle.classfile.specs.declared.class_file.Parts.{Parts}
use Rattle.classfile.specs.declared.class_file.CodeParts.{CodeParts}
use Rattle.classfile.specs.View.{ClassView, view_of}
use Rattle.decode.specs.declared.instruction.Instruction.{Instruction}
use Rattle.decode.specs.declared.instruction.Instruction.TheVariants as instruction
use Rattle.decode.specs.declared.instruction.Placed.{Placed}
use Rattle.decode.specs.Code.{IsSequence, one, by_form, operands}
use Rattle.decode.specs.Table.{form_at}
use Rattle.decode.specs.Places.{CodeStands}
use Rattle.verdict.specs.Shape.{ShapeStands, HasCode, is_constructor}
use Rattle.verdict.specs.Verdict.{IsClassFile, InstructionStands, InstructionsStand, HasInstructions, SomeMethod, UsesUnknown, NamesBeyond, HasLevelsBefore, IsRefused, by_layout, by_shape, by_instructions, by_types, by_class, by_names}
use Rattle.verdict.proofs.Methods.{any_at}
use Rattle.soundness.specs.Accepted.{small_pool, constructor_member}
use Rattle.soundness.proofs.OneClass.{code_once}
use Rattle.spec_examples.specs.SmallSwitch.{switch_bytes, switch_code, switch_member, switch_parts}
use Rattle.spec_examples.proofs.SwitchShape.{is_file, has_shape, process_parts, are_good, constructor_signed, process_signed}
use Rattle.spec_examples.proofs.FirstRefuses.{switch_applies}
use Rattle.spec_examples.proofs.HiddenRefused.{Unsigned, signed_known}

abbrev view : ClassView
view = view_of small_pool switch_parts

-- ---- the code

-- The operands of the switch, and the bytes after it.
abbrev after : List ℕ
after = 0 ∷ 0 ∷ 0 ∷ 0 ∷ 0 ∷ 19 ∷ 0 ∷ 0 ∷ 0 ∷ 0 ∷ 0 ∷ 0 ∷ 0 ∷ 0 ∷ 0 ∷ 0 ∷ 0 ∷ 19 ∷ 0x01 ∷ 0xB0 ∷ []

abbrev push : Instruction
push = instruction.Push (pushed.Int (pos 0))

iconst_0 : first (one First small_pool 0) switch_code ≡ Ok (push, 0xAA ∷ after)
unfolding one by_form operands form_at operand
iconst_0 = refl

iconst_0_alone : first (one First small_pool 0) (0x03 ∷ []) ≡ Ok (push, [])
unfolding one by_form operands form_at operand
iconst_0_alone = refl

opcode_alone : first (operand 1) (0xAA ∷ []) ≡ Ok (0xAA, [])
unfolding operand
opcode_alone = refl

opcode : first (operand 1) (0xAA ∷ after) ≡ Ok (0xAA, after)
unfolding operand
opcode = refl

-- No instruction of the first profile begins with the opcode of the switch.
no_switch : (at : ℕ) (f b rest : List ℕ) (i : Instruction) → f ++ b ≡ 0xAA ∷ rest → IsLaidOut (one First small_pool at) f i → ⊥
unfolding one by_form form_at
no_switch at f b rest i e (o, g, d, split, h, k) =
    let whole : g ++ (d ++ b) ≡ 0xAA ∷ rest = sym (append_assoc g d b) ∙ ap (λ (t : List ℕ). t ++ b) (sym split) ∙ e in
    let way = laid_out_once (operand 1) g (d ++ b) (0xAA ∷ []) rest o 0xAA h (whole_found (operand 1) (0xAA ∷ []) 0xAA opcode_alone) whole in
    subst (λ (x : ℕ). IsLaidOut (by_form small_pool at x (form_at First x)) d i) way.2 k

no_sequence_at : (at : ℕ) (rest : List ℕ) (ps : List Placed) → IsSequence First small_pool at (0xAA ∷ rest) ps → ⊥
no_sequence_at at rest [] e = cc e
no_sequence_at at rest (p ∷ ps) (place, f, b, e, next, h, more) = no_switch at f b rest p.instruction (sym e) h

no_sequence : (rest : List ℕ) (ps : List Placed) → IsSequence First small_pool 0 (0x03 ∷ 0xAA ∷ rest) ps → ⊥
no_sequence rest [] e = cc e
no_sequence rest (p ∷ ps) (place, f, b, e, next, h, more) =
    let way = laid_out_once (one First small_pool 0) f b (0x03 ∷ []) (0xAA ∷ rest) p.instruction push h (whole_found (one First small_pool 0) (0x03 ∷ []) push iconst_0_alone) (sym e) in
    no_sequence_at (0 + length f) rest ps (subst (λ (t : List ℕ). IsSequence First small_pool (0 + length f) t ps) way.1 more)

at_switch : (at : ℕ) (r : Refusal) → Stands (one First small_pool at) (0xAA ∷ after) r → r ≡ OutsideProfile 0xAA
unfolding one by_form form_at
at_switch at r (inl s) = absurd (first_stands (operand 1) (0xAA ∷ after) 0xAA after r opcode s)
at_switch at r (inr (o, f, b, e, h, k)) =
    let way = laid_out_once (operand 1) f b (0xAA ∷ []) after o 0xAA h (whole_found (operand 1) (0xAA ∷ []) 0xAA opcode_alone) (sym e) in
    subst (λ (x : ℕ). Stands (by_form small_pool at x (form_at First x)) b r) way.2 k

stops : (ps : List Placed) (front back : List ℕ) → switch_code ≡ front ++ back → IsSequence First small_pool 0 front ps → (r : Refusal) → Stands (one First small_pool (length front)) back r → r ≡ OutsideProfile 0xAA
stops ps [] back e s r k = absurd (first_stands (one First small_pool 0) switch_code push (0xAA ∷ after) r iconst_0 (subst (λ (t : List ℕ). Stands (one First small_pool 0) t r) (sym e) k))
stops ps (x ∷ []) back e s r k =
    let rest : 0xAA ∷ after ≡ back = cc e in
    at_switch 1 r (subst (λ (t : List ℕ). Stands (one First small_pool 1) t r) (sym rest) k)
stops ps (x ∷ y ∷ zs) back e s r k =
    let one_is : 0x03 ≡ x = cc e in
    let two_is : 0xAA ≡ y = cc e in
    absurd (no_sequence zs ps (subst (λ (u : ℕ). IsSequence First small_pool 0 (u ∷ 0xAA ∷ zs) ps) (sym one_is) (subst (λ (v : ℕ). IsSequence First small_pool 0 (x ∷ v ∷ zs) ps) (sym two_is) s)))

code_only : (r : Refusal) → CodeStands First small_pool switch_code r → r ≡ OutsideProfile 0xAA
code_only r (inl (ps, front, back, e, s, n, k)) = stops ps front back e s r k
code_only r (inr (ps, s, bad)) = absurd (no_sequence after ps s)

instruction_only : (r : Refusal) → InstructionStands First view switch_code r → r ≡ OutsideProfile 0xAA
instruction_only UnknownMember (ps, s, unknown) = absurd (no_sequence after ps s)
instruction_only r h = code_only r h

-- ---- the verdict

same_file : (pool : List Slot) (p : Parts) → IsClassFile switch_bytes pool p → (let x : List Slot × Parts = (pool, p) in x ≡ (small_pool, switch_parts))
same_file pool p file = (laid_out_once (class_file (length switch_bytes)) switch_bytes [] switch_bytes [] (pool, p) (small_pool, switch_parts) file.laid_out is_file.laid_out refl).2

-- `process` is the only method that isn't the constructor.
only_process : (P : Member → Type 0) → SomeMethod small_pool switch_parts P → P switch_member
unfolding utf8_at
only_process P any =
    let it = any_at (λ m. IsFalse (is_constructor small_pool m) × P m) switch_parts.methods any in
    go it.0 it.1 it.2 it.3
  where
    go : (n : ℕ) (m : Member) → slice_get switch_parts.methods n ≡ Some m → IsFalse (is_constructor small_pool m) × P m → P switch_member
    go zero m e h = let same : constructor_member ≡ m = cc e in absurd (false≢true (sym (subst (λ (x : Member). is_constructor small_pool x ≡ false) (sym same) h.0)))
    go (suc zero) m e h = let same : switch_member ≡ m = cc e in subst P (sym same) h.1
    go (suc (suc n)) m e h = cc e

same_code : (c : CodeParts) → HasCode small_pool switch_member c → c ≡ process_parts
same_code c has = code_once small_pool switch_member c process_parts has are_good.1.0.has_code

instructions_only : (r : Refusal) → InstructionsStand First small_pool switch_parts r → r ≡ OutsideProfile 0xAA
instructions_only r any =
    let h = only_process (λ m. (c : CodeParts) × HasCode small_pool m c × InstructionStands First view c.code r) any in
    instruction_only r (subst (λ (c : CodeParts). InstructionStands First view c.code r) (same_code h.0 h.1) h.2)

no_instructions : (pool : List Slot) (p : Parts) → IsClassFile switch_bytes pool p → HasInstructions First pool p → ⊥
no_instructions pool p file has = has.none_stands (OutsideProfile 0xAA) (subst (λ (x : List Slot × Parts). InstructionsStand First x.0 x.1 (OutsideProfile 0xAA)) (sym (same_file pool p file)) switch_applies)

uses_none : UsesUnknown First small_pool switch_parts switch_member → ⊥
uses_none (c, code, has, s, unknown) = no_sequence after code (subst (λ (x : CodeParts). IsSequence First small_pool 0 x.code code) (same_code c has) s)

descriptors_known : NamesBeyond First small_pool switch_parts BadDescriptor → ⊥
descriptors_known any =
    let it = any_at (Unsigned First small_pool switch_parts) switch_parts.methods any in
    go it.0 it.1 it.2 it.3
  where
    go : (n : ℕ) (m : Member) → slice_get switch_parts.methods n ≡ Some m → Unsigned First small_pool switch_parts m → ⊥
    go zero m e h = let same : constructor_member ≡ m = cc e in signed_known First small_pool switch_parts constructor_member _ constructor_signed refl (subst (Unsigned First small_pool switch_parts) (sym same) h)
    go (suc zero) m e h = let same : switch_member ≡ m = cc e in signed_known First small_pool switch_parts switch_member _ process_signed refl (subst (Unsigned First small_pool switch_parts) (sym same) h)
    go (suc (suc n)) m e h = cc e

none_beyond : (pool : List Slot) (p : Parts) → IsClassFile switch_bytes pool p → (r : Refusal) → HasLevelsBefore First pool p r → NamesBeyond First pool p r → ⊥
none_beyond pool p file BadDescriptor before s = descriptors_known (subst (λ (x : List Slot × Parts). NamesBeyond First x.0 x.1 BadDescriptor) (same_file pool p file) s)
none_beyond pool p file UnknownMember before s =
    uses_none (only_process (UsesUnknown First small_pool switch_parts) (subst (λ (x : List Slot × Parts). NamesBeyond First x.0 x.1 UnknownMember) (same_file pool p file) s))
none_beyond pool p file BadStackMap before s = no_instructions pool p file before.1
none_beyond pool p file r before s = s

pub switch_only : (r : Refusal) → IsRefused First switch_bytes r → r ≡ OutsideProfile 0xAA
switch_only r (by_layout s) = absurd (is_file.none_stands r s)
switch_only r (by_shape pool p file s) = absurd (has_shape.none_stands r (subst (λ (x : List Slot × Parts). ShapeStands x.0 x.1 r) (same_file pool p file) s))
switch_only r (by_instructions pool p file a s) = instructions_only r (subst (λ (x : List Slot × Parts). InstructionsStand First x.0 x.1 r) (same_file pool p file) s)
switch_only r (by_types pool p file a b s) = absurd (no_instructions pool p file b)
switch_only r (by_class pool p c file a b d of s) = absurd (no_instructions pool p file b)
switch_only r (by_names pool p file before s) = absurd (none_beyond pool p file r before s)
