-- The instructions and the types of the chain class have no refusals in either profile.
use Rattle.std.proofs.Common.{◌≡◌, ℕ, zero, suc, ◌+◌, ◌-◌, ◌<◌, true, false, List, [], ◌∷◌, ◌++◌, length, Some, None, Ok, refl, sym, ap, ◌∙◌, subst, append_assoc, zero-add, arith, inl, inr}
use Rattle.std.specs.Prelude.{slice_get, Any, IsFalse, is_some}
use Rattle.std.proofs.lemmas.Bool.{false≢true}
use Rattle.std.proofs.lemmas.List.{length-append}
use Rattle.jtypes.specs.declared.refusal.Refusal.{Refusal}
use Rattle.jtypes.specs.declared.refusal.Refusal.TheVariants.{UnknownMember, BadStackMap, TypeMismatch, FallsOff, LengthNotConstant, BadTarget, BackwardBranch}
use Rattle.jtypes.specs.declared.operations.ArrayKind.{ArrayKind}
use Rattle.jtypes.specs.declared.operations.Invoke.TheVariants as invoke
use Rattle.jtypes.specs.declared.operations.Kind.TheVariants as kind
use Rattle.jtypes.specs.declared.operations.Pushed.TheVariants as pushed
use Rattle.jtypes.specs.Profile.{Profile, First, Second, Third}
use Rattle.jtypes.specs.Layout.{first, operand, Stands}
use Rattle.jtypes.proofs.Laws.{first_found, first_stands, laid_out_once}
use Rattle.constpool.specs.Descriptor.{sig_of, read_params, read_type}
use Rattle.constpool.specs.Lookup.{utf8_at, class_at, pair_at, member_of, method_at}
use Rattle.classfile.specs.declared.class_file.Member.{Member}
use Rattle.classfile.specs.declared.class_file.CodeParts.{CodeParts}
use Rattle.decode.specs.declared.instruction.Instruction.TheVariants as instruction
use Rattle.decode.specs.declared.instruction.Placed.{Placed}
use Rattle.decode.specs.Code.{IsSequence, one, by_form, operands}
use Rattle.decode.specs.Places.{falls_through, BranchStands, CodeStands, HasBadTarget, HasBackwardTarget}
use Rattle.decode.specs.Table.{form_at}
use Rattle.decode.proofs.Profiles.{goes_on}
use Rattle.decode.proofs.Runs.{sequence_once}
use Rattle.decode.proofs.Targets.{no_target}
use Rattle.frames.specs.Members.{library_rows, callee_at}
use Rattle.frames.specs.Signatures.{class_type, field_type, field_types, result_type, signature_of, method_signature}
use Rattle.frames.specs.declared.frame.Environment.{Environment}
use Rattle.frames.specs.StackMap.{without}
use Rattle.frames.proofs.Declares.{declared_once}
use Rattle.jtypes.specs.Lists.{last}
use Rattle.typecheck.specs.Typing.{Method, instruction_at}
use Rattle.typecheck.specs.Mismatch.{LacksFrame, at_target, after_end, IsMismatch}
use Rattle.typecheck.specs.Pass.{failure_of, IsReady}
use Rattle.typecheck.proofs.Passes.{fails_at_mismatch}
use Rattle.verdict.specs.Shape.{is_constructor, HasCode}
use Rattle.verdict.specs.Verdict.{is_known, InstructionStands, InstructionsStand, HasInstructions, IsBody, BodyStands, TypesStand, HasTypes}
use Rattle.verdict.proofs.Methods.{any_at}
use Rattle.soundness.specs.Accepted.{constructor_member}
use Rattle.soundness.proofs.OneClass.{code_once, body_once}
use Rattle.soundness.proofs.StraightCode.{Each, each_at, IsStraight}
use Rattle.spec_examples.specs.Plain.{placed}
use Rattle.spec_examples.specs.Chain as chains
use Rattle.spec_examples.specs.Chain.{chain, chain_pool, chain_parts, process, process_code, process_member, link, link_code, end, members_from, reference_of}
use Rattle.spec_examples.proofs.Chain.{Below, below_at}
use Rattle.spec_examples.proofs.ChainFile.{process_body, link_body, end_body, returns, areturn}
use Rattle.spec_examples.proofs.ChainShape.{parts_with, good_process, good_link, good_end}

-- ---- a method without refusals

-- The bytes are decoded as these instructions, from pc `at` on.
abbrev ReadsAll : Profile → ℕ → List ℕ → List Placed → Type 0
ReadsAll profile at bytes [] = bytes ≡ []
ReadsAll profile at bytes (p ∷ ps) = (rest : List ℕ) × (first (one profile chain_pool at) bytes ≡ Ok (p.instruction, rest)) × ReadsAll profile (at + (length bytes - length rest)) rest ps

abbrev method_with : Environment → List Placed → Method
method_with e code = record { environment = e; code = code; declared = [] }

record IsFine (profile : Profile) (m : Member) : Type 0 where
  parts : CodeParts
  environment : Environment
  code : List Placed
  has_code : HasCode chain_pool m parts
  body : IsBody profile chain_pool chain_parts m environment code []
  reads : ReadsAll profile 0 parts.code code
  straight : Each IsStraight code
  known : Each (λ p. is_known chain.view p.instruction ≡ true) code
  ready : IsReady (method_with environment code)
  passes : failure_of chain.view (method_with environment code) ≡ None
  ends : (p : Placed) → last code ≡ Some p → falls_through p.instruction ≡ true → ⊥
  no_array : (k : ArrayKind) → Each (λ p. p.instruction ≡ instruction.NewArray k → ⊥) code

each_nth : (P : Placed → Type 0) (code : List Placed) → Each P code → (n : ℕ) (p : Placed) → slice_get code n ≡ Some p → P p
each_nth P [] h n p e = cc e
each_nth P (x ∷ code) h zero p e = let same : x ≡ p = cc e in subst P same h.0
each_nth P (x ∷ code) h (suc n) p e = each_nth P code h.1 n p e

-- No instruction of these bytes is refused.
no_stop : (profile : Profile) (r : Refusal) (ps : List Placed) (at : ℕ) (bytes : List ℕ) → ReadsAll profile at bytes ps → (qs : List Placed) (front back : List ℕ) → bytes ≡ front ++ back
    → IsSequence profile chain_pool at front qs → 0 < length back → Stands (one profile chain_pool (at + length front)) back r → ⊥
no_stop profile r [] at bytes e qs front back a s n h = absurd (omega (arith, n, ap length e, ap length a, length-append front back))
no_stop profile r (p ∷ ps) at bytes (rest, h, run) [] front back a s n k =
    let whole : back ≡ bytes = sym (a ∙ ap (λ (t : List ℕ). t ++ back) s) in
    let z : at + length front ≡ at = omega (arith, ap length s) in
    let here = subst (λ (y : ℕ). Stands (one profile chain_pool y) back r) z k in
    first_stands (one profile chain_pool at) bytes p.instruction rest r h (subst (λ (t : List ℕ). Stands (one profile chain_pool at) t r) whole here)
no_stop profile r (p ∷ ps) at bytes (rest, h, run) (q ∷ qs) front back a (pl, f, g, x, nx, lo, s) n k =
    let y = first_found (one profile chain_pool at) bytes p.instruction rest h in
    let both : f ++ (g ++ back) ≡ y.0 ++ rest = sym (append_assoc f g back) ∙ sym (ap (λ (t : List ℕ). t ++ back) x) ∙ sym a ∙ y.1 in
    let one_way = laid_out_once (one profile chain_pool at) f (g ++ back) y.0 rest q.instruction p.instruction lo y.2 both in
    let l : length bytes ≡ length y.0 + length rest = ap length y.1 ∙ length-append y.0 rest in
    let lf : length f ≡ length y.0 = ap length one_way.0 in
    let lx : length front ≡ length f + length g = ap length x ∙ length-append f g in
    let here : at + (length bytes - length rest) ≡ at + length f = omega (arith, l, lf) in
    let there : at + length front ≡ (at + length f) + length g = omega (arith, lx) in
    no_stop profile r ps (at + length f) rest (subst (λ (z : ℕ). ReadsAll profile z rest ps) here run) qs g back (sym one_way.1) s n (subst (λ (z : ℕ). Stands (one profile chain_pool z) back r) there k)

third_sequence : (profile : Profile) (text : List ℕ) (ps : List Placed) → IsSequence profile chain_pool 0 text ps → IsSequence Third chain_pool 0 text ps
third_sequence First text ps s = goes_on Second Third tt chain_pool 0 text ps (goes_on First Second tt chain_pool 0 text ps s)
third_sequence Second text ps s = goes_on Second Third tt chain_pool 0 text ps s
third_sequence Third text ps s = s

third_body : (profile : Profile) (m : Member) (e : Environment) (code : List Placed) (tables : List (List ℕ)) → IsBody profile chain_pool chain_parts m e code tables → IsBody Third chain_pool chain_parts m e code tables
third_body profile m e code tables b = record {
  parts = b.parts;
  has_code = b.has_code;
  signature = b.signature;
  max_stack = b.max_stack;
  max_locals = b.max_locals;
  sequence = third_sequence profile b.parts.code code b.sequence;
  tables_are = b.tables_are;
}

no_branch : (code : List Placed) → Each IsStraight code → (r : Refusal) → BranchStands code r → ⊥
no_branch code s BadTarget h =
    let it = any_at (HasBadTarget code) code h in
    no_target it.1.instruction it.3.0 (each_nth IsStraight code s it.0 it.1 it.2) it.3.1
no_branch code s BackwardBranch h =
    let it = any_at HasBackwardTarget code h in
    no_target it.1.instruction it.3.0 (each_nth IsStraight code s it.0 it.1 it.2) it.3.1
no_branch code s r h = h

whole : (m : Method) → Each IsStraight m.code → Each (λ p. falls_through p.instruction ≡ false → instruction_at m p.next ≡ None) m.code → LacksFrame m → ⊥
whole m s over (at_target q p z e to none) = no_target p.instruction z (each_at IsStraight m.code s q p e) to
whole m s over (after_end q p e ends some none) =
    let nothing : instruction_at m p.next ≡ None = each_at (λ x. falls_through x.instruction ≡ false → instruction_at m x.next ≡ None) m.code over q p e ends in
    false≢true (sym (ap is_some nothing) ∙ some)

module _ (profile : Profile) (m : Member) (f : IsFine profile m) where
  same_code : (code : List Placed) → IsSequence profile chain_pool 0 f.parts.code code → code ≡ f.code
  same_code code s = sequence_once Third chain_pool 0 f.parts.code f.parts.code code f.code refl (third_sequence profile f.parts.code code s) (third_sequence profile f.parts.code f.code sequence)
    where
      sequence : IsSequence profile chain_pool 0 f.parts.code f.code
      sequence = subst (λ (c : CodeParts). IsSequence profile chain_pool 0 c.code f.code) (code_once chain_pool m f.body.parts f.parts f.body.has_code f.has_code) f.body.sequence

  no_refusal : (r : Refusal) → CodeStands profile chain_pool f.parts.code r → ⊥
  no_refusal r (inl (ps, front, back, e, s, n, h)) =
      no_stop profile r f.code 0 f.parts.code f.reads ps front back e s n (subst (λ (k : ℕ). Stands (one profile chain_pool k) back r) (sym (zero-add (length front))) h)
  no_refusal r (inr (code, s, h)) = no_branch f.code f.straight r (subst (λ (c : List Placed). BranchStands c r) (same_code code s) h)

  names_known : Any (λ p. IsFalse (is_known chain.view p.instruction)) f.code → ⊥
  names_known any =
      let it = any_at (λ (p : Placed). IsFalse (is_known chain.view p.instruction)) f.code any in
      false≢true (sym it.3 ∙ each_nth (λ p. is_known chain.view p.instruction ≡ true) f.code f.known it.0 it.1 it.2)

  no_instruction : (r : Refusal) → InstructionStands profile chain.view f.parts.code r → ⊥
  no_instruction UnknownMember h = names_known (subst (λ (c : List Placed). Any (λ p. IsFalse (is_known chain.view p.instruction)) c) (same_code h.0 h.1) h.2)
  no_instruction r h = no_refusal r h

  abbrev fine : Method
  fine = method_with f.environment f.code

  no_type : (r : Refusal) → BodyStands chain.view f.environment f.code [] r → ⊥
  no_type BadStackMap (inl none) = none [] without
  no_type BadStackMap (inr (ds, d, lacks)) =
      let same = declared_once chain.view f.environment f.code [] ds [] d without in
      f.ready.whole (subst (λ xs. LacksFrame (record { environment = f.environment; code = f.code; declared = xs })) same lacks)
  no_type (TypeMismatch place) (well, (ds, d, wrong)) =
      let same = declared_once chain.view f.environment f.code [] ds [] d without in
      let fails = (fails_at_mismatch chain.view fine place f.ready).1 (subst (λ xs. IsMismatch chain.view (record { environment = f.environment; code = f.code; declared = xs }) place) same wrong) in
      cc (f.passes, fails)
  no_type FallsOff (p, e, falls) = f.ends p e falls
  no_type LengthNotConstant (place, p, k, at, new, h) = each_at (λ x. x.instruction ≡ instruction.NewArray k → ⊥) f.code (f.no_array k) place p at new
  no_type r h = h

-- ---- the methods

abbrev ReadsLink : Profile → ℕ → Type 0
ReadsLink profile k =
    (at : ℕ)
    → (first (one profile chain_pool at) (link_code k) ≡ Ok (instruction.Invoke invoke.Static (reference_of (suc k)), 0xB8 ∷ 0 ∷ reference_of (suc k) ∷ 0xB1 ∷ []))
    × (first (one profile chain_pool at) (0xB8 ∷ 0 ∷ reference_of (suc k) ∷ 0xB1 ∷ []) ≡ Ok (instruction.Invoke invoke.Static (reference_of (suc k)), 0xB1 ∷ []))

first_links : Below (ReadsLink First) 18
unfolding one by_form operands form_at operand method_at class_at pair_at member_of utf8_at
first_links = ((((((((((((((((((tt, λ at. (refl, refl)), λ at. (refl, refl)), λ at. (refl, refl)), λ at. (refl, refl)), λ at. (refl, refl)), λ at. (refl, refl)), λ at. (refl, refl)), λ at. (refl, refl)), λ at. (refl, refl)), λ at. (refl, refl)), λ at. (refl, refl)), λ at. (refl, refl)), λ at. (refl, refl)), λ at. (refl, refl)), λ at. (refl, refl)), λ at. (refl, refl)), λ at. (refl, refl)), λ at. (refl, refl))

second_links : Below (ReadsLink Second) 18
unfolding one by_form operands form_at operand method_at class_at pair_at member_of utf8_at
second_links = ((((((((((((((((((tt, λ at. (refl, refl)), λ at. (refl, refl)), λ at. (refl, refl)), λ at. (refl, refl)), λ at. (refl, refl)), λ at. (refl, refl)), λ at. (refl, refl)), λ at. (refl, refl)), λ at. (refl, refl)), λ at. (refl, refl)), λ at. (refl, refl)), λ at. (refl, refl)), λ at. (refl, refl)), λ at. (refl, refl)), λ at. (refl, refl)), λ at. (refl, refl)), λ at. (refl, refl)), λ at. (refl, refl))

third_links : Below (ReadsLink Third) 18
unfolding one by_form operands form_at operand method_at class_at pair_at member_of utf8_at
third_links = ((((((((((((((((((tt, λ at. (refl, refl)), λ at. (refl, refl)), λ at. (refl, refl)), λ at. (refl, refl)), λ at. (refl, refl)), λ at. (refl, refl)), λ at. (refl, refl)), λ at. (refl, refl)), λ at. (refl, refl)), λ at. (refl, refl)), λ at. (refl, refl)), λ at. (refl, refl)), λ at. (refl, refl)), λ at. (refl, refl)), λ at. (refl, refl)), λ at. (refl, refl)), λ at. (refl, refl)), λ at. (refl, refl))

reads_link : (profile : Profile) (k : ℕ) → k < 18 → ReadsLink profile k
reads_link First k l = below_at (ReadsLink First) 18 k first_links l
reads_link Second k l = below_at (ReadsLink Second) 18 k second_links l
reads_link Third k l = below_at (ReadsLink Third) 18 k third_links l

reads_process : (profile : Profile) → first (one profile chain_pool 0) process_code ≡ Ok (instruction.Invoke invoke.Static (reference_of 0), 0x01 ∷ 0xB0 ∷ [])
unfolding one by_form operands form_at operand method_at class_at pair_at member_of utf8_at
reads_process First = refl
reads_process Second = refl
reads_process Third = refl

reads_null : (profile : Profile) → first (one profile chain_pool 3) (0x01 ∷ 0xB0 ∷ []) ≡ Ok (instruction.Push pushed.Null, 0xB0 ∷ [])
unfolding one by_form operands form_at operand
reads_null First = refl
reads_null Second = refl
reads_null Third = refl

abbrev Knows : ℕ → Type 0
Knows k = is_known chain.view (instruction.Invoke invoke.Static (reference_of k)) ≡ true

all_known : Below Knows 19
unfolding callee_at library_rows method_at class_at pair_at member_of utf8_at sig_of read_params read_type class_type field_type field_types result_type signature_of method_signature
all_known = (((((((((((((((((((tt, refl), refl), refl), refl), refl), refl), refl), refl), refl), refl), refl), refl), refl), refl), refl), refl), refl), refl), refl)

knows : (k : ℕ) → k < 19 → Knows k
knows k l = below_at Knows 19 k all_known l

abbrev Passes : ℕ → Type 0
Passes k = failure_of chain.view (link k) ≡ None

all_pass : Below Passes 18
unfolding callee_at library_rows method_at class_at pair_at member_of utf8_at sig_of read_params read_type class_type field_type field_types result_type signature_of method_signature
all_pass = ((((((((((((((((((tt, refl), refl), refl), refl), refl), refl), refl), refl), refl), refl), refl), refl), refl), refl), refl), refl), refl), refl)

process_passes : failure_of chain.view process ≡ None
unfolding callee_at library_rows method_at class_at pair_at member_of utf8_at sig_of read_params read_type class_type field_type field_types result_type signature_of method_signature
process_passes = refl

fine_process : (profile : Profile) → IsFine profile process_member
fine_process profile = record {
  parts = parts_with 1 3 process_code;
  environment = process.environment;
  code = process.code;
  has_code = good_process.has_code;
  body = process_body profile;
  reads = (0x01 ∷ 0xB0 ∷ [], reads_process profile, (0xB0 ∷ [], reads_null profile, ([], areturn profile 4, refl)));
  straight = (refl, (refl, (refl, tt)));
  known = (knows 0 (omega arith), (refl, (refl, tt)));
  ready = record {
    consecutive = (refl, omega arith, (refl, omega arith, (refl, omega arith, tt)));
    declared = λ q d h. cc h;
    whole = whole process (refl, (refl, (refl, tt))) ((λ h. cc h), ((λ h. cc h), ((λ h. refl), tt)));
  };
  passes = process_passes;
  ends = λ p e h. let same : placed 4 5 (instruction.Return kind.Reference) ≡ p = cc e in false≢true (subst (λ (x : Placed). falls_through x.instruction ≡ true) (sym same) h);
  no_array = λ k. ((λ e. cc e), ((λ e. cc e), ((λ e. cc e), tt)));
}

fine_link : (profile : Profile) (k : ℕ) → k < 18 → IsFine profile (chains.member_of k (link_code k))
fine_link profile k l = record {
  parts = parts_with 0 0 (link_code k);
  environment = (link k).environment;
  code = (link k).code;
  has_code = (good_link k).has_code;
  body = link_body profile k l;
  reads = (0xB8 ∷ 0 ∷ reference_of (suc k) ∷ 0xB1 ∷ [], (reads_link profile k l 0).0, (0xB1 ∷ [], (reads_link profile k l 3).1, ([], returns profile 6, refl)));
  straight = (refl, (refl, (refl, tt)));
  known = (knows (suc k) (omega (arith, l)), (knows (suc k) (omega (arith, l)), (refl, tt)));
  ready = record {
    consecutive = (refl, omega arith, (refl, omega arith, (refl, omega arith, tt)));
    declared = λ q d h. cc h;
    whole = whole (link k) (refl, (refl, (refl, tt))) ((λ h. cc h), ((λ h. cc h), ((λ h. refl), tt)));
  };
  passes = below_at Passes 18 k all_pass l;
  ends = λ p e h. let same : placed 6 7 instruction.ReturnVoid ≡ p = cc e in false≢true (subst (λ (x : Placed). falls_through x.instruction ≡ true) (sym same) h);
  no_array = λ i. ((λ e. cc e), ((λ e. cc e), ((λ e. cc e), tt)));
}

fine_end : (profile : Profile) (k : ℕ) → IsFine profile (chains.member_of k (0xB1 ∷ []))
fine_end profile k = record {
  parts = parts_with 0 0 (0xB1 ∷ []);
  environment = end.environment;
  code = end.code;
  has_code = (good_end k).has_code;
  body = end_body profile k;
  reads = ([], returns profile 0, refl);
  straight = (refl, tt);
  known = (refl, tt);
  ready = record { consecutive = (refl, omega arith, tt); declared = λ q d h. cc h; whole = whole end (refl, tt) ((λ h. refl), tt) };
  passes = refl;
  ends = λ p e h. let same : placed 0 1 instruction.ReturnVoid ≡ p = cc e in false≢true (subst (λ (x : Placed). falls_through x.instruction ≡ true) (sym same) h);
  no_array = λ i. ((λ e. cc e), tt);
}

links_fine : (profile : Profile) (k n i : ℕ) (m : Member) → k + n ≡ 18 → slice_get (members_from k n) i ≡ Some m → IsFine profile m
links_fine profile k zero zero m s e = let same : chains.member_of k (0xB1 ∷ []) ≡ m = cc e in subst (IsFine profile) same (fine_end profile k)
links_fine profile k zero (suc i) m s e = cc e
links_fine profile k (suc n) zero m s e = let same : chains.member_of k (link_code k) ≡ m = cc e in subst (IsFine profile) same (fine_link profile k (omega (arith, s)))
links_fine profile k (suc n) (suc i) m s e = links_fine profile (suc k) n i m (omega (arith, s)) e

is_first : is_constructor chain_pool constructor_member ≡ true
unfolding utf8_at
is_first = refl

fine_at : (profile : Profile) (n : ℕ) (m : Member) → slice_get chain_parts.methods n ≡ Some m → is_constructor chain_pool m ≡ false → IsFine profile m
fine_at profile zero m e other =
    let same : constructor_member ≡ m = cc e in
    absurd (false≢true (sym (subst (λ (x : Member). is_constructor chain_pool x ≡ false) (sym same) other) ∙ is_first))
fine_at profile (suc zero) m e other = let same : process_member ≡ m = cc e in subst (IsFine profile) same (fine_process profile)
fine_at profile (suc (suc i)) m e other = links_fine profile 0 18 i m refl e

-- ---- the levels

pub has_instructions : (profile : Profile) → HasInstructions profile chain_pool chain_parts
has_instructions profile = record { none_stands = none }
  where
    none : (r : Refusal) → InstructionsStand profile chain_pool chain_parts r → ⊥
    none r h =
        let it = any_at (λ (m : Member). IsFalse (is_constructor chain_pool m) × ((c : CodeParts) × HasCode chain_pool m c × InstructionStands profile chain.view c.code r)) chain_parts.methods h in
        let f = fine_at profile it.0 it.1 it.2 it.3.0 in
        let same : it.3.1.0 ≡ f.parts = code_once chain_pool it.1 it.3.1.0 f.parts it.3.1.1 f.has_code in
        no_instruction profile it.1 f r (subst (λ (c : CodeParts). InstructionStands profile chain.view c.code r) same it.3.1.2)

pub has_types : (profile : Profile) → HasTypes profile chain_pool chain_parts
has_types profile = record { none_stands = none }
  where
    none : (r : Refusal) → TypesStand profile chain_pool chain_parts r → ⊥
    none r h =
        let it = any_at (λ (m : Member). IsFalse (is_constructor chain_pool m)
        × ((e : Environment) × (code : List Placed) × (tables : List (List ℕ)) × IsBody profile chain_pool chain_parts m e code tables × BodyStands chain.view e code tables r)) chain_parts.methods h in
        let f = fine_at profile it.0 it.1 it.2 it.3.0 in
        let b = it.3.1 in
        let once = body_once Third chain_pool chain_parts it.1 b.0 f.environment b.1 f.code b.2 [] (third_body profile it.1 b.0 b.1 b.2 b.3) (third_body profile it.1 f.environment f.code [] f.body) in
        no_type profile it.1 f r
        (subst (λ ts. BodyStands chain.view f.environment f.code ts r) once.tables
        (subst (λ ps. BodyStands chain.view f.environment ps b.2 r) once.code
        (subst (λ e. BodyStands chain.view e b.1 b.2 r) once.environment b.4)))
