-- No refusal of the instructions applies to the bytes of the small class with a loop except that of its branch that leads back.
use Rattle.std.proofs.Common.{◌≡◌, ◌≢◌, ℕ, zero, suc, true, false, List, [], ◌∷◌, length, drop, Some, Ok, refl, sym, ◌∙◌, subst, arith, zero-add, inl, inr}
use Rattle.std.specs.Prelude.{slice_get, Any, IsFalse, ℤ, pos}
use Rattle.std.proofs.lemmas.Bool.{false≢true}
use Rattle.std.proofs.lemmas.List.{append-nil}
use Rattle.jtypes.specs.Profile.{Third}
use Rattle.jtypes.specs.declared.refusal.Refusal.{Refusal}
use Rattle.jtypes.specs.declared.refusal.Refusal.TheVariants.{UnknownMember, BadTarget, BackwardBranch}
use Rattle.jtypes.specs.declared.operations.Kind.TheVariants as kind
use Rattle.jtypes.specs.declared.operations.Pushed.TheVariants as pushed
use Rattle.jtypes.specs.declared.operations.Comparison.TheVariants.{GreaterOrEqual}
use Rattle.jtypes.specs.declared.operations.Test.TheVariants.{OfInts}
use Rattle.jtypes.specs.Layout.{first, operand, Stands}
use Rattle.constpool.specs.Lookup.{utf8_at}
use Rattle.classfile.specs.declared.class_file.Member.{Member}
use Rattle.classfile.specs.declared.class_file.CodeParts.{CodeParts}
use Rattle.classfile.specs.View.{ClassView, view_of}
use Rattle.decode.specs.declared.instruction.Instruction.TheVariants as instruction
use Rattle.decode.specs.declared.instruction.Placed.{Placed}
use Rattle.decode.specs.Code.{IsSequence, one, by_form, operands, signed_byte, signed_short}
use Rattle.decode.specs.Table.{form_at}
use Rattle.decode.specs.Places.{IsBadTarget, HasBadTarget, HasBackwardTarget, BranchStands, CodeStands}
use Rattle.decode.proofs.Targets.{no_target}
use Rattle.decode.proofs.Runs.{Run, run_found, run_goes_on, sequence_once}
use Rattle.verdict.specs.Shape.{is_constructor, HasCode}
use Rattle.verdict.specs.Verdict.{is_known, InstructionStands, InstructionsStand}
use Rattle.verdict.proofs.Methods.{any_at, any_from}
use Rattle.soundness.specs.Accepted.{constructor_member}
use Rattle.soundness.proofs.OneClass.{code_once}
use Rattle.soundness.proofs.StraightCode.{Each}
use Rattle.unrolled.specs.Example.{loop_code}
use Rattle.loop_soundness.specs.Accepted.{HasInstructionsWithLoops}
use Rattle.loop_soundness.specs.ExampleBytes.{loop_text, loop_pool, loop_member, loop_parts}
use Rattle.loop_soundness.proofs.LoopChecked.{to_only}
use Rattle.loop_soundness.proofs.LoopBytes.{process_parts, are_good}

abbrev pub view : ClassView
view = view_of loop_pool loop_parts

-- ---- the code of `process`

read_0 : first (one Third loop_pool 0) loop_text ≡ Ok (instruction.Push (pushed.Int (pos 0)), drop 1 loop_text)
unfolding one by_form operands form_at operand
read_0 = refl

read_1 : first (one Third loop_pool 1) (drop 1 loop_text) ≡ Ok (instruction.Store kind.Int 3, drop 2 loop_text)
unfolding one by_form operands form_at operand
read_1 = refl

read_2 : first (one Third loop_pool 2) (drop 2 loop_text) ≡ Ok (instruction.Load kind.Int 3, drop 3 loop_text)
unfolding one by_form operands form_at operand
read_2 = refl

read_3 : first (one Third loop_pool 3) (drop 3 loop_text) ≡ Ok (instruction.Push (pushed.Int (pos 2)), drop 4 loop_text)
unfolding one by_form operands form_at operand
read_3 = refl

read_4 : first (one Third loop_pool 4) (drop 4 loop_text) ≡ Ok (instruction.Branch (OfInts GreaterOrEqual) (pos 13), drop 7 loop_text)
unfolding one by_form operands form_at operand signed_short
read_4 = refl

read_7 : first (one Third loop_pool 7) (drop 7 loop_text) ≡ Ok (instruction.Increment 3 (pos 1), drop 10 loop_text)
unfolding one by_form operands form_at operand signed_byte
read_7 = refl

read_10 : first (one Third loop_pool 10) (drop 10 loop_text) ≡ Ok (instruction.Goto (pos 2), drop 13 loop_text)
unfolding one by_form operands form_at operand signed_short
read_10 = refl

read_13 : first (one Third loop_pool 13) (drop 13 loop_text) ≡ Ok (instruction.Push pushed.Null, drop 14 loop_text)
unfolding one by_form operands form_at operand
read_13 = refl

read_14 : first (one Third loop_pool 14) (drop 14 loop_text) ≡ Ok (instruction.Return kind.Reference, [])
unfolding one by_form operands form_at operand
read_14 = refl

run : Run loop_pool 15 loop_text loop_code []
run = (
  refl,
  drop 1 loop_text,
  refl,
  read_0,
  (
    refl,
    drop 2 loop_text,
    refl,
    read_1,
    (
      refl,
      drop 3 loop_text,
      refl,
      read_2,
      (
        refl,
        drop 4 loop_text,
        refl,
        read_3,
        (
          refl,
          drop 7 loop_text,
          refl,
          read_4,
          (
            refl,
            drop 10 loop_text,
            refl,
            read_7,
            (
              refl,
              drop 13 loop_text,
              refl,
              read_10,
              (
                refl,
                drop 14 loop_text,
                refl,
                read_13,
                (refl, [], refl, read_14, refl),
              ),
            ),
          ),
        ),
      ),
    ),
  ),
)

pub loop_sequence : IsSequence Third loop_pool 0 loop_text loop_code
loop_sequence =
    let found = run_found loop_pool 15 loop_text loop_code [] (omega arith) run in
    let whole : found.0 ≡ loop_text = sym (append-nil found.0) ∙ sym found.1 in
    subst (λ (t : List ℕ). IsSequence Third loop_pool 0 t loop_code) whole found.2

same_code : (code : List Placed) → IsSequence Third loop_pool 0 loop_text code → code ≡ loop_code
same_code code h = sequence_once Third loop_pool 0 loop_text loop_text code loop_code refl h loop_sequence

-- ---- its branches

each_in : (P : Placed → Type 0) (code : List Placed) → Each P code → (n : ℕ) (p : Placed) → slice_get code n ≡ Some p → P p
each_in P [] h n p e = absurd cc
each_in P (x ∷ code) h zero p e = let same : x ≡ p = cc e in subst P same h.0
each_in P (x ∷ code) h (suc n) p e = each_in P code h.1 n p e

abbrev NoBadTarget : Placed → Type 0
NoBadTarget p = HasBadTarget loop_code p → ⊥

-- pc 2 and pc 13 are pcs of instructions
starts_2 : (z : ℤ) → z ≡ pos 2 → IsBadTarget loop_code z → ⊥
starts_2 z e bad = bad (any_from (λ q. pos q.place ≡ z) loop_code 2 (record { place = 2; next = 3; instruction = instruction.Load kind.Int 3 }) refl (sym e))

starts_13 : (z : ℤ) → z ≡ pos 13 → IsBadTarget loop_code z → ⊥
starts_13 z e bad = bad (any_from (λ q. pos q.place ≡ z) loop_code 7 (record { place = 13; next = 14; instruction = instruction.Push pushed.Null }) refl (sym e))

no_bad : Each NoBadTarget loop_code
no_bad = (
  (λ h. no_target (instruction.Push (pushed.Int (pos 0))) h.0 refl h.1),
  (
    (λ h. no_target (instruction.Store kind.Int 3) h.0 refl h.1),
    (
      (λ h. no_target (instruction.Load kind.Int 3) h.0 refl h.1),
      (
        (λ h. no_target (instruction.Push (pushed.Int (pos 2))) h.0 refl h.1),
        (
          (λ h. starts_13 h.0 (to_only (pos 13) h.0 h.1) h.2),
          (
            (λ h. no_target (instruction.Increment 3 (pos 1)) h.0 refl h.1),
            (
              (λ h. starts_2 h.0 (to_only (pos 2) h.0 h.1) h.2),
              (
                (λ h. no_target (instruction.Push pushed.Null) h.0 refl h.1),
                ((λ h. no_target (instruction.Return kind.Reference) h.0 refl h.1), tt),
              ),
            ),
          ),
        ),
      ),
    ),
  ),
)

no_branch : (r : Refusal) → r ≢ BackwardBranch → BranchStands loop_code r → ⊥
no_branch BadTarget other any = let x = any_at (HasBadTarget loop_code) loop_code any in each_in NoBadTarget loop_code no_bad x.0 x.1 x.2 x.3
no_branch BackwardBranch other any = other refl
no_branch r other h = h

-- The `goto` leads back.
pub leads_back : CodeStands Third loop_pool loop_text BackwardBranch
leads_back = inr (loop_code, loop_sequence, any_from HasBackwardTarget loop_code 6 (record { place = 10; next = 13; instruction = instruction.Goto (pos 2) }) refl (pos 2, inl refl, record { le = tt }))

-- ---- the refusals of the instructions

no_refusal : (r : Refusal) → r ≢ BackwardBranch → CodeStands Third loop_pool loop_text r → ⊥
no_refusal r other (inl (ps, front, back, e, s, n, h)) =
    run_goes_on loop_pool 15 loop_text loop_code r (omega arith) run ps 0 front back refl e s n (subst (λ k. Stands (one Third loop_pool k) back r) (sym (zero-add (length front))) h)
no_refusal r other (inr (code, s, h)) = no_branch r other (subst (λ c. BranchStands c r) (same_code code s) h)

abbrev IsNamed : Placed → Type 0
IsNamed p = is_known view p.instruction ≡ true

all_named : Each IsNamed loop_code
all_named = (refl, (refl, (refl, (refl, (refl, (refl, (refl, (refl, (refl, tt)))))))))

names_known : Any (λ p. IsFalse (is_known view p.instruction)) loop_code → ⊥
names_known any =
    let x = any_at (λ (p : Placed). IsFalse (is_known view p.instruction)) loop_code any in
    false≢true (sym x.3 ∙ each_in IsNamed loop_code all_named x.0 x.1 x.2)

no_instruction : (r : Refusal) → r ≢ BackwardBranch → InstructionStands Third view loop_text r → ⊥
no_instruction UnknownMember other h = names_known (subst (λ c. Any (λ p. IsFalse (is_known view p.instruction)) c) (same_code h.0 h.1) h.2)
no_instruction r other h = no_refusal r other h

-- `process` is the only method except the constructor.
pub only_process : (P : Member → Type 0) → Any (λ m. IsFalse (is_constructor loop_pool m) × P m) loop_parts.methods → P loop_member
unfolding utf8_at
only_process P any =
    let it = any_at (λ (m : Member). IsFalse (is_constructor loop_pool m) × P m) loop_parts.methods any in
    go it.0 it.1 it.2 it.3
  where
    go : (n : ℕ) (m : Member) → slice_get loop_parts.methods n ≡ Some m → IsFalse (is_constructor loop_pool m) × P m → P loop_member
    go zero m e h = let same : constructor_member ≡ m = cc e in absurd (false≢true (sym (subst (λ (x : Member). is_constructor loop_pool x ≡ false) (sym same) h.0)))
    go (suc zero) m e h = let same : loop_member ≡ m = cc e in subst P (sym same) h.1
    go (suc (suc n)) m e h = cc e

pub has_instructions : HasInstructionsWithLoops loop_pool loop_parts
has_instructions = record { none_else = none }
  where
    none : (r : Refusal) → r ≢ BackwardBranch → InstructionsStand Third loop_pool loop_parts r → ⊥
    none r other h =
        let it = only_process (λ m. (c : CodeParts) × HasCode loop_pool m c × InstructionStands Third view c.code r) h in
        let same : it.0 ≡ process_parts = code_once loop_pool loop_member it.0 process_parts it.1 are_good.1.0.has_code in
        no_instruction r other (subst (λ (c : CodeParts). InstructionStands Third view c.code r) same it.2)

not_constructor : is_constructor loop_pool loop_member ≡ false
unfolding utf8_at
not_constructor = refl

-- So the third profile refuses it.
pub leads_back_somewhere : InstructionsStand Third loop_pool loop_parts BackwardBranch
leads_back_somewhere = any_from (λ m. IsFalse (is_constructor loop_pool m) × ((c : CodeParts) × HasCode loop_pool m c × InstructionStands Third view c.code BackwardBranch)) loop_parts.methods 1 loop_member refl
    (not_constructor, (process_parts, are_good.1.0.has_code, leads_back))
