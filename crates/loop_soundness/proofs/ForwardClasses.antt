-- A class without a branch that leads back is accepted with loops only if the third profile accepts it.
use Rattle.std.proofs.Common.{◌≡◌, ℕ, Bool, true, false, List, [], Some, refl, sym, ap, ◌∙◌, subst, inl, inr}
use Rattle.std.specs.Prelude.{length, slice_get, IsFalse, Any, ℤ, pos, negsuc, ◌≤ℤ◌, T}
use Rattle.std.proofs.lemmas.Bool.{false≢true, leb-true}
use Rattle.jtypes.specs.Profile.{Third}
use Rattle.jtypes.specs.declared.refusal.Refusal.TheVariants.{BadTarget, BackwardBranch}
use Rattle.jtypes.proofs.Laws.{laid_out_once}
use Rattle.constpool.specs.Lookup.{Slot}
use Rattle.classfile.specs.declared.class_file.Member.{Member}
use Rattle.classfile.specs.declared.class_file.Parts.{Parts}
use Rattle.classfile.specs.declared.class_file.CodeParts.{CodeParts}
use Rattle.classfile.specs.Class.{class_file}
use Rattle.classfile.specs.View.{view_of}
use Rattle.decode.specs.declared.instruction.Placed.{Placed}
use Rattle.decode.specs.Code.{IsSequence}
use Rattle.decode.specs.Places.{IsTarget, HasBadTarget, HasBackwardTarget, CodeStands}
use Rattle.decode.proofs.Runs.{sequence_once}
use Rattle.typecheck.specs.Typing.{Class}
use Rattle.verdict.specs.Shape.{is_constructor, HasCode}
use Rattle.verdict.specs.Verdict.{IsRefused, IsClassOf, IsClassFile, IsClassOfFile, IsMethodOf, IsBody, BodyStands, HasShape, InstructionStands, InstructionsStand}
use Rattle.verdict.specs.Verdict as verdict
use Rattle.verdict.proofs.Methods.{any_at, any_from, zip_has}
use Rattle.soundness.proofs.OneClass.{code_once}
use Rattle.unrolled.specs.Rules.{leads_back, has_loops}
use Rattle.loop_soundness.specs.Accepted.{IsAcceptedWithLoops, as_before}
use Rattle.loop_soundness.specs.Promise.{ForwardIsAccepted}
use Rattle.loop_soundness.proofs.BackwardBranches.{leads_back_by, loops_by}
use Rattle.loop_soundness.proofs.NeverBackward.{never_stops_with}

test_true : (t : Bool) → T t → t ≡ true
test_true true h = refl
test_true false h = absurd h

module _ (bytes : List ℕ) (ok : IsAcceptedWithLoops bytes) (c : Class) (none : has_loops c.methods ≡ false) (pool : List Slot) (p : Parts) (file : IsClassFile bytes pool p) (of : IsClassOfFile Third pool p c) (shape : HasShape pool p) where
  -- Neither a target before the first pc, nor one at or before its branch.
  no_target : (k : ℕ) (item : Member) → slice_get p.methods k ≡ Some item → IsFalse (is_constructor pool item) → (parts : CodeParts) → HasCode pool item parts → (code : List Placed) → IsSequence Third pool 0 parts.code code → leads_back code ≡ false
      → (i : ℕ) (x : Placed) → slice_get code i ≡ Some x → (target : ℤ) → IsTarget x.instruction target → target ≤ℤ pos x.place → ⊥
  no_target k item at other parts has code sequence forward i x there (pos q) to low = false≢true (sym forward ∙ leads_back_by code i x q there to (leb-true q x.place (test_true _ low.le)))
  no_target k item at other parts has code sequence forward i x there (negsuc n) to low =
      let bad : HasBadTarget code x = (negsuc n, to, λ a. let same = a.4 in cc same) in
      let some : Any (HasBadTarget code) code = any_from (HasBadTarget code) code i x there bad in
      let stands : InstructionsStand Third pool p BadTarget = any_from (λ y. IsFalse (is_constructor pool y) × ((z : CodeParts) × HasCode pool y z × InstructionStands Third (view_of pool p) z.code BadTarget)) p.methods k item at (other, (parts, has, inr (code, sequence, some))) in
      ok.none_stands BadTarget (as_before (verdict.by_instructions pool p file shape stands) (λ e. cc e))

  no_branch : (k : ℕ) (item : Member) → slice_get p.methods k ≡ Some item → IsFalse (is_constructor pool item) → (parts : CodeParts) → HasCode pool item parts → CodeStands Third pool parts.code BackwardBranch → ⊥
  no_branch k item at other parts has (inl stops) = never_stops_with Third pool parts.code stops
  no_branch k item at other parts has (inr (code, sequence, any)) =
      let m = zip_has (IsMethodOf Third pool p) p.methods c.methods k item of.methods at in
      let same : m.2.body.parts ≡ parts = code_once pool item m.2.body.parts parts m.2.body.has_code has in
      let text : m.2.body.parts.code ≡ parts.code = ap (λ (x : CodeParts). x.code) same in
      let one : m.0.code ≡ code = sequence_once Third pool 0 m.2.body.parts.code parts.code m.0.code code text m.2.body.sequence sequence in
      let x = any_at HasBackwardTarget code any in
      no_target k item at other parts has code sequence (forward m.0.code code one (leads_back code) refl (loops_by c.methods k m.0 m.1)) x.0 x.1 x.2 x.3.0 x.3.1 x.3.2
    where
      forward : (own ps : List Placed) → own ≡ ps → (b : Bool) → leads_back ps ≡ b → (leads_back own ≡ true → has_loops c.methods ≡ true) → leads_back ps ≡ false
      forward own ps one false e loops = e
      forward own ps one true e loops = absurd (false≢true (sym none ∙ loops (ap leads_back one ∙ e)))

  no_instruction : InstructionsStand Third pool p BackwardBranch → ⊥
  no_instruction any = let x = any_at _ p.methods any in no_branch x.0 x.1 x.2 x.3.0 x.3.1.0 x.3.1.1 x.3.1.2

not_backward : (bytes : List ℕ) (c : Class) → IsAcceptedWithLoops bytes → IsClassOf Third bytes c → has_loops c.methods ≡ false → IsRefused Third bytes BackwardBranch → ⊥
not_backward bytes c ok of none (verdict.by_layout s) = of.file.none_stands BackwardBranch s
not_backward bytes c ok of none (verdict.by_shape pool p file s) = s
not_backward bytes c ok of none (verdict.by_instructions pool p file shape s) =
    let same = (laid_out_once (class_file (length bytes)) bytes [] bytes [] (of.pool, of.parts) (pool, p) of.file.laid_out file.laid_out refl).2 in
    let class : IsClassOfFile Third pool p c = subst (λ (x : List Slot × Parts). IsClassOfFile Third x.0 x.1 c) same of.class in
    no_instruction bytes ok c none pool p file class shape s
not_backward bytes c ok of none (verdict.by_types pool p file shape instructions s) = (any_at _ p.methods s).3.1.4
not_backward bytes c ok of none (verdict.by_class pool p d file shape instructions types class s) = s.1.2
not_backward bytes c ok of none (verdict.by_names pool p file before s) = s

pub forward_is_accepted : ForwardIsAccepted
forward_is_accepted bytes c ok of none r refused = ok.none_stands r (as_before refused (λ e. not_backward bytes c ok of none (subst (IsRefused Third bytes) e refused)))
