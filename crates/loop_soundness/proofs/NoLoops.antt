-- A class file without refusals of its shape and its instructions has no branch that leads back.
use Rattle.std.proofs.Common.{◌≡◌, ℕ, Bool, true, false, List, Some, refl, sym, ◌∙◌, subst, inr}
use Rattle.std.specs.Prelude.{slice_get, IsFalse, Any}
use Rattle.std.proofs.lemmas.Bool.{false≢true, false_from_ne_true}
use Rattle.jtypes.specs.Profile.{Third}
use Rattle.jtypes.specs.declared.refusal.Refusal.TheVariants.{BackwardBranch, ConstructorForm}
use Rattle.constpool.specs.Lookup.{Slot}
use Rattle.classfile.specs.declared.class_file.Member.{Member}
use Rattle.classfile.specs.declared.class_file.Parts.{Parts}
use Rattle.classfile.specs.declared.class_file.CodeParts.{CodeParts}
use Rattle.classfile.specs.View.{view_of}
use Rattle.decode.specs.Code.{IsSequence}
use Rattle.decode.specs.Places.{HasBackwardTarget}
use Rattle.typecheck.specs.Typing.{Method, Class}
use Rattle.verdict.specs.Shape.{is_constructor, HasCode, HasConstructor}
use Rattle.verdict.specs.Verdict.{HasShape, HasInstructions, InstructionStands, InstructionsStand, IsMethodOf, IsClassOfFile}
use Rattle.verdict.proofs.Methods.{zip_back, any_from}
use Rattle.verdict.proofs.OnlyOne.{the_only}
use Rattle.soundness.proofs.OneClass.{code_once}
use Rattle.unrolled.specs.Rules.{leads_back, has_loops}
use Rattle.loop_soundness.proofs.BackwardBranches.{back_found, no_loops}
use Rattle.loop_soundness.proofs.ConstructorCode.{constructor_leads_on}

module _ (pool : List Slot) (p : Parts) (shape : HasShape pool p) (instructions : HasInstructions Third pool p) where
  constructor_forward : (k : ℕ) (item : Member) (m : Method) → slice_get p.methods k ≡ Some item → IsMethodOf Third pool p item m → is_constructor pool item ≡ true → HasConstructor pool p → leads_back m.code ≡ false
  constructor_forward k item m at is e has =
      let same : item ≡ has.0 = the_only (is_constructor pool) p.methods has.0 has.1 k item at e in
      let form = has.2 in
      let has_code : HasCode pool item form.parts = subst (λ (x : Member). HasCode pool x form.parts) (sym same) form.has_code in
      let parts : is.body.parts ≡ form.parts = code_once pool item is.body.parts form.parts is.body.has_code has_code in
      constructor_leads_on pool form.parts m.code form.code (subst (λ (x : CodeParts). IsSequence Third pool 0 x.code m.code) parts is.body.sequence)

  method_forward : (k : ℕ) (item : Member) (m : Method) → slice_get p.methods k ≡ Some item → IsMethodOf Third pool p item m → leads_back m.code ≡ false
  method_forward k item m at is = false_from_ne_true (leads_back m.code) (λ back. go back (is_constructor pool item) refl)
    where
      go : leads_back m.code ≡ true → (b : Bool) → is_constructor pool item ≡ b → ⊥
      go back true e = shape.none_stands ConstructorForm (λ has. false≢true (sym (constructor_forward k item m at is e has) ∙ back))
      go back false e =
          let branch : Any HasBackwardTarget m.code = back_found m.code back in
          let stands : InstructionsStand Third pool p BackwardBranch = any_from (λ y. IsFalse (is_constructor pool y) × ((z : CodeParts) × HasCode pool y z × InstructionStands Third (view_of pool p) z.code BackwardBranch)) p.methods k item at (e, (is.body.parts, is.body.has_code, inr (m.code, is.body.sequence, branch))) in
          instructions.none_stands BackwardBranch stands

  pub file_has_no_loops : (c : Class) → IsClassOfFile Third pool p c → has_loops c.methods ≡ false
  file_has_no_loops c of = no_loops c.methods (λ j m known. let x = zip_back (IsMethodOf Third pool p) p.methods c.methods j m of.methods known in method_forward j x.0 m x.1 x.2)
