-- The bytes of a class that passes the checks are accepted.
use Rattle.std.proofs.Common.{ℕ, Bool, List, length, sym, subst, arith, ◌⊎◌, inl, inr}
use Rattle.std.specs.Prelude.{Ok}
use Rattle.jtypes.specs.declared.refusal.Refusal.{Refusal}
use Rattle.jtypes.specs.declared.refusal.Refusal.TheVariants.{Recursive, StepLimit, WordLimit, FrameLimit}
use Rattle.jtypes.specs.Layout.{IsLaidOut, Stands}
use Rattle.constpool.specs.Lookup.{Slot}
use Rattle.classfile.specs.declared.class_file.Parts.{Parts}
use Rattle.classfile.specs.declared.class_file.CodeParts.{CodeParts}
use Rattle.classfile.specs.Class.{class_file}
use Rattle.classfile.specs.View.{view_of}
use Rattle.typecheck.specs.Typing.{Class, IsProcessOf}
use Rattle.typecheck.specs.declared.typed.Typed.{Typed}
use Rattle.bounds.specs.declared.limits.Bounds as declared
use Rattle.bounds.specs.Limits.{IsWithinLimits}
use Rattle.bounds.specs.Lengths.{HaveLengths}
use Rattle.bounds.specs.Paths.{AreBounds, SomePathExceeds, slot_limit, depth_limit}
use Rattle.bounds.specs.Rows.{AreRowsOf, AreNotRecursive, IsAnswerFor, bounds_in}
use Rattle.bounds.specs.Table.{LeadsOn}
use Rattle.verdict.specs.Shaping.{HasGoodShape}
use Rattle.verdict.specs.Verdict.{IsClassFile, IsClassOfFile, IsClassOf, InstructionsStand, TypesStand, ClassStands, by_layout, by_shape, by_instructions, by_types, by_class, by_names, IsAccepted}
use Rattle.verdict.specs.Checked.{members}
use Rattle.verdict.specs.Judged.{IsJudgedAs}
use Rattle.verdict.specs.Judging.{AreTyped, AreFound}
use Rattle.verdict.specs.declared.instructions.Found.{Found}
use Rattle.verdict.proofs.RowsOfClass.{are_rows}
use Rattle.verdict.proofs.Known.{none_beyond}
use Rattle.verdict.proofs.Shapes.{none_of_file, the_file}
use Rattle.verdict.proofs.Verdicts.{types_stand, instructions_stand, class_not_recursive, class_leads_on, class_judged, class_exists}
use Rattle.jtypes.specs.Profile.{Third}

module _ (bytes : List ℕ) (pool : List Slot) (p : Parts) (n : ℕ) (codes : List CodeParts) (shape : HasGoodShape pool p codes n) (items : List Found) (are_found : AreFound (view_of pool p) codes n (length codes) items) (rows : List Typed)
    (are : AreTyped pool p n (length codes) rows) (laid : IsLaidOut (class_file (length bytes)) bytes (pool, p)) (fine : (r : Refusal) → Stands (class_file (length bytes)) bytes r → ⊥) where
  of_file : (other : List Slot) (q : Parts) (c : Class) → IsClassFile bytes other q → IsClassOfFile Third other q c → IsClassOfFile Third pool p c
  of_file other q c file class =
      let same = the_file bytes pool other p q laid file in
      subst (λ (x : List Slot). IsClassOfFile Third x p c) (sym same.0) (subst (λ (x : Parts). IsClassOfFile Third other x c) (sym same.1) class)

  pub is_judged_as : (b : declared.Bounds) (c : Class) → IsClassOf Third bytes c → IsJudgedAs c (record { pool = pool; parts = p; methods = rows; bounds = b })
  is_judged_as b c of = class_judged pool p n codes shape rows are c (of_file of.pool of.parts c of.file of.class) b

  pub has_class : (c : Class) × IsClassOf Third bytes c
  has_class =
      let c = class_exists pool p n codes shape rows are in
      (c.0, record { pool = pool; parts = p; file = record { laid_out = laid; none_stands = fine }; class = c.1 })

  module _ (b : declared.Bounds) (none : AreNotRecursive rows) (answer : (c : Class) (set : ℕ → Bool) → LeadsOn c set → AreRowsOf c set rows → IsAnswerFor c (Ok b)) where
    bounds_of_file : (c : Class) → IsClassOfFile Third pool p c → (j : ℕ) → IsProcessOf c j → AreBounds c j (bounds_in b)
    bounds_of_file c class = answer c (members c) (class_leads_on pool p n codes shape rows are c class (instructions_stand pool p n codes shape items are_found) none) (are_rows pool p n codes shape rows are c class)

    pub has_bounds : (c : Class) (j : ℕ) → IsClassOf Third bytes c → IsProcessOf c j → AreBounds c j (bounds_in b)
    has_bounds c j of is = bounds_of_file c (of_file of.pool of.parts c of.file of.class) j is

    module _ (within : IsWithinLimits Third b) (lengths : HaveLengths rows) where
      class_stands : (c : Class) → IsClassOfFile Third pool p c → (r : Refusal) → ClassStands Third c r → ⊥
      class_stands c class Recursive h = class_not_recursive pool p n codes shape rows are c class none h
      class_stands c class StepLimit h =
          let path = h.1.2 in
          let most = ((bounds_of_file c class h.1.0 h.1.1).none_exceeds path.0 path.1).steps in
          let least = path.2 in
          let limit = within.steps in
          omega (arith, most, least, limit)
      class_stands c class WordLimit h =
          let path = h.1.2 in
          let most = ((bounds_of_file c class h.1.0 h.1.1).none_exceeds path.0 path.1).words in
          let least = path.2 in
          let limit = within.words in
          omega (arith, most, least, limit)
      class_stands c class FrameLimit h = either h.1.2
        where
          either : SomePathExceeds c h.1.0 (λ k. k.slots) slot_limit ⊎ SomePathExceeds c h.1.0 (λ k. k.depth) depth_limit → ⊥
          either (inl path) =
              let most = ((bounds_of_file c class h.1.0 h.1.1).none_exceeds path.0 path.1).slots in
              let least = path.2 in
              let limit = within.slots in
              omega (arith, most, least, limit)
          either (inr path) =
              let most = ((bounds_of_file c class h.1.0 h.1.1).none_exceeds path.0 path.1).depth in
              let least = path.2 in
              let limit = within.depth in
              omega (arith, most, least, limit)
      class_stands c class r h = h.1.2

      pub is_accepted : IsAccepted Third bytes
      is_accepted r (by_layout s) = fine r s
      is_accepted r (by_shape other q file s) = none_of_file bytes pool p codes n laid shape other q r file s
      is_accepted r (by_instructions other q file good s) =
          let same = the_file bytes pool other p q laid file in
          instructions_stand pool p n codes shape items are_found r (subst (λ (x : List Slot). InstructionsStand Third x p r) (sym same.0) (subst (λ (x : Parts). InstructionsStand Third other x r) (sym same.1) s))
      is_accepted r (by_types other q file good ok s) =
          let same = the_file bytes pool other p q laid file in
          types_stand pool p n codes shape rows are lengths r (subst (λ (x : List Slot). TypesStand Third x p r) (sym same.0) (subst (λ (x : Parts). TypesStand Third other x r) (sym same.1) s))
      is_accepted r (by_class other q c file good ok typed class s) = class_stands c (of_file other q c file class) r s
      is_accepted r (by_names other q file _ s) = none_beyond other q r s
