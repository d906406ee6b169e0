-- A reported refusal applies to the bytes.
use Rattle.std.proofs.Common.{◌≡◌, ◌≢◌, ℕ, zero, suc, ◌<◌, Bool, true, false, cond, List, [], ◌∷◌, length, get_or, Option, Some, None, refl, sym, ap, ◌∙◌, subst, arith, ◌⊎◌, inl, inr}
use Rattle.std.specs.Prelude.{slice_get, map, is_some, IsSome, Contains, Err, ◌==◌}
use Rattle.std.proofs.lemmas.Bool.{and_from, eqb-true, false≢true, eq-eqb}
use Rattle.std.proofs.lemmas.Option.{slice_get-get_or}
use Rattle.jtypes.specs.declared.refusal.Refusal.{Refusal}
use Rattle.jtypes.specs.declared.refusal.Refusal.TheVariants.{NoMemory, NoProcess, Recursive, LengthNotConstant, StepLimit, WordLimit, FrameLimit}
use Rattle.jtypes.specs.Lists.{same_bytes}
use Rattle.constpool.specs.Lookup.{Slot}
use Rattle.constpool.specs.Names.{process_name, process_descriptor}
use Rattle.classfile.specs.declared.class_file.Parts.{Parts}
use Rattle.classfile.specs.declared.class_file.CodeParts.{CodeParts}
use Rattle.classfile.specs.View.{ClassView, MethodView, view_of}
use Rattle.decode.specs.declared.instruction.Placed.{Placed}
use Rattle.decode.specs.Places.{at_place}
use Rattle.frames.specs.declared.members.Callee.{Callee}
use Rattle.frames.specs.Frames.{Frame, frame_in}
use Rattle.typecheck.specs.Typing.{Class, IsProcessOf, process_from, number_of_process, call_of, own_of}
use Rattle.typecheck.specs.Calls.{callee_in, called_by}
use Rattle.typecheck.specs.Mismatch.{LacksLength, HasLength, HasFrame}
use Rattle.typecheck.specs.DeclaredPlaces.{ArePlacesRising}
use Rattle.typecheck.specs.declared.typed.Called.{Called}
use Rattle.typecheck.specs.declared.typed.Typed.{Typed}
use Rattle.bounds.specs.Lengths.{HaveLengths, OneLacksLength, LacksLengthIn}
use Rattle.bounds.specs.Limits.{IsLimit, IsOfBounds}
use Rattle.bounds.specs.Rows.{AreRowsOf, AreAllRowsOf, AreNotRecursive, IsAnswerFor, IsCircleIn}
use Rattle.bounds.specs.Table.{LeadsOn}
use Rattle.verdict.specs.Shape.{IsProcess}
use Rattle.verdict.specs.Shaping.{HasGoodShape}
use Rattle.verdict.specs.Verdict.{IsClassFile, HasShape, HasInstructions, HasTypes, IsClassOfFile, ClassStands, IsRefused, by_types, by_class}
use Rattle.verdict.specs.Checked.{members}
use Rattle.verdict.specs.Judging.{AreTyped, AreFound}
use Rattle.verdict.specs.declared.instructions.Found.{Found}
use Rattle.verdict.proofs.Texts.{same_refl}
use Rattle.verdict.proofs.Methods.{any_from}
use Rattle.verdict.proofs.OwnCalls.{own_call, none_is_process}
use Rattle.verdict.proofs.RowsOfClass.{are_rows, calls_are, member_of_view, not_constructor, row_of_member}
use Rattle.verdict.proofs.Verdicts.{types_stand, instructions_stand, class_not_recursive, class_leads_on, class_judged, class_exists, item_of}
use Rattle.bounds.specs.declared.limits.Bounds as declared
use Rattle.jtypes.specs.Profile.{Third}

-- A frame is declared at each pc of the list.
pub frame_among : (ds : List (ℕ × Frame)) (q i d : ℕ) → i < length (map (λ (d : ℕ × Frame). d.0) ds) → get_or (map (λ (d : ℕ × Frame). d.0) ds) i d ≡ q → IsSome (frame_in ds q)
frame_among [] q i d l e = absurd (omega (arith, l))
frame_among (x ∷ ds) q zero d l e = ap (λ b. is_some (cond b (Some x.1) (frame_in ds q))) (eq-eqb x.0 q e)
frame_among (x ∷ ds) q (suc i) d l e = go (x.0 == q) (frame_among ds q i d (omega (arith, l)) e)
  where
    go : (b : Bool) → IsSome (frame_in ds q) → IsSome (cond b (Some x.1) (frame_in ds q))
    go true h = refl
    go false h = h

-- There is an instruction at the pc of each call.
pub called_stands : (calls : List Called) (code : List Placed) → ((i : ℕ) (d : Called) → i < length calls → IsSome (at_place code (get_or calls i d).place)) → (place : ℕ) → IsSome (callee_in calls place) → IsSome (at_place code place)
called_stands [] code h place s = cc
called_stands (x ∷ calls) code h place s = go (x.place == place) refl s (called_stands calls code (λ i d l. h (suc i) d (omega (arith, l))) place)
  where
    go : (b : Bool) → (x.place == place) ≡ b → IsSome (cond b (Some x.callee) (callee_in calls place)) → (IsSome (callee_in calls place) → IsSome (at_place code place)) → IsSome (at_place code place)
    go true is f later = subst (λ (q : ℕ). IsSome (at_place code q)) (eqb-true x.place place is) (h 0 x (omega arith))
    go false is f later = later f

pub own_is_some : (o : Option Callee) (k : ℕ) → own_of o ≡ Some k → IsSome o
own_is_some None k e = cc
own_is_some (Some x) k e = refl

pub some_of : {A : Type 0} (o : Option A) → IsSome o → (x : A) × (o ≡ Some x)
some_of None e = cc
some_of (Some x) e = (x, refl)

module _ (bytes : List ℕ) (pool : List Slot) (p : Parts) (n : ℕ) (codes : List CodeParts) (shape : HasGoodShape pool p codes n) (items : List Found) (are_found : AreFound (view_of pool p) codes n (length codes) items) (rows : List Typed)
    (are : AreTyped pool p n (length codes) rows) (file : IsClassFile bytes pool p) where
  good_shape : HasShape pool p
  good_shape = record { none_stands = shape.none_stands }

  good_instructions : HasInstructions Third pool p
  good_instructions = record { none_stands = instructions_stand pool p n codes shape items are_found }

  good_types : HaveLengths rows → HasTypes Third pool p
  good_types lengths = record { none_stands = types_stand pool p n codes shape rows are lengths }

  -- ---- lengths

  length_stands : OneLacksLength rows → IsRefused Third bytes LengthNotConstant
  length_stands (i, row, l, same, lack) =
      let t = are.each i row l in
      let lacks : LacksLengthIn (get_or rows i row) = subst LacksLengthIn same (lack (subst (λ (x : Typed). ArePlacesRising x.declared.items) (sym same) t.places.2.rising)) in
      let stands : LacksLength (view_of pool p) (get_or rows i row).environment (get_or rows i row).code t.tables = (lacks.0, lacks.1, lacks.2, lacks.3, lacks.4, either lacks.0 lacks.5) in
      by_types pool p file good_shape good_instructions (any_from _ p.methods (get_or rows i row).number t.member t.there (not_constructor pool p n codes shape rows are i row l, ((get_or rows i row).environment, (get_or rows i row).code, t.tables, t.body, stands)))
    where
      either : (q : ℕ) → (HasLength (get_or rows i row).code q → ⊥) ⊎ Contains (get_or rows i row).declared.items q → (HasLength (get_or rows i row).code q → ⊥) ⊎ HasFrame (view_of pool p) (get_or rows i row).environment (get_or rows i row).code (are.each i row l).tables q
      either q (inl none) = inl none
      either q (inr has) =
          let places = (are.each i row l).places in
          let there = subst (λ (xs : List ℕ). Contains xs q) places.2.are has in
          inr (places.0, places.1, frame_among places.0 q there.0 q there.1 there.2)

  module _ (c : Class) (class : IsClassOfFile Third pool p c) where
    process_exists : (j : ℕ) × IsProcessOf c j
    process_exists = go (number_of_process c) refl
      where
        absent : number_of_process c ≡ None → ⊥
        absent e = shape.none_stands NoProcess (λ a.
            let is : IsProcess a.1 = a.4 in
            let found : slice_get (view_of pool p).methods a.0 ≡ Some a.1 = slice_get-get_or (view_of pool p).methods a.0 a.1 a.2 ∙ ap (λ (x : MethodView). Some x) a.3 in
            let none : process_from 0 (view_of pool p).methods ≡ None = subst (λ (v : ClassView). process_from 0 v.methods ≡ None) class.view e in
            let name : same_bytes a.1.name process_name ≡ true = ap (λ x. same_bytes x process_name) is.name ∙ same_refl process_name in
            let descriptor : same_bytes a.1.descriptor process_descriptor ≡ true = ap (λ x. same_bytes x process_descriptor) is.descriptor ∙ same_refl process_descriptor in
            false≢true (sym (none_is_process 0 (view_of pool p).methods a.0 a.1 none found) ∙ and_from _ _ name descriptor))

        go : (o : Option ℕ) → number_of_process c ≡ o → (j : ℕ) × IsProcessOf c j
        go None e = absurd (absent e)
        go (Some j) e = (j, e)

    row_of_process : declared.Bounds → ((i : ℕ) (d : Typed) → i < length rows → (get_or rows i d).is_process ≡ false) → ⊥
    row_of_process b none =
        let j = process_exists in
        let i = (class_judged pool p n codes shape rows are c class b).process j.0 j.1 in
        let item = item_of rows i.0 i.1 in
        let both = i.2 item.0 in
        false≢true (sym (none i.0 item.0 i.1) ∙ both.1)

    all_rows : AreAllRowsOf c (members c) rows
    all_rows = record { are = are_rows pool p n codes shape rows are c class; each_has_one = row_of_member pool p n codes shape rows are c class; placed = λ i d l q x m. (are.each i d l).calls.placed q x m; reached = reached }
      where
        reached : (i : ℕ) (d : Typed) → i < length rows → (place k : ℕ) → own_of (callee_in (get_or rows i d).calls.items place) ≡ Some k → members c k ≡ true
        reached i d l place k e =
            let row = get_or rows i d in
            let calls = (are.each i d l).calls in
            let some = some_of (at_place row.code place) (called_stands row.calls.items row.code calls.placed place (own_is_some (callee_in row.calls.items place) k e)) in
            let call : call_of c.view some.0.instruction ≡ Some k = calls_are c.view some.0.instruction ∙ ap (λ (v : ClassView). own_of (called_by v some.0.instruction)) class.view ∙ ap own_of (sym (calls.reached place some.0 some.1)) ∙ e in
            let to = own_call c.view some.0.instruction k call in
            member_of_view pool p n codes shape rows are c class k to.0 to.1 to.2

    class_refused : HaveLengths rows → (r : Refusal) → ClassStands Third c r → IsRefused Third bytes r
    class_refused lengths r s = by_class pool p c file good_shape good_instructions (good_types lengths) class s

    module _ (none : AreNotRecursive rows) where
      on : LeadsOn c (members c)
      on = class_leads_on pool p n codes shape rows are c class (instructions_stand pool p n codes shape items are_found) none

      -- A reported refusal of a limit applies.
      answered : (r : Refusal) → ((c : Class) (set : ℕ → Bool) → LeadsOn c set → AreRowsOf c set rows → IsAnswerFor c (Err r)) → IsLimit r → ClassStands Third c r
      answered StepLimit answer h = let j = process_exists in (class_not_recursive pool p n codes shape rows are c class none, (j.0, j.1, (answer c (members c) on (are_rows pool p n codes shape rows are c class) j.0 j.1).steps refl))
      answered WordLimit answer h = let j = process_exists in (class_not_recursive pool p n codes shape rows are c class none, (j.0, j.1, (answer c (members c) on (are_rows pool p n codes shape rows are c class) j.0 j.1).words refl))
      answered FrameLimit answer h = let j = process_exists in (class_not_recursive pool p n codes shape rows are c class none, (j.0, j.1, (answer c (members c) on (are_rows pool p n codes shape rows are c class) j.0 j.1).frames refl))
      answered r answer h = absurd h

  pub bounds_refused : (r : Refusal) → IsOfBounds r → (r ≢ LengthNotConstant → HaveLengths rows) → (IsLimit r → AreNotRecursive rows) → (r ≡ Recursive → IsCircleIn rows) → (r ≡ LengthNotConstant → OneLacksLength rows) → (r ≡ NoProcess → (i : ℕ) (d : Typed) → i < length rows → (get_or rows i d).is_process ≡ false)
      → ((c : Class) (set : ℕ → Bool) → LeadsOn c set → AreRowsOf c set rows → IsAnswerFor c (Err r)) → (r ≡ NoMemory) ⊎ IsRefused Third bytes r
  bounds_refused NoMemory of lengths limit circle lack process answer = inl refl
  bounds_refused LengthNotConstant of lengths limit circle lack process answer = inr (length_stands (lack refl))
  bounds_refused NoProcess of lengths limit circle lack process answer =
      let c = class_exists pool p n codes shape rows are in
      absurd (row_of_process c.0 c.1 (record { steps = 0; words = 0; slots = 0; depth = 0 }) (process refl))
  bounds_refused Recursive of lengths limit circle lack process answer =
      let c = class_exists pool p n codes shape rows are in
      inr (class_refused c.0 c.1 (lengths (λ e. cc)) Recursive (circle refl c.0 (members c.0) (all_rows c.0 c.1)))
  bounds_refused StepLimit of lengths limit circle lack process answer =
      let c = class_exists pool p n codes shape rows are in
      inr (class_refused c.0 c.1 (lengths (λ e. cc)) StepLimit (answered c.0 c.1 (limit tt) StepLimit answer tt))
  bounds_refused WordLimit of lengths limit circle lack process answer =
      let c = class_exists pool p n codes shape rows are in
      inr (class_refused c.0 c.1 (lengths (λ e. cc)) WordLimit (answered c.0 c.1 (limit tt) WordLimit answer tt))
  bounds_refused FrameLimit of lengths limit circle lack process answer =
      let c = class_exists pool p n codes shape rows are in
      inr (class_refused c.0 c.1 (lengths (λ e. cc)) FrameLimit (answered c.0 c.1 (limit tt) FrameLimit answer tt))
  bounds_refused r of lengths limit circle lack process answer = absurd of
