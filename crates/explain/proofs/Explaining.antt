-- The explanation of a class whose methods are typed.
use Rattle.std.proofs.Common.{◌≢◌, ◌≡◌, ℕ, ◌<◌, Bool, true, List, length, get_or, Some, refl, sym, ap, ◌∙◌, subst, arith, ◌⊎◌, inl, inr}
use Rattle.std.specs.Prelude.{slice_get, Contains, IsSome, Result, Ok, Err, IfOk}
use Rattle.std.specs.declared.alloc.AllocError.{AllocError}
use Rattle.jtypes.specs.declared.refusal.Refusal.{Refusal}
use Rattle.jtypes.specs.declared.refusal.Refusal.TheVariants.{NoMemory, NoProcess, LengthNotConstant, Recursive, StepLimit, WordLimit, FrameLimit}
use Rattle.jtypes.specs.Profile.{Third}
use Rattle.constpool.specs.Lookup.{Slot}
use Rattle.classfile.specs.declared.class_file.Parts.{Parts}
use Rattle.classfile.specs.View.{view_of}
use Rattle.jtypes.specs.declared.operations.ArrayKind.{ArrayKind}
use Rattle.decode.specs.declared.instruction.Instruction.TheVariants.{NewArray}
use Rattle.decode.specs.declared.instruction.Placed.{Placed}
use Rattle.decode.specs.Places.{at_place}
use Rattle.typecheck.specs.Typing.{Class}
use Rattle.typecheck.specs.Calls.{callee_in}
use Rattle.typecheck.specs.Mismatch.{HasLength, HasFrame}
use Rattle.typecheck.specs.DeclaredPlaces.{ArePlacesRising}
use Rattle.typecheck.specs.declared.typed.Called.{Called}
use Rattle.typecheck.specs.declared.typed.Typed.{Typed}
use Rattle.bounds.specs.Lengths.{HaveLengths, OneLacksLength}
use Rattle.bounds.specs.Limits.{IsLimit, IsOfBounds}
use Rattle.bounds.specs.Rows.{IsRowOf, AreRowsOf, AreNotRecursive, IsCircleIn}
use Rattle.bounds.proofs.KnownCosts.{early_refusal}
use Rattle.bounds.specs.Table.{LeadsOn, bounds_of}
use Rattle.bounds.specs.Paths.{AreBounds}
use Rattle.bounds.specs.Told.{LacksLengthAt, OneLacksLengthAt}
use Rattle.verdict.specs.declared.spot.Spot.TheVariants.{Whole, AtInstruction}
use Rattle.verdict.specs.declared.spot.Located.{Located}
use Rattle.verdict.specs.Checked.{members}
use Rattle.verdict.specs.Spots.{IsAtSpot, IsOfWhole, IsToldOf}
use Rattle.verdict.specs.TypedClasses.{IsTypedClass}
use Rattle.verdict.specs.Verdict.{IsClassOf, IsClassOfFile, IsRefused}
use Rattle.verdict.proofs.Refused.{bounds_refused, called_stands, frame_among, own_is_some, some_of}
use Rattle.verdict.proofs.RowsOfClass.{are_rows, not_constructor, row_is, row_of_member}
use Rattle.verdict.proofs.Shapes.{the_file}
use Rattle.verdict.proofs.Verdicts.{class_leads_on, instructions_stand, item_of}
use Rattle.explain.specs.declared.circle.OwnCall.{OwnCall}
use Rattle.explain.specs.declared.costs.MethodCost.{MethodCost}
use Rattle.explain.specs.Circles.{Calls, IsCallAmong, IsCircle, IsCircleAmong}
use Rattle.explain.specs.Costs.{IsCostOf}
use Rattle.explain.specs.declared.explained.Explained.{Explained}
use Rattle.explain.specs.declared.explained.Explained.TheVariants as told
use Rattle.explain.specs.Explanation.{AreCostsIn, IsExplanation}
use Rattle.explain.specs.Listed.{AreCostsListed, IsLackingAmong}

module _ (bytes : List ℕ) (pool : List Slot) (p : Parts) (rows : List Typed) (t : IsTypedClass bytes pool p rows) where
  of_file : (c : Class) → IsClassOf Third bytes c → IsClassOfFile Third pool p c
  of_file c of =
      let same = the_file bytes pool of.pool p of.parts t.file.laid_out of.file in
      subst (λ (x : List Slot). IsClassOfFile Third x p c) (sym same.0) (subst (λ (x : Parts). IsClassOfFile Third of.pool x c) (sym same.1) of.class)

  leads : AreNotRecursive rows → (c : Class) → IsClassOf Third bytes c → LeadsOn c (members c)
  leads none c of = class_leads_on pool p t.constructor t.codes t.shape rows t.typed c (of_file c of) (instructions_stand pool p t.constructor t.codes t.shape t.items t.found) none

  -- ---- costs

  pub costs_in : (costs : List MethodCost) → AreNotRecursive rows → ((c : Class) (set : ℕ → Bool) → LeadsOn c set → AreRowsOf c set rows → AreCostsListed c rows costs) → AreCostsIn bytes costs
  costs_in costs none listed c of = record { each = each; each_has_one = each_has_one }
    where
      told : AreCostsListed c rows costs
      told = listed c (members c) (leads none c of) (are_rows pool p t.constructor t.codes t.shape rows t.typed c (of_file c of))

      each : (i : ℕ) (d : MethodCost) → i < length costs → IsCostOf c (get_or costs i d)
      each i d l =
          let count = told.count in
          let within : i < length rows = omega (arith, count, l) in
          let row = item_of rows i within in
          let it = told.each i d row.0 within in
          (it.1.0, subst (λ (n : ℕ). AreBounds c n (bounds_of it.1.0)) (sym it.0) it.1.1, it.1.2)

      each_has_one : (j : ℕ) → members c j ≡ true → (i : ℕ) × (i < length costs) × ((d : MethodCost) → (get_or costs i d).number ≡ j)
      each_has_one j member =
          let count = told.count in
          let row = row_of_member pool p t.constructor t.codes t.shape rows t.typed c (of_file c of) j member in
          let within = row.1 in
          let item = item_of rows row.0 row.1 in
          (row.0, omega (arith, count, within), λ d. (told.each row.0 d item.0 row.1).0 ∙ row.2 item.0)

  -- ---- circles

  call_in : (c : Class) → IsClassOf Third bytes c → (j place k : ℕ) → IsCallAmong rows j place k → Calls c j place k
  call_in c of j place k (row, (i, l, is, number), reaches) =
      let typed = t.typed.each i row l in
      let there : IsRowOf c (get_or rows i row) = row_is pool p t.constructor t.codes t.shape rows t.typed c (of_file c of) i row l in
      let of_row : IsRowOf c row = subst (IsRowOf c) (sym is) there in
      let own = reaches of_row.rising in
      let placed = subst (λ (r : Typed). (q : ℕ) (x : Called) → q < length r.calls.items → IsSome (at_place r.code (get_or r.calls.items q x).place)) (sym is) typed.calls.placed in
      let stands = some_of (at_place row.code place) (called_stands row.calls.items row.code placed place (own_is_some (callee_in row.calls.items place) k own)) in
      (of_row.method.0, stands.0, ap (slice_get c.methods) (sym number) ∙ of_row.method.1, ap (λ (code : List Placed). at_place code place) of_row.method.3 ∙ stands.1, of_row.calls place stands.0 stands.1 ∙ own)

  pub circle_in : (calls : List OwnCall) → IsCircleAmong rows calls → (c : Class) → IsClassOf Third bytes c → IsCircle c calls
  circle_in calls among c of = record { some = among.some; each = λ i d l. call_in c of (get_or calls i d).method (get_or calls i d).place _ (among.each i d l) }

  -- ---- lengths

  length_at : (number place : ℕ) → OneLacksLengthAt rows number place → IsAtSpot Third bytes LengthNotConstant (AtInstruction number place)
  length_at number place (i, row, l, is, of, lacks) =
      let typed = t.typed.each i row l in
      let here = get_or rows i row in
      let rising : ArePlacesRising row.declared.items = subst (λ (x : Typed). ArePlacesRising x.declared.items) (sym is) typed.places.2.rising in
      let lack : LacksLengthAt here place = subst (λ (x : Typed). LacksLengthAt x place) is (lacks rising) in
      let there : slice_get p.methods number ≡ Some typed.member = ap (slice_get p.methods) (sym of ∙ ap (λ (x : Typed). x.number) is) ∙ typed.there in
      let other = not_constructor pool p t.constructor t.codes t.shape rows t.typed i row l in
      (pool, p, t.file, inr (typed.member, there, (other, here.environment, here.code, typed.tables, typed.body, (lack.0, lack.1, lack.2, lack.3, either lack.4))))
    where
      either : (HasLength (get_or rows i row).code place → ⊥) ⊎ Contains (get_or rows i row).declared.items place → (HasLength (get_or rows i row).code place → ⊥) ⊎ HasFrame (view_of pool p) (get_or rows i row).environment (get_or rows i row).code (t.typed.each i row l).tables place
      either (inl none) = inl none
      either (inr has) =
          let places = (t.typed.each i row l).places in
          let there = subst (λ (xs : List ℕ). Contains xs place) places.2.are has in
          inr (places.0, places.1, frame_among places.0 place there.0 place there.1 there.2)

  pub lacking_in : (l : Located) → IsLackingAmong rows l → IsAtSpot Third bytes l.refusal l.spot
  lacking_in l (refusal, number, place, spot, lacks) =
      subst (λ (r : Refusal). IsAtSpot Third bytes r l.spot) (sym refusal) (subst (IsAtSpot Third bytes LengthNotConstant) (sym spot) (length_at number place lacks))

  -- If all array lengths are constant, no `newarray` lacks one.
  pub not_both : HaveLengths rows → OneLacksLength rows → ⊥
  not_both have (i, row, l, is, lacks) =
      let typed = t.typed.each i row l in
      let rising = typed.places.2.rising in
      let lack = lacks (subst (λ (x : Typed). ArePlacesRising x.declared.items) (sym is) rising) in
      let has = subst (λ (x : Typed). (q : ℕ) (y : Placed) (k : ArrayKind) → at_place x.code q ≡ Some y → y.instruction ≡ NewArray k → HasLength x.code q × (Contains x.declared.items q → ⊥)) (sym is) (have i row l rising) in
      let at = has lack.0 lack.1 lack.2 lack.3 lack.4 in
      go at lack.5
    where
      go : {A B : Type 0} → A × (B → ⊥) → (A → ⊥) ⊎ B → ⊥
      go h (inl none) = none h.0
      go h (inr some) = h.1 some

  -- ---- refusals

  pub circle_refused : HaveLengths rows → IsCircleIn rows → IsRefused Third bytes Recursive
  circle_refused lengths circle = go (bounds_refused bytes pool p t.constructor t.codes t.shape t.items t.found rows t.typed t.file Recursive tt (λ _. lengths) (λ h. absurd h) (λ _. circle) (λ e. cc e) (λ e. cc e) (λ c set on are. early_refusal Recursive (λ _. refl) c))
    where
      go : (Recursive ≡ NoMemory) ⊎ IsRefused Third bytes Recursive → IsRefused Third bytes Recursive
      go (inl e) = cc e
      go (inr s) = s

-- ---- explanations of refusals

pub told_refused : (bytes : List ℕ) (l : Located) (r : Result Explained AllocError) → IsToldOf bytes l → IfOk r (λ x. (x ≡ told.Refused l) × (l.refusal ≢ NoMemory)) → IfOk r (IsExplanation bytes)
told_refused bytes l (Err e) is h = tt
told_refused bytes l (Ok x) (inl e) h = absurd (h.1 e)
told_refused bytes l (Ok x) (inr is) h = subst (IsExplanation bytes) (sym h.0) is

-- A refusal of the class as a whole.
pub whole_told : (bytes : List ℕ) (r : Refusal) (l : Located) → l.refusal ≡ r → l.spot ≡ Whole → (r ≡ NoMemory) ⊎ IsRefused Third bytes r → (r ≢ NoMemory → IsOfWhole r) → IsToldOf bytes l
whole_told bytes r l is at (inl e) whole = inl (is ∙ e)
whole_told bytes NoMemory l is at (inr s) whole = inl is
whole_told bytes r l is at (inr s) whole =
    inr (subst (IsRefused Third bytes) (sym is) s, subst (λ (x : Refusal). IsAtSpot Third bytes x l.spot) (sym is) (subst (IsAtSpot Third bytes r) (sym at) (inr (whole (λ e. cc)))))

pub limit_refused : (bytes : List ℕ) (r : Refusal) → IsLimit r → (r ≡ NoMemory) ⊎ IsRefused Third bytes r → IsRefused Third bytes r
limit_refused bytes r h (inl e) = absurd (subst IsLimit e h)
limit_refused bytes r h (inr s) = s

pub other_is_whole : (r : Refusal) → IsOfBounds r → r ≢ LengthNotConstant → r ≢ NoMemory → IsOfWhole r
other_is_whole NoMemory of length memory = absurd (memory refl)
other_is_whole LengthNotConstant of length memory = absurd (length refl)
other_is_whole Recursive of length memory = tt
other_is_whole NoProcess of length memory = tt
other_is_whole StepLimit of length memory = tt
other_is_whole WordLimit of length memory = tt
other_is_whole FrameLimit of length memory = tt
other_is_whole r of length memory = absurd of

module _ (bytes : List ℕ) (pool : List Slot) (p : Parts) (rows : List Typed) (t : IsTypedClass bytes pool p rows) where
  pub recursive_told : (r : Refusal) (l : Located) → l.refusal ≡ r → l.spot ≡ Whole → HaveLengths rows → (r ≢ NoMemory → (r ≡ Recursive) × IsCircleIn rows) → IsToldOf bytes l
  recursive_told NoMemory l is at lengths err = inl is
  recursive_told r l is at lengths err =
      let h = err (λ e. cc e) in
      whole_told bytes r l is at (inr (subst (IsRefused Third bytes) (sym h.0) (circle_refused bytes pool p rows t lengths h.1))) (λ _. subst IsOfWhole (sym h.0) tt)

  pub lacking_told : (l : Located) → IsLackingAmong rows l → (LengthNotConstant ≡ NoMemory) ⊎ IsRefused Third bytes LengthNotConstant → IsToldOf bytes l
  lacking_told l lacks (inl e) = cc e
  lacking_told l lacks (inr s) = inr (subst (IsRefused Third bytes) (sym lacks.0) s, lacking_in bytes pool p rows t l lacks)
