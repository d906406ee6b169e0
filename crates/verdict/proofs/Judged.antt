-- Lemmas about checked instructions and types.
use Rattle.std.proofs.Common.{◌≡◌, ℕ, suc, ◌<◌, true, false, List, [], ◌∷◌, ◌++◌, length, get_or, Some, refl, sym, ap, ◌∙◌, subst, append_assoc, append-nil, arith}
use Rattle.std.specs.Prelude.{Bool, Any, All, map, Result, Ok, Err, IfOk, IsSome, slice_get, option_map}
use Rattle.std.proofs.lemmas.Bool.{false≢true, false_from_ne_true}
use Rattle.std.proofs.lemmas.Option.{slice_get-map}
use Rattle.jtypes.specs.declared.refusal.Refusal.{Refusal}
use Rattle.jtypes.specs.declared.refusal.Refusal.TheVariants.{UnknownMember, BadDescriptor, NoBody, BadCode, ExceptionTable}
use Rattle.constpool.specs.Lookup.{Slot}
use Rattle.classfile.specs.declared.class_file.Member.{Member}
use Rattle.classfile.specs.declared.class_file.Parts.{Parts}
use Rattle.classfile.specs.declared.class_file.CodeParts.{CodeParts}
use Rattle.classfile.specs.View.{ClassView, MethodView, method_view, view_of, tables_of}
use Rattle.decode.specs.declared.instruction.Placed.{Placed}
use Rattle.decode.specs.Code.{IsSequence}
use Rattle.decode.specs.Places.{at_place, CodeStands}
use Rattle.decode.proofs.Runs.{sequence_once}
use Rattle.frames.specs.Frames.{Frame}
use Rattle.frames.specs.declared.frame.Environment.{Environment}
use Rattle.frames.specs.StackMap.{IsDeclared}
use Rattle.frames.specs.Signatures.{method_signature}
use Rattle.typecheck.specs.Typing.{IsWellTyped}
use Rattle.typecheck.specs.Calls.{AreCallsOf}
use Rattle.typecheck.specs.DeclaredPlaces.{ArePlacesOf}
use Rattle.typecheck.specs.declared.typed.Typed.{Typed}
use Rattle.verdict.specs.Shape.{HasCode, is_constructor}
use Rattle.verdict.specs.Shaping.{is_named_process, HasGoodShape, HasGoodMethod, MethodStands}
use Rattle.verdict.specs.Verdict.{is_known, InstructionStands, IsBody}
use Rattle.verdict.specs.Judging.{IsGoodCode, IsFoundIn, HasInstructionsOf, IsTypedRow, AreTyped, numbers_but}
use Rattle.verdict.specs.declared.instructions.Found.{Found}
use Rattle.verdict.proofs.Methods.{any_from, zip_back}
use Rattle.verdict.proofs.Numbered.{map_more}
use Rattle.jtypes.specs.Profile.{Third}

-- ---- instructions

pub good_code : (v : ClassView) (bytes : List ℕ) (code : List Placed) → IsSequence Third v.pool 0 bytes code → ((r : Refusal) → CodeStands Third v.pool bytes r → ⊥) → ((k : ℕ) (d : Placed) → k < length code → is_known v (get_or code k d).instruction ≡ true) → IsGoodCode v bytes code
good_code v bytes code sequence none known = record { sequence = sequence; none_stands = stands }
  where
    stands : (r : Refusal) → InstructionStands Third v bytes r → ⊥
    stands UnknownMember h =
        let same : h.0 ≡ code = sequence_once Third v.pool 0 bytes bytes h.0 code refl h.1 sequence in
        let any = subst (λ (c : List Placed). Any (λ p. is_known v p.instruction ≡ false) c) same h.2 in
        false≢true (sym any.4 ∙ ap (λ (p : Placed). is_known v p.instruction) (sym any.3) ∙ known any.0 any.1 any.2)
    stands r h = none r h

-- ---- types

-- No refusal applies to a method of a class with a good shape.
good_method : (pool : List Slot) (p : Parts) (n : ℕ) (codes : List CodeParts) → HasGoodShape pool p codes n → (k : ℕ) (m : Member) (c : CodeParts) → slice_get p.methods k ≡ Some m → HasCode pool m c → HasGoodMethod pool p m c
good_method pool p n codes shape k m c at has = record { has_code = has; none_stands = none }
  where
    none : (r : Refusal) → MethodStands pool p m r → ⊥
    none BadDescriptor h = shape.none_stands BadDescriptor (any_from _ p.methods k m at h)
    none NoBody h = shape.none_stands NoBody (any_from _ p.methods k m at h)
    none BadCode h = shape.none_stands BadCode (any_from _ p.methods k m at h)
    none ExceptionTable h = shape.none_stands ExceptionTable (any_from _ p.methods k m at h)
    none r h = h

-- The instructions that were found for a method are those of its parts.
pub has_instructions : (pool : List Slot) (p : Parts) (n : ℕ) (codes : List CodeParts) (f : Found) (parts : CodeParts) → HasGoodShape pool p codes n → IsFoundIn (view_of pool p) codes f → slice_get codes f.number ≡ Some parts → (f.number ≡ n → ⊥) → HasInstructionsOf pool p f.number parts f.code
has_instructions pool p n codes f parts shape found here not_it =
    let both : Some found.parts ≡ Some parts = sym found.there ∙ here in
    let same : found.parts ≡ parts = cc both in
    let member = zip_back (HasCode pool) p.methods codes f.number parts shape.codes_are here in
    record {
      member = member.0;
      there = member.1;
      other = false_from_ne_true (is_constructor pool member.0) (λ e. not_it (shape.constructor_is.no_other f.number member.0 member.1 e));
      shaped = good_method pool p n codes shape f.number member.0 parts member.1 member.2;
      good = subst (λ (x : CodeParts). IsGoodCode (view_of pool p) x.code f.code) same found.good;
    }

-- `IsBody` holds of the method whose types are checked.
pub body_judged : (pool : List Slot) (p : Parts) (number : ℕ) (parts : CodeParts) (code : List Placed) → HasInstructionsOf pool p number parts code → (m : Member) → slice_get p.methods number ≡ Some m → (e : Environment) → method_signature (view_of pool p) (method_view pool m) ≡ Some e.signature → e.max_stack ≡ parts.max_stack → e.max_locals ≡ parts.max_locals
    → (tables : List (List ℕ)) → tables ≡ tables_of pool parts → IsBody Third pool p m e code tables
body_judged pool p number parts code h m there e signature stack locals tables are =
    let both : Some h.member ≡ Some m = sym h.there ∙ there in
    let same : h.member ≡ m = cc both in
    record { parts = parts; has_code = subst (λ (x : Member). HasCode pool x parts) same h.shaped.has_code; signature = signature; max_stack = stack; max_locals = locals; sequence = h.good.sequence; tables_are = are }

-- The view at an index of the class view is that of the member at this index.
pub same_view : (pool : List Slot) (p : Parts) (number : ℕ) (m : Member) (w : MethodView) → slice_get p.methods number ≡ Some m → Some w ≡ slice_get (view_of pool p).methods number → method_view pool m ≡ w
same_view pool p number m w there viewed =
    let both : Some (method_view pool m) ≡ Some w = sym (slice_get-map (method_view pool) p.methods number ∙ ap (option_map (method_view pool)) there) ∙ sym viewed in
    cc both

pub row_judged : (pool : List Slot) (p : Parts) (number : ℕ) (code : List Placed) (m : Member) → slice_get p.methods number ≡ Some m → (e : Environment) (tables : List (List ℕ)) → IsBody Third pool p m e code tables → (b : Bool) → b ≡ is_named_process pool m
    → (r : Result Typed Refusal) → IfOk r (λ t. (t.number ≡ number) × (t.is_process ≡ b)) → IfOk r (λ t. (t.environment ≡ e) × (t.code ≡ code))
    → IfOk r (λ _. (ds : List (ℕ × Frame)) × IsDeclared (view_of pool p) e code tables ds × IsWellTyped (view_of pool p) (record { environment = e; code = code; declared = ds })) → IfOk r (λ t. IsSome (at_place t.code 0)) → IfOk r (λ t. AreCallsOf (view_of pool p) t.code t.calls.items)
    → IfOk r (λ t. (ds : List (ℕ × Frame)) × IsDeclared (view_of pool p) e code tables ds × ArePlacesOf ds t.declared.items) → IfOk r (IsTypedRow pool p)
row_judged pool p number code m there e tables made b process (Err r) method body typed starts calls places = tt
row_judged pool p number code m there e tables made b process (Ok t) method body typed starts calls places =
    record {
      member = m;
      there = ap (slice_get p.methods) method.0 ∙ there;
      tables = tables;
      body = subst (λ (x : Environment). IsBody Third pool p m x t.code tables) (sym body.0) (subst (λ (c : List Placed). IsBody Third pool p m e c tables) (sym body.1) made);
      process = method.1 ∙ process;
      starts = starts;
      calls = calls;
      typed = (
        typed.0,
        subst (λ (x : Environment). IsDeclared (view_of pool p) x t.code tables typed.0) (sym body.0) (subst (λ (c : List Placed). IsDeclared (view_of pool p) e c tables typed.0) (sym body.1) typed.1),
        subst (λ (x : Environment). IsWellTyped (view_of pool p) (record { environment = x; code = t.code; declared = typed.0 })) (sym body.0) (subst (λ (c : List Placed). IsWellTyped (view_of pool p) (record { environment = e; code = c; declared = typed.0 })) (sym body.1) typed.2),
      );
      places = (places.0, subst (λ (x : Environment). IsDeclared (view_of pool p) x t.code tables places.0) (sym body.0) (subst (λ (c : List Placed). IsDeclared (view_of pool p) e c tables places.0) (sym body.1) places.1), places.2);
    }

-- ---- `Typed` values in order

pub first_of : {A : Type 0} (P : A → Type 0) (items rest : List A) (x : A) → All P items → items ≡ x ∷ rest → P x
first_of P items rest x h e = subst (All P) e h 0 x (omega arith)

pub rest_of : {A : Type 0} (P : A → Type 0) (items rest : List A) (x : A) → All P items → items ≡ x ∷ rest → All P rest
rest_of P items rest x h e k d l = subst (All P) e h (suc k) d (omega (arith, l))

pub row_added : (rows : List Typed) (row : Typed) (items rest : List Found) (f : Found) (numbers : List ℕ) → map (λ (t : Typed). t.number) rows ++ map (λ (f : Found). f.number) items ≡ numbers → items ≡ f ∷ rest → row.number ≡ f.number → map (λ (t : Typed). t.number) (rows ++ row ∷ []) ++ map (λ (f : Found). f.number) rest ≡ numbers
row_added rows row items rest f numbers h e same =
    let before = map (λ (t : Typed). t.number) rows in
    let behind = map (λ (f : Found). f.number) rest in
    ap (λ (l : List ℕ). l ++ behind) (map_more (λ (t : Typed). t.number) rows row) ∙ append_assoc before (row.number ∷ []) behind ∙ ap (λ (n : ℕ). before ++ n ∷ behind) same ∙ ap (λ (l : List Found). before ++ map (λ (f : Found). f.number) l) (sym e) ∙ h

pub nothing_left : {A : Type 0} (xs : List A) → length xs ≡ 0 → xs ≡ []
nothing_left [] e = refl
nothing_left (x ∷ xs) e = absurd (omega (arith, e))

pub all_rows : (pool : List Slot) (p : Parts) (c n : ℕ) (rows : List Typed) (items : List Found) → map (λ (t : Typed). t.number) rows ++ map (λ (f : Found). f.number) items ≡ numbers_but c n → All (IsTypedRow pool p) rows → items ≡ [] → AreTyped pool p c n rows
all_rows pool p c n rows items h all e = record {
  numbers = sym (append-nil (map (λ (t : Typed). t.number) rows)) ∙ ap (λ (l : List Found). map (λ (t : Typed). t.number) rows ++ map (λ (f : Found). f.number) l) (sym e) ∙ h;
  each = all;
}
