-- The known costs of methods, and the result for the class.
use Rattle.std.proofs.Common.{◌≡◌, ◌≢◌, ℕ, zero, suc, ◌<◌, Bool, true, false, eqb, List, length, get_or, Option, Some, None, refl, sym, ap, ◌∙◌, subst, arith, ◌⊎◌, inl, inr}
use Rattle.std.specs.Prelude.{slice_set, replicate, IsSome, Result, Ok, Err, IfOk}
use Rattle.std.specs.Global.{Vec}
use Rattle.std.proofs.lemmas.Bool.{eqb-true, eqb-false}
use Rattle.std.proofs.lemmas.List.{get_or-set_same, get_or-set_other}
use Rattle.jtypes.specs.declared.refusal.Refusal.{Refusal}
use Rattle.jtypes.specs.declared.refusal.Refusal.TheVariants.{StepLimit, WordLimit, FrameLimit, LengthNotConstant, NoProcess, NoMemory, Recursive}
use Rattle.decode.specs.declared.instruction.Placed.{Placed}
use Rattle.decode.specs.Places.{at_place}
use Rattle.typecheck.specs.Typing.{Class, instruction_at}
use Rattle.typecheck.specs.declared.typed.Typed.{Typed}
use Rattle.bounds.specs.declared.limits.Bounds as declared
use Rattle.bounds.specs.Limits.{Exceeds, Judges}
use Rattle.bounds.specs.Paths.{Cost, Bounds, AreBounds, SomePathTakes, SomePathExceeds, step_limit, word_limit, slot_limit, depth_limit}
use Rattle.bounds.specs.Table.{Costs, IsTable, LeadsOn, bounds_of}
use Rattle.bounds.specs.Cells.{Cell, cut, capped, known_at}
use Rattle.bounds.specs.Rows.{IsRowOf, AreRowsOf, AreKnown, AreAllKnown, IsCostOf, StaysKnown, bounds_in, IsAnswerOf, IsAnswerFor, are_known}
use Rattle.bounds.specs.Told.{AreCostsOf}
use Rattle.bounds.proofs.Greatest.{tables_are_bounds}
use Rattle.bounds.proofs.FilledTables.{each_has_table}
use Rattle.jtypes.specs.Profile.{Third}

-- ---- new costs

pub stays : (row : Typed) (known : List (Option Cell)) → StaysKnown row known known
stays row known c set t on table is member right = right

pub learns : (row : Typed) (known new : List (Option Cell)) (x : Cell) → IsCostOf row known x → are_known known row.calls.items ≡ true → row.number < length known → new ≡ slice_set known row.number (Some x) → StaysKnown row known new
learns row known new x cost ready within same c set t on table is member right = record { each = λ k y e. go k y (eqb k row.number) refl (ap (λ (l : List (Option Cell)). known_at l k) (sym same) ∙ e) }
  where
    go : (k : ℕ) (y : Cell) (b : Bool) → eqb k row.number ≡ b → known_at (slice_set known row.number (Some x)) k ≡ Some y → y ≡ capped (t k 0)
    go k y true at e =
        let here : k ≡ row.number = eqb-true k row.number at in
        let put : known_at (slice_set known row.number (Some x)) k ≡ Some x = subst (λ (n : ℕ). known_at (slice_set known row.number (Some x)) n ≡ Some x) (sym here) (get_or-set_same known row.number (Some x) None within) in
        let both : Some x ≡ Some y = sym put ∙ e in
        let equal : x ≡ y = cc both in
        sym equal ∙ cost c set t on table is member right ready ∙ ap (λ (n : ℕ). capped (t n 0)) (sym here)
    go k y false at e = right.each k y (sym (get_or-set_other known row.number k (Some x) None (eqb-false k row.number at)) ∙ e)

pub nothing_known : (t : Costs) (known : List (Option Cell)) (n : ℕ) → known ≡ replicate n None → AreKnown t known
nothing_known t known n same = record { each = λ k x e. go n k x (ap (λ (l : List (Option Cell)). known_at l k) (sym same) ∙ e) }
  where
    go : (n k : ℕ) (x : Cell) → known_at (replicate n None) k ≡ Some x → x ≡ capped (t k 0)
    go zero zero x e = cc
    go zero (suc k) x e = cc
    go (suc n) zero x e = cc
    go (suc n) (suc k) x e = absurd (none n k x e)
      where
        none : (n k : ℕ) (x : Cell) → known_at (replicate n None) k ≡ Some x → ⊥
        none zero zero x e = cc
        none zero (suc k) x e = cc
        none (suc n) zero x e = cc
        none (suc n) (suc k) x e = none n k x e

pub row_at : (c : Class) (set : ℕ → Bool) (rows : List Typed) (i : ℕ) (row : Typed) → AreRowsOf c set rows → i < length rows → row ≡ get_or rows i row → IsRowOf c row
row_at c set rows i row are l e = subst (IsRowOf c) (sym e) (are.each i row l)

pub row_within : (c : Class) (set : ℕ → Bool) (rows : List Typed) (i : ℕ) (row : Typed) → AreRowsOf c set rows → i < length rows → row ≡ get_or rows i row → set row.number ≡ true
row_within c set rows i row are l e = subst (λ (r : Typed). set r.number ≡ true) (sym e) (are.within i row l)

-- ---- the result

abbrev made : ℕ → ℕ → ℕ → ℕ → Bounds
made s w x d = record { steps = s; words = w; slots = x; depth = d }

same_bounds : (a b : Bounds) → a.steps ≡ b.steps → a.words ≡ b.words → a.slots ≡ b.slots → a.depth ≡ b.depth → a ≡ b
same_bounds a b s w x d = ap (λ n. made n a.words a.slots a.depth) s ∙ ap (λ n. made b.steps n a.slots a.depth) w ∙ ap (λ n. made b.steps b.words n a.depth) x ∙ ap (λ n. made b.steps b.words b.slots n) d

exceeds : (c : Class) (j n limit cell : ℕ) (measure : Cost → ℕ) → SomePathTakes c j measure n → cell ≡ cut n → limit < cell → SomePathExceeds c j measure limit
exceeds c j n limit cell measure (k, path, is) e l = (k, path, omega (arith, is, e, l))

judged : (c : Class) (j : ℕ) (k : Cost) (x : Cell) (r : Result declared.Bounds Refusal) → AreBounds c j (bounds_of k) → x ≡ capped k → Judges x r → IsAnswerOf c j r
judged c j k x (Ok b) are same (within, steps, words, slots, depth) =
    let s : x.steps ≡ cut k.steps = ap (λ (y : Cell). y.steps) same in
    let w : x.words ≡ cut k.words = ap (λ (y : Cell). y.words) same in
    let u : x.slots ≡ cut k.slots = ap (λ (y : Cell). y.slots) same in
    let d : x.depth ≡ cut k.depth = ap (λ (y : Cell). y.depth) same in
    let s' = within.steps in
    let w' = within.words in
    let u' = within.slots in
    let d' = within.depth in
    subst (AreBounds c j) (same_bounds (bounds_of k) (bounds_in b) (omega (arith, s, s', steps)) (omega (arith, w, w', words)) (omega (arith, u, u', slots)) (omega (arith, d, d', depth))) are
judged c j k x (Err r) are same exceeding = record {
  steps = λ e. exceeds c j k.steps (step_limit Third) x.steps (λ y. y.steps) are.steps (ap (λ (y : Cell). y.steps) same) (subst (Exceeds x) e exceeding);
  words = λ e. exceeds c j k.words word_limit x.words (λ y. y.words) are.words (ap (λ (y : Cell). y.words) same) (subst (Exceeds x) e exceeding);
  frames = λ e. either (subst (Exceeds x) e exceeding);
}
  where
    either : (slot_limit < x.slots) ⊎ (depth_limit < x.depth) → SomePathExceeds c j (λ y. y.slots) slot_limit ⊎ SomePathExceeds c j (λ y. y.depth) depth_limit
    either (inl l) = inl (exceeds c j k.slots slot_limit x.slots (λ y. y.slots) are.slots (ap (λ (y : Cell). y.slots) same) l)
    either (inr l) = inr (exceeds c j k.depth depth_limit x.depth (λ y. y.depth) are.depth (ap (λ (y : Cell). y.depth) same) l)

-- the result for `process`, whose cost is known
pub answers : (rows : List Typed) (i : ℕ) (row : Typed) (known : List (Option Cell)) (x : Cell) (r : Result declared.Bounds Refusal) → i < length rows → row ≡ get_or rows i row → row.is_process ≡ true
    → ((c : Class) (set : ℕ → Bool) (t : Costs) → LeadsOn c set → IsTable c set t → AreRowsOf c set rows → AreKnown t known) → Some x ≡ known_at known row.number → Judges x r
    → (c : Class) (set : ℕ → Bool) → LeadsOn c set → AreRowsOf c set rows → IsAnswerFor c r
answers rows i row known x r l e process right at judges c set on are j named =
    let filled = each_has_table c set on in
    let t = filled.0 in
    let is : IsRowOf c row = row_at c set rows i row are l e in
    let member : set row.number ≡ true = row_within c set rows i row are l e in
    let inside : IsSome (instruction_at is.method.0 0) = subst (λ (code : List Placed). IsSome (at_place code 0)) (sym is.method.3) is.starts in
    let bounds : AreBounds c row.number (bounds_of (t row.number 0)) = tables_are_bounds c set t row.number is.method.0 on filled.1 member is.method.1 inside in
    let both : Some row.number ≡ Some j = sym (is.process process) ∙ named in
    let same : row.number ≡ j = cc both in
    subst (λ (n : ℕ). IsAnswerOf c n r) same (judged c row.number (t row.number 0) x r bounds ((right c set t on filled.1 are).each row.number x (sym at)) judges)

-- any refusal other than a limit's satisfies `IsAnswerFor`
pub other_refusal : (r : Refusal) → r ≢ StepLimit → r ≢ WordLimit → r ≢ FrameLimit → (c : Class) → IsAnswerFor c (Err r)
other_refusal r s w f c j named = record { steps = λ e. absurd (s e); words = λ e. absurd (w e); frames = λ e. absurd (f e) }

pub early_refusal : (r : Refusal) → (r ≢ NoMemory → r ≡ Recursive) → (c : Class) → IsAnswerFor c (Err r)
early_refusal r h = other_refusal r
    (λ e. let k : r ≢ NoMemory = λ f. cc in let g = h k in cc)
    (λ e. let k : r ≢ NoMemory = λ f. cc in let g = h k in cc)
    (λ e. let k : r ≢ NoMemory = λ f. cc in let g = h k in cc)

pub length_refusal : (c : Class) → IsAnswerFor c (Err LengthNotConstant)
length_refusal = other_refusal LengthNotConstant (λ e. cc) (λ e. cc) (λ e. cc)

pub process_refusal : (c : Class) → IsAnswerFor c (Err NoProcess)
process_refusal = other_refusal NoProcess (λ e. cc) (λ e. cc) (λ e. cc)

-- ---- the costs of each method

known_is : {A : Type 0} (o : Option A) → IsSome o → (x : A) × (o ≡ Some x)
known_is None s = cc
known_is (Some x) s = (x, refl)

pub told : (rows : List Typed) (known : List (Option Cell)) → ((c : Class) (set : ℕ → Bool) (t : Costs) → LeadsOn c set → IsTable c set t → AreRowsOf c set rows → AreKnown t known) → AreAllKnown rows known
    → (c : Class) (set : ℕ → Bool) → LeadsOn c set → AreRowsOf c set rows → AreCostsOf c rows known
told rows known right all c set on are i d l =
    let filled = each_has_table c set on in
    let t = filled.0 in
    let row = get_or rows i d in
    let is : IsRowOf c row = are.each i d l in
    let inside : IsSome (instruction_at is.method.0 0) = subst (λ (code : List Placed). IsSome (at_place code 0)) (sym is.method.3) is.starts in
    let bounds : AreBounds c row.number (bounds_of (t row.number 0)) = tables_are_bounds c set t row.number is.method.0 on filled.1 (are.within i d l) is.method.1 inside in
    let found = known_is (known_at known row.number) (all i d l) in
    let same : found.0 ≡ capped (t row.number 0) = (right c set t on filled.1 are).each row.number found.0 found.1 in
    (t row.number 0, bounds, found.1 ∙ ap (λ (x : Cell). Some x) same)

pub told_ok : (rows : List Typed) (r : Result (Vec (Option Cell)) Refusal) → IfOk r (λ known. (c : Class) (set : ℕ → Bool) (t : Costs) → LeadsOn c set → IsTable c set t → AreRowsOf c set rows → AreKnown t known.items) → IfOk r (λ known. AreAllKnown rows known.items)
    → IfOk r (λ known. (c : Class) (set : ℕ → Bool) → LeadsOn c set → AreRowsOf c set rows → AreCostsOf c rows known.items)
told_ok rows (Ok known) right all = told rows known.items right all
told_ok rows (Err e) right all = tt
