-- Lemmas for the loop that parses the parameter types.
use Rattle.std.proofs.Common.{◌≡◌, ◌≢◌, ℕ, ◌+◌, ◌≤◌, ◌<◌, zero, suc, Bool, true, false, List, [], ◌∷◌, ◌++◌, length, Option, Some, None, option_map, Result, Ok, Err, eqb, refl, sym, ap, subst, ◌∙◌, arith, append_assoc, length-append, inl, inr, ◌⊎◌, codes}
use Rattle.std.proofs.lemmas.Bool.{eqb-true, eqb-false}
use Rattle.std.proofs.lemmas.List.{append-nil}
use Rattle.std.proofs.lemmas.List.Elements.{All-nil, All-cons}
use Rattle.std.specs.List.{All}
use Rattle.jtypes.specs.declared.refusal.Refusal.{Refusal}
use Rattle.jtypes.specs.declared.refusal.Refusal.TheVariants.{BadDescriptor}
use Rattle.jtypes.specs.Layout.{and_then, Fails}
use Rattle.jtypes.specs.Lists.{after_front, ◌>>=◌}
use Rattle.jtypes.proofs.Many.{with_front, fails_along}
use Rattle.constpool.specs.declared.descriptor.FieldType.{FieldType}
use Rattle.constpool.specs.declared.descriptor.FieldType.TheVariants.{Int, Long, Boolean, IntArray, LongArray, ObjectArray, Class}
use Rattle.constpool.specs.declared.descriptor.Sig.{Sig}
use Rattle.constpool.specs.Descriptor.{type_text, IsNamed, before_semicolon, named, or_else, read_class_type, read_fixed, read_type, read_params, read_result, sig_of}
use Rattle.constpool.specs.Parsing.{parsed}
use Rattle.constpool.proofs.Fronts.{front_of}

pub or_else_cases : {A : Type 0} (a b : Option A) (x : A) → or_else a b ≡ Some x → (a ≡ Some x) ⊎ (b ≡ Some x)
or_else_cases (Some y) b x e = inl e
or_else_cases None b x e = inr e

pub bound : {A B : Type 0} (o : Option A) (f : A → Option B) (y : B) → (o >>= f) ≡ Some y → (x : A) × (o ≡ Some x) × (f x ≡ Some y)
bound (Some x) f y e = (x, refl, e)
bound None f y e = absurd cc

mapped : {A B : Type 0} (f : A → B) (o : Option A) (y : B) → option_map f o ≡ Some y → (x : A) × (o ≡ Some x) × (f x ≡ y)
mapped f (Some x) y e = (x, refl, cc)
mapped f None y e = absurd cc

-- `IsRead` holds if the bytes begin with the text of the type, whose class name is valid
abbrev pub IsRead : List ℕ → FieldType × List ℕ → Type 0
IsRead bytes p = (bytes ≡ type_text p.0 ++ p.1) × IsNamed p.0

fixed_read : (t : FieldType) (bytes : List ℕ) (p : FieldType × List ℕ) → IsNamed t → read_fixed t bytes ≡ Some p → IsRead bytes p
fixed_read t bytes p n e =
    let m = mapped (λ (rest : List ℕ). (t, rest)) (after_front (type_text t) bytes) p e in
    subst (λ (q : FieldType × List ℕ). IsRead bytes q) m.2 (front_of (type_text t) bytes m.0 m.1, n)

-- ---- a class by its name

abbrev pub IsCutAt : List ℕ → List ℕ × List ℕ → Type 0
IsCutAt bytes p = (bytes ≡ p.0 ++ 59 ∷ p.1) × All (λ b. b ≢ 59) p.0

cut_by : (b : ℕ) (bytes : List ℕ) (p : List ℕ × List ℕ) (z : Bool) → eqb b 59 ≡ z → before_semicolon (b ∷ bytes) ≡ Some p → ((q : List ℕ × List ℕ) → before_semicolon bytes ≡ Some q → IsCutAt bytes q) → IsCutAt (b ∷ bytes) p
cut_by b bytes p true h e more =
    let here : Some ([], bytes) ≡ Some p = rw h at e in
    let same : ([], bytes) ≡ p = cc in
    let first : b ≡ 59 = eqb-true b 59 h in
    subst (λ (q : List ℕ × List ℕ). IsCutAt (b ∷ bytes) q) same (rw first refl, All-nil (λ b. b ≢ 59))
cut_by b bytes p false h e more =
    let later = mapped (λ (q : List ℕ × List ℕ). (b ∷ q.0, q.1)) (before_semicolon bytes) p (rw h at e) in
    let found = more later.0 later.1 in
    subst (λ (q : List ℕ × List ℕ). IsCutAt (b ∷ bytes) q) later.2 (rw (← found.0) refl, All-cons (λ b. b ≢ 59) b later.0.0 (eqb-false b 59 h) found.1)

cut_found : (bytes : List ℕ) (p : List ℕ × List ℕ) → before_semicolon bytes ≡ Some p → IsCutAt bytes p
cut_found [] p e = absurd cc
cut_found (b ∷ bytes) p e = cut_by b bytes p (eqb b 59) refl e (cut_found bytes)

named_read : (bytes : List ℕ) (p : List ℕ × List ℕ) (q : FieldType × List ℕ) → bytes ≡ 76 ∷ p.0 ++ 59 ∷ p.1 → All (λ b. b ≢ 59) p.0 → named p ≡ Some q → IsRead bytes q
named_read bytes ([], rest) q h n e = absurd cc
named_read bytes (b ∷ name, rest) q h n e =
    let same : (Class (b ∷ name), rest) ≡ q = cc in
    subst (λ (r : FieldType × List ℕ). IsRead bytes r) same (h ∙ simp append_assoc, ((λ k. absurd cc), n))

class_read : (bytes : List ℕ) (p : FieldType × List ℕ) → read_class_type bytes ≡ Some p → IsRead bytes p
class_read bytes p e =
    let one = bound (after_front (codes "L") bytes) (λ rest. before_semicolon rest >>= named) p e in
    let two = bound (before_semicolon one.0) named p one.2 in
    let cut = cut_found one.0 two.0 two.1 in
    let text : bytes ≡ 76 ∷ one.0 = front_of (codes "L") bytes one.0 one.1 in
    named_read bytes two.0 p (text ∙ ap (λ (t : List ℕ). 76 ∷ t) cut.0) cut.1 two.2

pub type_read : (bytes : List ℕ) (p : FieldType × List ℕ) → read_type bytes ≡ Some p → IsRead bytes p
unfolding read_type
type_read bytes p e =
    elim (or_else_cases (read_fixed Int bytes) _ p e) [
      | inl h ↦ fixed_read Int bytes p tt h
      | inr h1 ↦ elim (or_else_cases (read_fixed Long bytes) _ p h1) [
        | inl h ↦ fixed_read Long bytes p tt h
        | inr h2 ↦ elim (or_else_cases (read_fixed Boolean bytes) _ p h2) [
          | inl h ↦ fixed_read Boolean bytes p tt h
          | inr h3 ↦ elim (or_else_cases (read_fixed IntArray bytes) _ p h3) [
            | inl h ↦ fixed_read IntArray bytes p tt h
            | inr h4 ↦ elim (or_else_cases (read_fixed LongArray bytes) _ p h4) [
              | inl h ↦ fixed_read LongArray bytes p tt h
              | inr h5 ↦ elim (or_else_cases (read_fixed ObjectArray bytes) (read_class_type bytes) p h5) [
                | inl h ↦ fixed_read ObjectArray bytes p tt h
                | inr h ↦ class_read bytes p h
              ]
            ]
          ]
        ]
      ]
    ]

pub text_length : (t : FieldType) → 0 < length (type_text t)
text_length Int = omega arith
text_length Long = omega arith
text_length Boolean = omega arith
text_length IntArray = omega arith
text_length LongArray = omega arith
text_length ObjectArray = omega arith
text_length (Class name) = omega arith

-- a parsed type has at least one byte
pub shorter : (bytes rest : List ℕ) (t : FieldType) → read_type bytes ≡ Some (t, rest) → length rest < length bytes
shorter bytes rest t e =
    let r = type_read bytes (t, rest) e in
    let n : length bytes ≡ length (type_text t) + length rest = ap length r.0 ∙ length-append (type_text t) rest in
    omega (arith, text_length t)

-- ---- the parameters

pub closed : (most : ℕ) (bytes after : List ℕ) → after_front (codes ")") bytes ≡ Some after → read_params most bytes ≡ Some ([], after)
unfolding read_params
closed zero bytes after e = rw (front_of (codes ")") bytes after e) refl
closed (suc most) bytes after e = rw (front_of (codes ")") bytes after e) refl

open_by : (most : ℕ) (b : ℕ) (bytes : List ℕ) (z : Bool) → eqb b 41 ≡ z → after_front (codes ")") (b ∷ bytes) ≡ None → read_params (suc most) (b ∷ bytes) ≡ (read_type (b ∷ bytes) >>= λ t. read_params most t.1 >>= λ ts. Some (t.0 ∷ ts.0, ts.1))
unfolding read_params
open_by most b bytes true h e =
    let one : b ≡ 41 = eqb-true b 41 h in
    let none : after_front (codes ")") (41 ∷ bytes) ≡ None = rw one at e in
    absurd cc
open_by most b bytes false h e = rw h refl

-- without a closing parenthesis, the next bytes are parsed as a type
pub opened : (most : ℕ) (b : ℕ) (bytes : List ℕ) → after_front (codes ")") (b ∷ bytes) ≡ None → read_params (suc most) (b ∷ bytes) ≡ (read_type (b ∷ bytes) >>= λ t. read_params most t.1 >>= λ ts. Some (t.0 ∷ ts.0, ts.1))
opened most b bytes e = open_by most b bytes (eqb b 41) refl e

bind_parsed : {A B : Type 0} (o : Option A) (f : A → Option B) → parsed (o >>= f) ≡ and_then (parsed o) (λ x. parsed (f x))
bind_parsed (Some x) f = refl
bind_parsed None f = refl

-- `Reads` holds if the types parsed before and those of `rest`, at most `most`, give the total
abbrev pub Reads : List FieldType → ℕ → List ℕ → Result (List FieldType × List ℕ) Refusal → Type 0
Reads front most rest total = (length rest ≤ most) × (with_front front (parsed (read_params most rest)) ≡ total)

pub begins : (bytes : List ℕ) → Reads [] (length bytes) bytes (parsed (read_params (length bytes) bytes))
begins bytes = (omega arith, go (parsed (read_params (length bytes) bytes)))
  where
    go : (read : Result (List FieldType × List ℕ) Refusal) → with_front [] read ≡ read
    go (Ok x) = refl
    go (Err e) = refl

pub parsed_ok : {A : Type 0} (o : Option A) (x : A) → parsed o ≡ Ok x → o ≡ Some x
parsed_ok (Some y) x e = cc
parsed_ok None x e = absurd cc

regroup : (front : List FieldType) (t : FieldType) (o : Option (List FieldType × List ℕ)) → with_front (front ++ t ∷ []) (parsed o) ≡ with_front front (parsed (o >>= λ ts. Some (t ∷ ts.0, ts.1)))
regroup front t (Some x) = ap (λ (ts : List FieldType). Ok (ts, x.1)) (simp append_assoc)
regroup front t None = refl

pub goes_on : (front : List FieldType) (most more : ℕ) (rest after : List ℕ) (t : FieldType) (total : Result (List FieldType × List ℕ) Refusal) → after_front (codes ")") rest ≡ None → 0 < length rest → parsed (read_type rest) ≡ Ok (t, after) → suc more ≡ most
    → Reads front most rest total → Reads (front ++ t ∷ []) more after total
goes_on front most more [] after t total none n h k so_far = absurd (omega (arith, n))
goes_on front most more (b ∷ rest) after t total none n h k so_far =
    let read : read_type (b ∷ rest) ≡ Some (t, after) = parsed_ok (read_type (b ∷ rest)) (t, after) h in
    let less : length after < length (b ∷ rest) = shorter (b ∷ rest) after t read in
    let enough : length after ≤ more = omega (arith, so_far.0) in
    let one : read_params most (b ∷ rest) ≡ (read_params more after >>= λ ts. Some (t ∷ ts.0, ts.1)) = rw (← k, opened more b rest none, read) refl in
    let before : with_front front (parsed (read_params more after >>= λ ts. Some (t ∷ ts.0, ts.1))) ≡ total = rw one at so_far.1 in
    (enough, regroup front t (read_params more after) ∙ before)

pub ends : (e : Refusal) (front : List FieldType) (most : ℕ) (rest : List ℕ) (total : Result (List FieldType × List ℕ) Refusal) → after_front (codes ")") rest ≡ None → 0 < length rest → Fails e (parsed (read_type rest)) → Reads front most rest total → Fails e total
ends e front most [] total none n h so_far = absurd (omega (arith, n))
ends e front zero (b ∷ rest) total none n h so_far = absurd (omega (arith, so_far.0))
ends e front (suc most) (b ∷ rest) total none n h so_far =
    let next : FieldType × List ℕ → Option (List FieldType × List ℕ) = λ t. (read_params most t.1 >>= λ ts. Some (t.0 ∷ ts.0, ts.1)) in
    let one : parsed (read_params (suc most) (b ∷ rest)) ≡ and_then (parsed (read_type (b ∷ rest))) (λ x. parsed (next x)) = ap parsed (opened most b rest none) ∙ bind_parsed (read_type (b ∷ rest)) next in
    let two : Fails e (with_front front (parsed (read_params (suc most) (b ∷ rest)))) = rw one (fails_along e _ _ (fails_along e _ _ h)) in
    rw so_far.1 at two

pub is_closed : (front : List FieldType) (most : ℕ) (rest after : List ℕ) (total : Result (List FieldType × List ℕ) Refusal) → after_front (codes ")") rest ≡ Some after → Reads front most rest total → total ≡ Ok (front, after)
is_closed front most rest after total h so_far =
    let one : read_params most rest ≡ Some ([], after) = closed most rest after h in
    sym so_far.1 ∙ rw one (ap (λ (ts : List FieldType). Ok (ts, after)) (append-nil front))

pub is_cut : (front : List FieldType) (most : ℕ) (rest : List ℕ) (total : Result (List FieldType × List ℕ) Refusal) → rest ≡ [] → Reads front most rest total → total ≡ Err BadDescriptor
unfolding read_params
is_cut front zero [] total none so_far = sym so_far.1
is_cut front (suc most) [] total none so_far = sym so_far.1
is_cut front most (b ∷ rest) total none so_far = absurd cc

-- ---- the result

-- a `V` with bytes after it is no result type
pub void_trails : (bytes rest : List ℕ) → after_front (codes "V") bytes ≡ Some rest → 0 < length rest → read_result bytes ≡ None
unfolding read_type
void_trails bytes [] e n = absurd (omega (arith, n))
void_trails bytes (r ∷ rest) e n = rw (front_of (codes "V") bytes (r ∷ rest) e) refl

-- a refusal of the result type is a refusal of the descriptor
pub signature_fails : (e : Refusal) (bytes rest after : List ℕ) (params : List FieldType) → after_front (codes "(") bytes ≡ Some rest → parsed (read_params (length rest) rest) ≡ Ok (params, after) → Fails e (parsed (read_result after)) → Fails e (parsed (sig_of bytes))
unfolding sig_of
signature_fails e bytes rest after params begun found h =
    let made : Option FieldType → Option Sig = λ r. Some (record { params = params; result = r }) in
    rw (begun, parsed_ok (read_params (length rest) rest) (params, after) found, bind_parsed (read_result after) made) (fails_along e _ _ h)

-- ---- the test for no bytes

pub not_empty : (rest : List ℕ) (b : Bool) → b ≡ eqb (length rest) 0 → b ≡ false → 0 < length rest
not_empty rest b e f =
    let n : length rest ≢ 0 = eqb-false (length rest) 0 (sym e ∙ f) in
    omega arith

pub empty : (rest : List ℕ) (b : Bool) → b ≡ eqb (length rest) 0 → b ≡ true → rest ≡ []
empty [] b e t = refl
empty (r ∷ rest) b e t =
    let n : suc (length rest) ≡ 0 = eqb-true (suc (length rest)) 0 (sym e ∙ t) in
    absurd (omega (arith, n))
