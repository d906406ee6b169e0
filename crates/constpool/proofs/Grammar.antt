-- The parser of descriptors gives exactly the signatures of the grammar.
use Rattle.std.proofs.Common.{◌≡◌, ◌≢◌, ℕ, ◌≤◌, zero, suc, Bool, true, false, List, [], ◌∷◌, ◌++◌, length, Option, Some, None, eqb, refl, sym, ap, subst, ◌∙◌, arith, append_assoc, length-append, inl, inr, codes}
use Rattle.std.proofs.lemmas.Bool.{eqb-true, ne_eqb}
use Rattle.std.proofs.lemmas.List.{append-nil}
use Rattle.std.proofs.lemmas.List.Elements.{All-nil, All-cons, All-head, All-tail}
use Rattle.std.specs.List.{All}
use Rattle.jtypes.specs.Lists.{after_front, ◌>>=◌}
use Rattle.constpool.specs.declared.descriptor.FieldType.{FieldType}
use Rattle.constpool.specs.declared.descriptor.FieldType.TheVariants.{Int, Long, Boolean, IntArray, LongArray, ObjectArray, Class}
use Rattle.constpool.specs.declared.descriptor.Sig.{Sig}
use Rattle.constpool.specs.Descriptor.{type_text, types_text, result_text, sig_text, IsNamed, IsResult, IsDescriptor, before_semicolon, whole, read_type, read_params, read_result, sig_of}
use Rattle.constpool.proofs.Fronts.{front_of, only_if_some}
use Rattle.constpool.proofs.Params.{or_else_cases, bound, type_read, text_length}

-- ---- a parsed text is a descriptor

abbrev pub AreRead : List ℕ → List FieldType × List ℕ → Type 0
AreRead bytes p = (bytes ≡ types_text p.0 ++ 41 ∷ p.1) × All IsNamed p.0

closed_found : (b : ℕ) (bytes : List ℕ) (p : List FieldType × List ℕ) → eqb b 41 ≡ true → (let o : Option (List FieldType × List ℕ) = Some ([], bytes) in o ≡ Some p) → AreRead (b ∷ bytes) p
closed_found b bytes p h e =
    let same : ([], bytes) ≡ p = cc in
    let first : b ≡ 41 = eqb-true b 41 h in
    subst (λ (q : List FieldType × List ℕ). AreRead (b ∷ bytes) q) same (rw first refl, All-nil IsNamed)

one_more : (bytes after rest : List ℕ) (t : FieldType) (ts : List FieldType) (p : List FieldType × List ℕ) → (bytes ≡ type_text t ++ after) × IsNamed t → AreRead after (ts, rest) → (let q : List FieldType × List ℕ = (t ∷ ts, rest) in q ≡ p) → AreRead bytes p
one_more bytes after rest t ts p head tail same =
    let text : bytes ≡ types_text (t ∷ ts) ++ 41 ∷ rest = head.0 ∙ ap (λ (x : List ℕ). type_text t ++ x) tail.0 ∙ sym (append_assoc (type_text t) (types_text ts) (41 ∷ rest)) in
    subst (λ (q : List FieldType × List ℕ). AreRead bytes q) same (text, All-cons IsNamed t ts head.1 tail.1)

params_by : (most b : ℕ) (bytes : List ℕ) (p : List FieldType × List ℕ) (z : Bool) → eqb b 41 ≡ z → read_params (suc most) (b ∷ bytes) ≡ Some p → ((after : List ℕ) (q : List FieldType × List ℕ) → read_params most after ≡ Some q → AreRead after q) → AreRead (b ∷ bytes) p
unfolding read_params
params_by most b bytes p true h e more = closed_found b bytes p h (rw h at e)
params_by most b bytes p false h e more =
    let one = bound (read_type (b ∷ bytes)) (λ t. read_params most t.1 >>= λ ts. Some (t.0 ∷ ts.0, ts.1)) p (rw h at e) in
    let two = bound (read_params most one.0.1) (λ ts. Some (one.0.0 ∷ ts.0, ts.1)) p one.2 in
    one_more (b ∷ bytes) one.0.1 two.0.1 one.0.0 two.0.0 p (type_read (b ∷ bytes) one.0 one.1) (more one.0.1 two.0 two.1) cc

params_found : (most : ℕ) (bytes : List ℕ) (p : List FieldType × List ℕ) → read_params most bytes ≡ Some p → AreRead bytes p
unfolding read_params
params_found zero [] p e = absurd cc
params_found (suc most) [] p e = absurd cc
params_found zero (b ∷ bytes) p e = let c = only_if_some (eqb b 41) (Some ([], bytes)) p e in closed_found b bytes p c.0 c.1
params_found (suc most) (b ∷ bytes) p e = params_by most b bytes p (eqb b 41) refl e (params_found most)

whole_found : {A : Type 0} (x y : A) (rest : List ℕ) → whole (x, rest) ≡ Some y → (rest ≡ []) × (x ≡ y)
whole_found x y [] e = (refl, cc)
whole_found x y (b ∷ rest) e = absurd cc

void_found : (bytes rest : List ℕ) (r : Option FieldType) → after_front (codes "V") bytes ≡ Some rest → whole (None, rest) ≡ Some r → (bytes ≡ result_text r) × IsResult r
void_found bytes rest r h e =
    let end = whole_found None r rest e in
    let text : bytes ≡ codes "V" = front_of (codes "V") bytes rest h ∙ ap (λ (t : List ℕ). codes "V" ++ t) end.0 in
    subst (λ (q : Option FieldType). (bytes ≡ result_text q) × IsResult q) end.1 (text, tt)

some_found : (bytes rest : List ℕ) (t : FieldType) (r : Option FieldType) → (bytes ≡ type_text t ++ rest) × IsNamed t → whole (Some t, rest) ≡ Some r → (bytes ≡ result_text r) × IsResult r
some_found bytes rest t r h e =
    let end = whole_found (Some t) r rest e in
    let text : bytes ≡ type_text t = h.0 ∙ ap (λ (x : List ℕ). type_text t ++ x) end.0 ∙ append-nil (type_text t) in
    subst (λ (q : Option FieldType). (bytes ≡ result_text q) × IsResult q) end.1 (text, h.1)

result_found : (bytes : List ℕ) (r : Option FieldType) → read_result bytes ≡ Some r → (bytes ≡ result_text r) × IsResult r
result_found bytes r e =
    elim (or_else_cases (after_front (codes "V") bytes >>= λ rest. whole (None, rest)) (read_type bytes >>= λ t. whole (Some t.0, t.1)) r e) [
      | inl h ↦
          let one = bound (after_front (codes "V") bytes) (λ rest. whole (None, rest)) r h in
          void_found bytes one.0 r one.1 one.2
      | inr h ↦
          let one = bound (read_type bytes) (λ t. whole (Some t.0, t.1)) r h in
          some_found bytes one.0.1 one.0.0 r (type_read bytes one.0 one.1) one.2
    ]

abbrev made : List FieldType → Option FieldType → Option Sig
made ps r = Some (record { params = ps; result = r })

descriptor_found : (bytes rest after : List ℕ) (ps : List FieldType) (r : Option FieldType) (s : Sig) → bytes ≡ 40 ∷ rest → AreRead rest (ps, after) → (after ≡ result_text r) × IsResult r → (let t : Sig = record { params = ps; result = r } in t ≡ s) → IsDescriptor bytes s
descriptor_found bytes rest after ps r s begun found end same =
    let t : Sig = record { params = ps; result = r } in
    let text : bytes ≡ sig_text t = rw (begun, found.0, end.0) (simp append_assoc) in
    subst (λ (u : Sig). IsDescriptor bytes u) same (record { text = text; params = found.1; result = end.1 })

pub sig_found : (bytes : List ℕ) (s : Sig) → sig_of bytes ≡ Some s → IsDescriptor bytes s
unfolding sig_of
sig_found bytes s e =
    let one = bound (after_front (codes "(") bytes) (λ rest. read_params (length rest) rest >>= λ p. read_result p.1 >>= λ r. made p.0 r) s e in
    let two = bound (read_params (length one.0) one.0) (λ p. read_result p.1 >>= λ r. made p.0 r) s one.2 in
    let three = bound (read_result two.0.1) (λ r. made two.0.0 r) s two.2 in
    descriptor_found bytes one.0 two.0.1 two.0.0 three.0 s (front_of (codes "(") bytes one.0 one.1) (params_found (length one.0) one.0 two.0 two.1) (result_found two.0.1 three.0 three.1) cc

-- ---- a descriptor is parsed

cut_again : (name rest : List ℕ) → All (λ b. b ≢ 59) name → before_semicolon ((name ++ 59 ∷ []) ++ rest) ≡ Some (name, rest)
cut_again [] rest n = refl
cut_again (b ∷ name) rest n = rw (ne_eqb b 59 (All-head (λ b. b ≢ 59) b name n), cut_again name rest (All-tail (λ b. b ≢ 59) b name n)) refl

type_again : (t : FieldType) (rest : List ℕ) → IsNamed t → read_type (type_text t ++ rest) ≡ Some (t, rest)
unfolding read_type
type_again Int rest n = refl
type_again Long rest n = refl
type_again Boolean rest n = refl
type_again IntArray rest n = refl
type_again LongArray rest n = refl
type_again ObjectArray rest n = refl
type_again (Class []) rest n = absurd (n.0 refl)
type_again (Class (b ∷ name)) rest n = rw (cut_again (b ∷ name) rest n.1) refl

opens : (t : FieldType) (most : ℕ) (rest : List ℕ) → read_params (suc most) (type_text t ++ rest) ≡ (read_type (type_text t ++ rest) >>= λ t. read_params most t.1 >>= λ ts. Some (t.0 ∷ ts.0, ts.1))
unfolding read_params
opens Int most rest = refl
opens Long most rest = refl
opens Boolean most rest = refl
opens IntArray most rest = refl
opens LongArray most rest = refl
opens ObjectArray most rest = refl
opens (Class name) most rest = refl

params_again : (ts : List FieldType) (most : ℕ) (rest : List ℕ) → All IsNamed ts → length (types_text ts) ≤ most → read_params most (types_text ts ++ 41 ∷ rest) ≡ Some (ts, rest)
unfolding read_params
params_again [] zero rest n le = refl
params_again [] (suc most) rest n le = refl
params_again (t ∷ ts) zero rest n le = absurd (omega (arith, text_length t, length-append (type_text t) (types_text ts)))
params_again (t ∷ ts) (suc most) rest n le =
    let enough : length (types_text ts) ≤ most = omega (arith, text_length t, length-append (type_text t) (types_text ts)) in
    let text : types_text (t ∷ ts) ++ 41 ∷ rest ≡ type_text t ++ (types_text ts ++ 41 ∷ rest) = append_assoc (type_text t) (types_text ts) (41 ∷ rest) in
    let more = params_again ts most rest (All-tail IsNamed t ts n) enough in
    rw (text, opens t most (types_text ts ++ 41 ∷ rest), type_again t (types_text ts ++ 41 ∷ rest) (All-head IsNamed t ts n), more) refl

no_void : (t : FieldType) (rest : List ℕ) → after_front (codes "V") (type_text t ++ rest) ≡ None
no_void Int rest = refl
no_void Long rest = refl
no_void Boolean rest = refl
no_void IntArray rest = refl
no_void LongArray rest = refl
no_void ObjectArray rest = refl
no_void (Class name) rest = refl

result_text_again : (t : FieldType) (text : List ℕ) → text ≡ type_text t ++ [] → IsNamed t → read_result text ≡ Some (Some t)
result_text_again t text e n = rw (e, no_void t [], type_again t [] n) refl

result_again : (r : Option FieldType) → IsResult r → read_result (result_text r) ≡ Some r
result_again None n = refl
result_again (Some t) n = result_text_again t (type_text t) (sym (append-nil (type_text t))) n

pub sig_again : (bytes : List ℕ) (s : Sig) → IsDescriptor bytes s → sig_of bytes ≡ Some s
unfolding sig_of
sig_again bytes s d =
    let rest : List ℕ = types_text s.params ++ 41 ∷ result_text s.result in
    let text : bytes ≡ 40 ∷ rest = d.text ∙ simp append_assoc in
    let enough : length (types_text s.params) ≤ length rest = omega (arith, length-append (types_text s.params) (41 ∷ result_text s.result)) in
    rw (text, params_again s.params (length rest) (result_text s.result) d.params enough, result_again s.result d.result) refl
