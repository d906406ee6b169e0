-- The class's own methods: calls of them, and `process`.
use Rattle.std.proofs.Common.{◌≡◌, ℕ, zero, suc, ◌+◌, ◌≤◌, Bool, true, false, not, List, [], ◌∷◌, Option, Some, None, refl, sym, ap, ◌∙◌, subst, arith}
use Rattle.std.specs.Prelude.{slice_get, option_map, cond}
use Rattle.std.proofs.lemmas.Bool.{and_parts, false≢true}
use Rattle.std.proofs.lemmas.Option.{some_pair_parts}
use Rattle.jtypes.specs.declared.operations.Invoke.{Invoke}
use Rattle.jtypes.specs.Lists.{same_bytes, only_if, ◌>>=◌}
use Rattle.jtypes.proofs.Fit.{only_if_some, then_some_parts}
use Rattle.constpool.specs.Lookup.{MemberRef}
use Rattle.constpool.specs.Names.{init_name}
use Rattle.classfile.specs.View.{ClassView, MethodView}
use Rattle.decode.specs.declared.instruction.Instruction.{Instruction}
use Rattle.decode.specs.declared.instruction.Instruction.TheVariants as instruction
use Rattle.frames.specs.declared.signatures.Signature.{Signature}
use Rattle.frames.specs.Signatures.{signature_of, class_type, method_signature}
use Rattle.frames.specs.declared.members.Reached.TheVariants.{Library}
use Rattle.frames.specs.declared.members.Callee.{Callee}
use Rattle.frames.specs.Members.{LibraryRow, library_rows, row_of, library_row, library_params, library_callee, is_method, numbered, pairs_with, callee_of, own_callee, member_at, found_callee, callee_at}
use Rattle.typecheck.specs.Typing.{call_of, own_of, own_number, is_process, process_from}
use Rattle.verdict.proofs.Texts.{same_is, same_refl}

-- ---- calls

pub not_init : (m : MemberRef) (v : MethodView) → not (same_bytes m.name init_name) ≡ true → same_bytes m.name v.name ≡ true → v.name ≡ init_name → ⊥
not_init m v n s e =
    let is : m.name ≡ init_name = same_is m.name v.name s ∙ e in
    let yes : same_bytes m.name init_name ≡ true = ap (λ x. same_bytes x init_name) is ∙ same_refl init_name in
    false≢true (sym (ap not yes) ∙ n)

pub number_found : (n : ℕ) (methods : List MethodView) (m : MemberRef) (k : ℕ) (w : MethodView) → numbered n methods m ≡ Some (k, w) → (i : ℕ) × (k ≡ n + i) × (slice_get methods i ≡ Some w) × (is_method m w ≡ true)
number_found n [] m k w e = cc
number_found n (v ∷ methods) m k w e = go (number_found (suc n) methods m k w) (is_method m v) refl e
  where
    go : (numbered (suc n) methods m ≡ Some (k, w) → (i : ℕ) × (k ≡ suc n + i) × (slice_get methods i ≡ Some w) × (is_method m w ≡ true)) → (b : Bool) → is_method m v ≡ b → cond b (Some (n, v)) (numbered (suc n) methods m) ≡ Some (k, w) → (i : ℕ) × (k ≡ n + i) × (slice_get (v ∷ methods) i ≡ Some w) × (is_method m w ≡ true)
    go later true is f =
        let p = some_pair_parts n k v w f in
        (0, omega (arith, p.0), ap (λ x. Some x) p.1, subst (λ x. is_method m x ≡ true) p.1 is)
    go later false is f =
        let r = later f in
        (suc r.0, omega (arith, r.1), r.2, r.3)

-- `Reaches` holds if the class has a method with index `k` that isn't a constructor.
abbrev pub Reaches : ClassView → ℕ → Type 0
Reaches v k = (w : MethodView) × (slice_get v.methods k ≡ Some w) × (w.name ≡ init_name → ⊥)

own_reached : (v : ClassView) (kind : Invoke) (m : MemberRef) (callee : Callee) (k : ℕ) → own_callee v kind m ≡ Some callee → own_number callee.reached ≡ Some k → Reaches v k
own_reached v kind m callee k e own =
    let p = only_if_some _ _ callee e in
    let tests = and_parts (same_bytes m.class v.name) (not (same_bytes m.name init_name)) p.0 in
    let found = then_some_parts (λ (found : ℕ × MethodView). only_if (pairs_with kind found.1.flags) (option_map (callee_of found.0) (method_signature v found.1))) (numbered 0 v.methods m) callee p.1 in
    let j = found.0.0 in
    let w = found.0.1 in
    let n = number_found 0 v.methods m j w found.1 in
    let view : slice_get v.methods j ≡ Some w = subst (λ x. slice_get v.methods x ≡ Some w) (let h = n.1 in omega (arith, h)) n.2 in
    let named = and_parts (same_bytes m.name w.name) _ n.3 in
    let made = only_if_some (pairs_with kind w.flags) (option_map (callee_of j) (method_signature v w)) callee found.2 in
    let same : j ≡ k = number (method_signature v w) made.1 in
    (w, ap (slice_get v.methods) (sym same) ∙ view, not_init m w tests.1 named.0)
  where
    number : {j : ℕ} (o : Option Signature) → option_map (callee_of j) o ≡ Some callee → j ≡ k
    number None f = cc
    number {j} (Some s) f =
        let is : callee_of j s ≡ callee = cc f in
        let both : Some j ≡ Some k = ap (λ (x : Callee). own_number x.reached) is ∙ own in
        cc both

library_reached : (own : List ℕ) (r : LibraryRow) (callee : Callee) (k : ℕ) → library_callee own r ≡ Some callee → own_number callee.reached ≡ Some k → ⊥
library_reached own r callee k e is =
    let s = then_some_parts (λ (s : Signature). library_params r.kind (class_type own r.class) s.params >>= λ ps. Some (record { reached = Library r.native; params = ps; result = s.result })) (signature_of own r.descriptor) callee e in
    let ps = then_some_parts (λ ps. Some (record { reached = Library r.native; params = ps; result = s.0.result })) (library_params r.kind (class_type own r.class) s.0.params) callee s.2 in
    let new : Callee = record { reached = Library r.native; params = ps.0; result = s.0.result } in
    let same : new ≡ callee = cc ps.2 in
    let none : None ≡ Some k = ap (λ (x : Callee). own_number x.reached) same ∙ is in
    cc none

pub own_call : (v : ClassView) (i : Instruction) (k : ℕ) → call_of v i ≡ Some k → Reaches v k
unfolding callee_at
own_call v (instruction.Invoke kind i) k e = go (callee_at v kind i) refl e
  where
    by_row : (m : MemberRef) (callee : Callee) (o : Option LibraryRow) → found_callee v kind m o ≡ Some callee → own_number callee.reached ≡ Some k → Reaches v k
    by_row m callee None f is = own_reached v kind m callee k f is
    by_row m callee (Some r) f is = absurd (library_reached v.name r callee k f is)

    go : (o : Option Callee) → callee_at v kind i ≡ o → own_of o ≡ Some k → Reaches v k
    go None h f = cc
    go (Some callee) h f =
        let p = then_some_parts (λ m. found_callee v kind m (library_row v.name kind m)) (member_at v.pool kind i) callee h in
        by_row p.0 callee (library_row v.name kind p.0) p.2 f
own_call v _ k e = cc

-- ---- `process`

pub process_found : (n : ℕ) (methods : List MethodView) (k : ℕ) → process_from n methods ≡ Some k → (w : MethodView) × (i : ℕ) × (k ≡ n + i) × (slice_get methods i ≡ Some w) × (is_process w ≡ true)
process_found n [] k e = cc
process_found n (v ∷ methods) k e = go (process_found (suc n) methods k) (is_process v) refl e
  where
    go : (process_from (suc n) methods ≡ Some k → (w : MethodView) × (i : ℕ) × (k ≡ suc n + i) × (slice_get methods i ≡ Some w) × (is_process w ≡ true)) → (b : Bool) → is_process v ≡ b → cond b (Some n) (process_from (suc n) methods) ≡ Some k → (w : MethodView) × (i : ℕ) × (k ≡ n + i) × (slice_get (v ∷ methods) i ≡ Some w) × (is_process w ≡ true)
    go later true is f = let same : n ≡ k = cc in (v, 0, omega (arith, same), refl, is)
    go later false is f =
        let r = later f in
        (r.0, suc r.1, omega (arith, r.2), r.3, r.4)

-- If method `i` is `process`, the first `process` has an index of at most `i`.
pub first_process : (n : ℕ) (methods : List MethodView) (i : ℕ) (w : MethodView) → slice_get methods i ≡ Some w → is_process w ≡ true → (k : ℕ) × (process_from n methods ≡ Some (n + k)) × (k ≤ i)
first_process n [] i w e is = cc
first_process n (v ∷ methods) i w e is = go (is_process v) refl i e (λ k f. first_process (suc n) methods k w f is)
  where
    go : (b : Bool) → is_process v ≡ b → (i : ℕ) → slice_get (v ∷ methods) i ≡ Some w → ((k : ℕ) → slice_get methods k ≡ Some w → (j : ℕ) × (process_from (suc n) methods ≡ Some (suc n + j)) × (j ≤ k)) → (k : ℕ) × (cond b (Some n) (process_from (suc n) methods) ≡ Some (n + k)) × (k ≤ i)
    go true at i f later = (0, ap (λ (x : ℕ). Some x) (omega arith), omega arith)
    go false at zero f later = let same : v ≡ w = cc f in absurd (false≢true (sym at ∙ ap is_process same ∙ is))
    go false at (suc i) f later =
        let r = later i f in
        let low = r.2 in
        (suc r.0, r.1 ∙ ap (λ (x : ℕ). Some x) (omega arith), omega (arith, low))

-- If there is no first `process`, no method is `process`.
pub none_is_process : (n : ℕ) (methods : List MethodView) (i : ℕ) (w : MethodView) → process_from n methods ≡ None → slice_get methods i ≡ Some w → is_process w ≡ false
none_is_process n [] i w none e = cc
none_is_process n (x ∷ methods) i w none e = go (is_process x) refl none i e (λ k f. none_is_process (suc n) methods k w f)
  where
    go : (b : Bool) → is_process x ≡ b → cond b (Some n) (process_from (suc n) methods) ≡ None → (i : ℕ) → slice_get (x ∷ methods) i ≡ Some w → ((k : ℕ) → process_from (suc n) methods ≡ None → slice_get methods k ≡ Some w → is_process w ≡ false) → is_process w ≡ false
    go true is f i e later = cc f
    go false is f zero e later = let same : x ≡ w = cc e in subst (λ y. is_process y ≡ false) same is
    go false is f (suc i) e later = later i f e
