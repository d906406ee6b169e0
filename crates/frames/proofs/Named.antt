-- Methods with the same name.
use Rattle.std.proofs.Common.{◌≡◌, ◌<◌, ◌+◌, ℕ, zero, suc, Bool, true, false, not, ◌&&◌, List, [], ◌∷◌, ◌++◌, length, drop, take, Option, Some, None, refl, sym, ap, ◌∙◌, subst, inl, inr, arith}
use Rattle.std.specs.Prelude.{◌==◌, ◌⊎◌, slice_get, get_or, map, All, IfSome, option_map, option_and_then}
use Rattle.std.proofs.lemmas.Bool.{and_parts, eqb-true}
use Rattle.std.proofs.lemmas.Option.{slice_get-map, slice_get_within, slice_get-get_or, get_or_from_slice_get}
use Rattle.std.proofs.lemmas.List.{take_more, map_push, get_or-take, length-take-le}
use Rattle.std.proofs.lemmas.List.Elements.{All-push}
use Rattle.jtypes.specs.declared.operations.Invoke.{Invoke}
use Rattle.jtypes.specs.Lists.{same_bytes, only_if, ◌>>=◌}
use Rattle.constpool.specs.Names.{init_name}
use Rattle.constpool.specs.Lookup.{MemberRef}
use Rattle.classfile.specs.View.{ClassView, MethodView}
use Rattle.frames.specs.declared.signed.SignedMethod.{SignedMethod}
use Rattle.frames.specs.Members.{is_method, numbered, pairs_with, callee_of, own_callee}
use Rattle.frames.specs.Signatures.{method_signature}
use Rattle.frames.specs.Signed.{method_of, method_at, IsNamesake, AreNamesakes, AreSigned}
use Rattle.frames.proofs.Methods.{number_found, number_later}

pub bytes_are : (xs ys : List ℕ) → same_bytes xs ys ≡ true → xs ≡ ys
bytes_are [] [] h = refl
bytes_are (x ∷ xs) (y ∷ ys) h =
    let p = and_parts (x == y) (same_bytes xs ys) h in
    let here : x ≡ y = eqb-true x y p.0 in
    let rest : xs ≡ ys = bytes_are xs ys p.1 in
    cc (here, rest)
bytes_are [] (y ∷ ys) h = cc
bytes_are (x ∷ xs) [] h = cc

-- ---- a list after a push

stays : {A : Type 0} (xs : List A) (y x : A) (i : ℕ) → slice_get xs i ≡ Some x → slice_get (xs ++ y ∷ []) i ≡ Some x
stays [] y x i h = cc
stays (z ∷ xs) y x zero h = h
stays (z ∷ xs) y x (suc i) h = stays xs y x i h

was_or_is_last : {A : Type 0} (xs : List A) (y x : A) (i : ℕ) → slice_get (xs ++ y ∷ []) i ≡ Some x → (slice_get xs i ≡ Some x) ⊎ ((i ≡ length xs) × (y ≡ x))
was_or_is_last [] y x zero h = inr (refl, cc)
was_or_is_last [] y x (suc i) h = cc
was_or_is_last (z ∷ xs) y x zero h = inl h
was_or_is_last (z ∷ xs) y x (suc i) h = elim (was_or_is_last xs y x i h) [
  | inl was ↦ inl was
  | inr last ↦ inr (ap suc last.0, last.1)
]

-- ---- the methods with signatures so far

namesake_stays : (ms : List SignedMethod) (s : SignedMethod) (name : List ℕ) (j : ℕ) → IsNamesake ms name j → IsNamesake (ms ++ s ∷ []) name j
namesake_stays ms s name j is = (is.0, stays ms s is.0 j is.1, is.2)

namesakes_more : (ms : List SignedMethod) (s : SignedMethod) → AreNamesakes ms → IfSome s.namesake (IsNamesake ms s.method.name.now) → AreNamesakes (ms ++ s ∷ [])
namesakes_more ms s are new k j x at named = elim (was_or_is_last ms s x k at) [
  | inl was ↦
      let old = are k j x was named in
      (old.0, namesake_stays ms s x.method.name.now j old.1)
  | inr last ↦
      let is : s.namesake ≡ Some j = ap (λ (m : SignedMethod). m.namesake) last.1 ∙ named in
      let here : IsNamesake ms s.method.name.now j = subst (λ (o : Option ℕ). IfSome o (IsNamesake ms s.method.name.now)) is new in
      let within : j < length ms = slice_get_within ms j here.0 here.1 in
      let same : s.method.name.now ≡ x.method.name.now = ap (λ (m : SignedMethod). m.method.name.now) last.1 in
      (omega (arith, within, last.0), subst (λ (name : List ℕ). IsNamesake (ms ++ s ∷ []) name j) same (namesake_stays ms s s.method.name.now j here))
]

signed_more : (v : ClassView) (ms : List SignedMethod) (s : SignedMethod) (k : ℕ) → slice_get v.methods k ≡ Some (method_of s) → map method_of ms ≡ take k v.methods
    → map method_of (ms ++ s ∷ []) ≡ take (k + 1) v.methods
signed_more v ms s k at so_far =
    let within : k < length v.methods = slice_get_within v.methods k (method_of s) at in
    let here : get_or v.methods k (method_of s) ≡ method_of s = get_or_from_slice_get v.methods k (method_of s) (method_of s) at in
    map_push method_of ms s ∙ ap (λ l. l ++ method_of s ∷ []) so_far ∙ ap (λ m. take k v.methods ++ m ∷ []) (sym here) ∙ sym (take_more v.methods k (method_of s) within)

pub record AreSignedTo (v : ClassView) (k : ℕ) (ms : List SignedMethod) : Type 0 where
  pub methods : map method_of ms ≡ take k v.methods
  pub signatures : All (λ s. s.signature ≡ method_signature v (method_of s)) ms
  pub namesakes : AreNamesakes ms

pub one_more : (v : ClassView) (k : ℕ) (ms : List SignedMethod) (s : SignedMethod) → AreSignedTo v k ms → slice_get v.methods k ≡ Some (method_of s)
    → s.signature ≡ method_signature v (method_of s) → IfSome s.namesake (IsNamesake ms s.method.name.now) → AreSignedTo v (k + 1) (ms ++ s ∷ [])
one_more v k ms s are at signature namesake = record {
  methods = signed_more v ms s k at are.methods;
  signatures = All-push (λ (x : SignedMethod). x.signature ≡ method_signature v (method_of x)) ms s are.signatures signature;
  namesakes = namesakes_more ms s are.namesakes namesake;
}

-- ---- a method by its name

abbrev pub names_asked : List ℕ → List SignedMethod → List Bool
names_asked name ms = map (λ s. same_bytes name s.method.name.now) ms

-- the comparison with a namesake has the result of the comparison with its method
pub asked_before : (name : List ℕ) (ms : List SignedMethod) (k j : ℕ) (s : SignedMethod) → AreNamesakes ms → slice_get ms k ≡ Some s → s.namesake ≡ Some j
    → slice_get (names_asked name (take k ms)) j ≡ Some (same_bytes name s.method.name.now)
asked_before name ms k j s are at is =
    let other = are k j s at is in
    let y = other.1.0 in
    let within : j < length (take k ms) = omega (arith, other.0, slice_get_within ms k s at, length-take-le k ms) in
    let there : slice_get (take k ms) j ≡ Some y =
    slice_get-get_or (take k ms) j y within ∙ ap Some (get_or-take k ms j y other.0 ∙ get_or_from_slice_get ms j y y other.1.1) in
    slice_get-map (λ (x : SignedMethod). same_bytes name x.method.name.now) (take k ms) j ∙ ap (option_map (λ (x : SignedMethod). same_bytes name x.method.name.now)) there
    ∙ ap (λ (n : List ℕ). Some (same_bytes name n)) other.1.2

pub asked_more : (name : List ℕ) (ms : List SignedMethod) (k : ℕ) (s : SignedMethod) (asked : List Bool) → slice_get ms k ≡ Some s → asked ≡ names_asked name (take k ms)
    → asked ++ same_bytes name s.method.name.now ∷ [] ≡ names_asked name (take (k + 1) ms)
asked_more name ms k s asked at so_far =
    let within = slice_get_within ms k s at in
    let here : take (k + 1) ms ≡ take k ms ++ s ∷ [] = take_more ms k s within ∙ ap (λ x. take k ms ++ x ∷ []) (get_or_from_slice_get ms k s s at) in
    ap (λ l. l ++ same_bytes name s.method.name.now ∷ []) so_far
    ∙ sym (ap (names_asked name) here ∙ map_push (λ (x : SignedMethod). same_bytes name x.method.name.now) (take k ms) s)

seen_at : (ms : List SignedMethod) (k : ℕ) (s : SignedMethod) → slice_get ms k ≡ Some s → slice_get (map method_of ms) k ≡ Some (method_of s)
seen_at ms k s at = slice_get-map method_of ms k ∙ ap (option_map method_of) at

pub found_at : (ms : List SignedMethod) (m : MemberRef) (k : ℕ) (s : SignedMethod) (found : Option (ℕ × MethodView)) → slice_get ms k ≡ Some s
    → is_method m (method_of s) ≡ true → found ≡ numbered k (drop k (map method_of ms)) m → method_at ms (Some k) ≡ found
found_at ms m k s found at is so_far =
    ap (option_map (λ (x : SignedMethod). (k, method_of x))) at ∙ number_found (map method_of ms) m k (method_of s) found (seen_at ms k s at) is so_far

pub later_than : (ms : List SignedMethod) (m : MemberRef) (k : ℕ) (s : SignedMethod) (found : Option (ℕ × MethodView)) → slice_get ms k ≡ Some s
    → is_method m (method_of s) ≡ false → found ≡ numbered k (drop k (map method_of ms)) m → found ≡ numbered (k + 1) (drop (k + 1) (map method_of ms)) m
later_than ms m k s found at isnt so_far = number_later (map method_of ms) m k (method_of s) found (seen_at ms k s at) isnt so_far

-- ---- a method that was found

pub own_is : (v : ClassView) (kind : Invoke) (m : MemberRef) (ms : List SignedMethod) (k : ℕ) (s : SignedMethod) → AreSigned v ms
    → same_bytes m.class v.name ≡ true → same_bytes m.name init_name ≡ false → method_at ms (Some k) ≡ numbered 0 (map method_of ms) m → slice_get ms k ≡ Some s
    → own_callee v kind m ≡ only_if (pairs_with kind s.method.flags) (option_map (callee_of k) s.signature)
own_is v kind m ms k s are class init found at =
    let known : numbered 0 v.methods m ≡ Some (k, method_of s) =
    ap (λ vs. numbered 0 vs m) (sym are.methods) ∙ sym found ∙ ap (option_map (λ (x : SignedMethod). (k, method_of x))) at in
    let signed : s.signature ≡ method_signature v (method_of s) =
    subst (λ (x : SignedMethod). x.signature ≡ method_signature v (method_of x)) (get_or_from_slice_get ms k s s at) (are.signatures k s (slice_get_within ms k s at)) in
    ap (λ b. only_if (b && not (same_bytes m.name init_name)) (numbered 0 v.methods m >>= λ found. only_if (pairs_with kind found.1.flags) (option_map (callee_of found.0) (method_signature v found.1)))) class
    ∙ ap (λ b. only_if (not b) (numbered 0 v.methods m >>= λ found. only_if (pairs_with kind found.1.flags) (option_map (callee_of found.0) (method_signature v found.1)))) init
    ∙ ap (λ o. o >>= λ found. only_if (pairs_with kind found.1.flags) (option_map (callee_of found.0) (method_signature v found.1))) known
    ∙ ap (λ o. only_if (pairs_with kind s.method.flags) (option_map (callee_of k) o)) (sym signed)
