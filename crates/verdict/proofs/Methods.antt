-- Lemmas about the check of all methods.
use Rattle.std.proofs.Common.{◌≡◌, ℕ, zero, suc, ◌+◌, ◌<◌, List, [], ◌∷◌, ◌++◌, length, take, get_or, Some, Result, Ok, Err, refl, sym, ap, ◌∙◌, subst, ◌⊎◌, inl, inr}
use Rattle.std.specs.Prelude.{Any, slice_get}
use Rattle.std.specs.List.{AllZip}
use Rattle.std.proofs.lemmas.List.{take_more}
use Rattle.std.proofs.lemmas.Option.{slice_get-get_or, slice_get_within, get_or_from_slice_get}
use Rattle.jtypes.specs.declared.refusal.Refusal.{Refusal}
use Rattle.jtypes.specs.declared.refusal.Refusal.TheVariants.{NoMemory, BadDescriptor}
use Rattle.constpool.specs.Lookup.{Slot}
use Rattle.classfile.specs.declared.class_file.Member.{Member}
use Rattle.classfile.specs.declared.class_file.Parts.{Parts}
use Rattle.classfile.specs.declared.class_file.CodeParts.{CodeParts}
use Rattle.classfile.specs.View.{method_view, view_of}
use Rattle.verdict.specs.Shape.{HasCode}
use Rattle.verdict.specs.Shaping.{Judges, HasSlots, DescriptorStands, HasGoodCode, MethodCodeStands, HasGoodMethod, MethodStands}

pub descriptor_refuses : (pool : List Slot) (p : Parts) (m : Member) (r : Refusal) → (r ≡ NoMemory) ⊎ DescriptorStands (view_of pool p) (method_view pool m) r → (r ≡ NoMemory) ⊎ MethodStands pool p m r
descriptor_refuses pool p m r (inl e) = inl e
descriptor_refuses pool p m r (inr h) = inr (subst (MethodStands pool p m) (sym h.0) h.1)

code_stands : (pool : List Slot) (p : Parts) (m : Member) (r : Refusal) → MethodCodeStands pool m r → MethodStands pool p m r
code_stands pool p m BadDescriptor s = absurd s
code_stands pool p m r s = s

pub method_judged : (pool : List Slot) (p : Parts) (m : Member) (slots : ℕ) (result : Result CodeParts Refusal) → HasSlots (view_of pool p) (method_view pool m) slots → Judges (HasGoodCode pool m) (MethodCodeStands pool m) result
    → Judges (HasGoodMethod pool p m) (MethodStands pool p m) result
method_judged pool p m slots (Ok c) good h = record { has_code = h.has_code; none_stands = none }
  where
    none : (r : Refusal) → MethodStands pool p m r → ⊥
    none BadDescriptor s = good.good s
    none r s = h.none_stands r s
method_judged pool p m slots (Err r) good (inl e) = inl e
method_judged pool p m slots (Err r) good (inr s) = inr (code_stands pool p m r s)

-- ---- lists related element by element

zip_more : {A B : Type 0} (R : A → B → Type 0) (xs : List A) (ys : List B) (x : A) (y : B) → AllZip R xs ys → R x y → AllZip R (xs ++ x ∷ []) (ys ++ y ∷ [])
zip_more R [] [] x y h r = (r, tt)
zip_more R [] (b ∷ ys) x y h r = absurd h
zip_more R (a ∷ xs) [] x y h r = absurd h
zip_more R (a ∷ xs) (b ∷ ys) x y h r = (h.0, zip_more R xs ys x y h.1 r)

pub zip_goes_on : {A B : Type 0} (R : A → B → Type 0) (xs : List A) (i : ℕ) (x : A) (ys : List B) (y : B) → i < length xs → x ≡ get_or xs i x → AllZip R (take i xs) ys → R x y → AllZip R (take (i + 1) xs) (ys ++ y ∷ [])
zip_goes_on {A = A} R xs i x ys y lt is h r =
    let more : take (i + 1) xs ≡ take i xs ++ x ∷ [] = take_more xs i x lt ∙ ap (λ (z : A). take i xs ++ z ∷ []) (sym is) in
    subst (λ (zs : List A). AllZip R zs (ys ++ y ∷ [])) (sym more) (zip_more R (take i xs) ys x y h r)

pub zip_at : {A B : Type 0} (R : A → B → Type 0) (xs : List A) (ys : List B) (n : ℕ) (x : A) (y : B) → AllZip R xs ys → slice_get xs n ≡ Some x → slice_get ys n ≡ Some y → R x y
zip_at R [] ys n x y h a b = absurd cc
zip_at R (c ∷ xs) [] n x y h a b = absurd h
zip_at R (c ∷ xs) (d ∷ ys) zero x y h a b =
    let first : c ≡ x = cc a in
    let second : d ≡ y = cc b in
    subst (λ z. R z y) first (subst (R c) second h.0)
zip_at R (c ∷ xs) (d ∷ ys) (suc n) x y h a b = zip_at R xs ys n x y h.1 a b

pub zip_has : {A B : Type 0} (R : A → B → Type 0) (xs : List A) (ys : List B) (n : ℕ) (x : A) → AllZip R xs ys → slice_get xs n ≡ Some x → (y : B) × (slice_get ys n ≡ Some y) × R x y
zip_has R [] ys n x h a = absurd cc
zip_has R (c ∷ xs) [] n x h a = absurd h
zip_has R (c ∷ xs) (d ∷ ys) zero x h a = let first : c ≡ x = cc a in (d, refl, subst (λ z. R z d) first h.0)
zip_has R (c ∷ xs) (d ∷ ys) (suc n) x h a = zip_has R xs ys n x h.1 a

pub zip_count : {A B : Type 0} (R : A → B → Type 0) (xs : List A) (ys : List B) → AllZip R xs ys → length xs ≡ length ys
zip_count R [] [] h = refl
zip_count R [] (d ∷ ys) h = absurd h
zip_count R (c ∷ xs) [] h = absurd h
zip_count R (c ∷ xs) (d ∷ ys) h = ap suc (zip_count R xs ys h.1)

-- If each element has a related one, there is a list of related elements.
pub zip_of : {A B : Type 0} (R : A → B → Type 0) (xs : List A) → ((n : ℕ) (x : A) → slice_get xs n ≡ Some x → (y : B) × R x y) → (ys : List B) × AllZip R xs ys
zip_of R [] each = ([], tt)
zip_of R (x ∷ xs) each =
    let first = each 0 x refl in
    let rest = zip_of R xs (λ n y e. each (suc n) y e) in
    (first.0 ∷ rest.0, (first.1, rest.1))

-- An element of the second list has a related element in the first one.
pub zip_back : {A B : Type 0} (R : A → B → Type 0) (xs : List A) (ys : List B) (n : ℕ) (y : B) → AllZip R xs ys → slice_get ys n ≡ Some y → (x : A) × (slice_get xs n ≡ Some x) × R x y
zip_back R [] [] n y h b = absurd cc
zip_back R [] (d ∷ ys) n y h b = absurd h
zip_back R (c ∷ xs) [] n y h b = absurd h
zip_back R (c ∷ xs) (d ∷ ys) zero y h b = let first : d ≡ y = cc b in (c, refl, subst (R c) first h.0)
zip_back R (c ∷ xs) (d ∷ ys) (suc n) y h b = zip_back R xs ys n y h.1 b

-- If `Any` holds, `P` holds of the element at some index.
pub any_at : {A : Type 0} (P : A → Type 0) (xs : List A) → Any P xs → (n : ℕ) × (x : A) × (slice_get xs n ≡ Some x) × P x
any_at P xs h = (h.0, h.1, slice_get-get_or xs h.0 h.1 h.2 ∙ ap (λ z. Some z) h.3, h.4)

-- If `P` holds of the element at an index, `Any` holds.
pub any_from : {A : Type 0} (P : A → Type 0) (xs : List A) (k : ℕ) (x : A) → slice_get xs k ≡ Some x → P x → Any P xs
any_from P xs k x e h = (k, x, slice_get_within xs k x e, get_or_from_slice_get xs k x x e, h)

pub codes_of_good : (pool : List Slot) (p : Parts) (ms : List Member) (cs : List CodeParts) → AllZip (HasGoodMethod pool p) ms cs → AllZip (HasCode pool) ms cs
codes_of_good pool p [] [] h = tt
codes_of_good pool p [] (c ∷ cs) h = absurd h
codes_of_good pool p (m ∷ ms) [] h = absurd h
codes_of_good pool p (m ∷ ms) (c ∷ cs) h = (h.0.has_code, codes_of_good pool p ms cs h.1)

pub good_methods : (pool : List Slot) (p : Parts) (ms : List Member) (cs : List CodeParts) (r : Refusal) → AllZip (HasGoodMethod pool p) ms cs → Any (λ m. MethodStands pool p m r) ms → ⊥
good_methods pool p ms cs r h any =
    let at = any_at (λ (m : Member). MethodStands pool p m r) ms any in
    let it = zip_has (HasGoodMethod pool p) ms cs at.0 at.1 h at.2 in
    it.2.none_stands r at.3
