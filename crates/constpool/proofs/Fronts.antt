-- Prefixes of byte lists.
use Rattle.std.proofs.Common.{◌≡◌, ◌≢◌, ℕ, ◌+◌, ◌-◌, suc, Bool, true, false, cond, List, [], ◌∷◌, ◌++◌, length, take, drop, Option, Some, None, option_map, MatchOption, Bor, eqb, refl, sym, ap, subst, ◌∙◌, arith, add-one}
use Rattle.std.proofs.lemmas.Bool.{eq-eqb, eqb-true}
use Rattle.std.proofs.lemmas.Bool.Decides.{Decides-eqb}
use Rattle.std.proofs.lemmas.Slice.Eq.{strip_prefix_is}
use Rattle.std.specs.Cmp.Lexicographic.{pointwise}
use Rattle.std.specs.List.{position, position_from}
use Rattle.std.proofs.lemmas.Iterator.Adapters.{position_from-zero}
use Rattle.std.proofs.lemmas.List.{take_rest}
use Rattle.jtypes.specs.Lists.{after_front, only_if}
use Rattle.constpool.specs.Descriptor.{before_semicolon}

pub after_front_of : (front rest : List ℕ) → after_front front (front ++ rest) ≡ Some rest
after_front_of [] rest = refl
after_front_of (f ∷ front) rest = rw (eq-eqb f f refl) (after_front_of front rest)

pub only_if_some : {A : Type 0} (b : Bool) (o : Option A) (x : A) → only_if b o ≡ Some x → (b ≡ true) × (o ≡ Some x)
only_if_some true o x e = (refl, e)
only_if_some false o x e = absurd cc

pub front_of : (front bytes rest : List ℕ) → after_front front bytes ≡ Some rest → bytes ≡ front ++ rest
front_of [] bytes rest e = cc
front_of (f ∷ front) [] rest e = absurd cc
front_of (f ∷ front) (b ∷ bytes) rest e =
    let p = only_if_some (eqb f b) (after_front front bytes) rest e in
    let same : f ≡ b = eqb-true f b p.0 in
    let more : bytes ≡ front ++ rest = front_of front bytes rest p.1 in
    cc

no_front : (front bytes : List ℕ) (o : Option (List ℕ)) → after_front front bytes ≡ o → ((rest : List ℕ) → bytes ≢ front ++ rest) → None ≡ o
no_front front bytes None e h = refl
no_front front bytes (Some rest) e h = absurd (h rest (front_of front bytes rest e))

-- the contract of `strip_prefix`, by `after_front`
pub after_stripped : (front bytes : List ℕ) (r : Option (Bor (List ℕ))) → MatchOption r (pointwise eqb (take (length front) bytes) front ≡ false) (λ x. (pointwise eqb (take (length front) bytes) front ≡ true) × (x.now ≡ drop (length front) bytes) × (length x.now + length front ≡ length bytes))
    → option_map (λ x. x.now) r ≡ after_front front bytes
after_stripped front bytes None h = no_front front bytes (after_front front bytes) refl (strip_prefix_is Decides-eqb bytes front None h)
after_stripped front bytes (Some x) h =
    let e : bytes ≡ front ++ x.now = strip_prefix_is Decides-eqb bytes front (Some x) h in
    sym (after_front_of front x.now) ∙ ap (after_front front) (sym e)

-- ---- the first semicolon

abbrev pub is_semicolon : ℕ → Bool
is_semicolon b = eqb b 59

-- `IsCut` holds if `before_semicolon` splits the bytes at this position, counted from `i`
abbrev pub IsCut : List ℕ → ℕ → Option ℕ → Type 0
IsCut bytes i None = before_semicolon bytes ≡ None
IsCut bytes i (Some n) = (k : ℕ) × (n ≡ i + k) × (before_semicolon bytes ≡ Some (take k bytes, drop (suc k) bytes))

further : (b : ℕ) (bytes : List ℕ) (i : ℕ) (o : Option ℕ) → eqb b 59 ≡ false → IsCut bytes (i + 1) o → IsCut (b ∷ bytes) i o
further b bytes i None h c = rw (h, c) refl
further b bytes i (Some n) h (k, e, c) = (suc k, omega (arith, e), rw (h, c) refl)

cut_by : (b : ℕ) (bytes : List ℕ) (i : ℕ) (o : Option ℕ) (z : Bool) → eqb b 59 ≡ z → IsCut bytes (i + 1) o → IsCut (b ∷ bytes) i (cond z (Some i) o)
cut_by b bytes i o true h more = (0, omega arith, rw h refl)
cut_by b bytes i o false h more = further b bytes i o h more

cut_from : (bytes : List ℕ) (i : ℕ) → IsCut bytes i (position_from is_semicolon i bytes)
cut_from [] i = refl
cut_from (b ∷ bytes) i = cut_by b bytes i (position_from is_semicolon (i + 1) bytes) (eqb b 59) refl (cut_from bytes (i + 1))

pub cut_at : (bytes : List ℕ) → IsCut bytes 0 (position is_semicolon bytes)
cut_at bytes = rw (position_from-zero is_semicolon bytes) (cut_from bytes 0)

pub cut_none : (bytes : List ℕ) (o : Option ℕ) → o ≡ None → o ≡ position is_semicolon bytes → None ≡ before_semicolon bytes
cut_none bytes o n e = sym (subst (λ (z : Option ℕ). IsCut bytes 0 z) (sym e ∙ n) (cut_at bytes))

pub cut_some : (bytes : List ℕ) (o : Option ℕ) (i : ℕ) → o ≡ Some i → o ≡ position is_semicolon bytes → before_semicolon bytes ≡ Some (take i bytes, take (length bytes - (i + 1)) (drop (i + 1) bytes))
cut_some bytes o i n e =
    let c = subst (λ (z : Option ℕ). IsCut bytes 0 z) (sym e ∙ n) (cut_at bytes) in
    let k : c.0 ≡ i = omega (arith, c.1) in
    let h : before_semicolon bytes ≡ Some (take i bytes, drop (suc i) bytes) = subst (λ (z : ℕ). before_semicolon bytes ≡ Some (take z bytes, drop (suc z) bytes)) k c.2 in
    rw (take_rest bytes (i + 1), add-one) h
