-- Lemmas on lists by index.
use Rattle.std.proofs.Common.{arith, ◌≡◌, ℕ, zero, suc, ◌+◌, ◌<◌, ◌≤◌, Bool, true, false, cond, ◌⊎◌, inl, inr, List, [], ◌∷◌, ◌++◌, length, Some, slice_get, slice_set, slice_index, replicate, map, filter, sum_by, ◌==◌, refl, sym, ap, subst, ◌∙◌, zero-add, true≢false}
use Rattle.std.proofs.lemmas.Bool.{eq-eqb, eqb-true}
use Rattle.std.proofs.lemmas.List.Elements.{filter-append}
use Rattle.std.proofs.lemmas.List.{append-nil}
use Rattle.std.proofs.lemmas.List.Sums.{sum_by-set, sum_by-append}
use Rattle.std.proofs.lemmas.Option.{slice_get_within, get_or_from_slice_get}
use Rattle.world.specs.World.{World, ReadThrough}

abbrev pub one_if : Bool → ℕ
one_if b = cond b 1 0

none_less : (n : ℕ) → n < 0 → ⊥
none_less n h = omega arith

same_suc : (n m : ℕ) → suc n ≡ suc m → n ≡ m
same_suc n m e = omega arith

pub get_set : {X : Type 0} → (xs : List X) (n : ℕ) (x : X) → n < length xs → slice_get (slice_set xs n x) n ≡ Some x
get_set [] n x h = absurd (none_less n h)
get_set (y ∷ xs) zero x h = refl
get_set (y ∷ xs) (suc n) x h = get_set xs n x (omega arith)

pub get_set_other : {X : Type 0} → (xs : List X) (n p : ℕ) (x : X) → ¬ (p ≡ n) → slice_get (slice_set xs n x) p ≡ slice_get xs p
get_set_other [] n p x h = refl
get_set_other (y ∷ xs) zero zero x h = absurd (h refl)
get_set_other (y ∷ xs) zero (suc p) x h = refl
get_set_other (y ∷ xs) (suc n) zero x h = refl
get_set_other (y ∷ xs) (suc n) (suc p) x h = get_set_other xs n p x (λ e. h (ap suc e))

-- An element after a write is the new one, or the old one at another index.
pub get_set_cases : {X : Type 0} → (xs : List X) (n p : ℕ) (x y : X) → n < length xs → slice_get (slice_set xs n x) p ≡ Some y → ((p ≡ n) × (y ≡ x)) ⊎ ((¬ (p ≡ n)) × (slice_get xs p ≡ Some y))
get_set_cases [] n p x y h e = absurd (none_less n h)
get_set_cases (z ∷ xs) zero zero x y h e = inl (refl, cc)
get_set_cases (z ∷ xs) zero (suc p) x y h e = inr (λ q. absurd (omega (arith, q)), e)
get_set_cases (z ∷ xs) (suc n) zero x y h e = inr (λ q. absurd (omega (arith, q)), e)
get_set_cases (z ∷ xs) (suc n) (suc p) x y h e =
    elim (get_set_cases xs n p x y (omega arith) e) [ inl a ↦ inl (ap suc a.0, a.1) | inr b ↦ inr (λ q. b.0 (same_suc p n q), b.1) ]

module _ {X : Type 0} (f : X → ℕ) where
  pub sum_cons : (z : X) (xs : List X) → sum_by f (z ∷ xs) ≡ f z + sum_by f xs
  sum_cons z xs = sum_by-append f (z ∷ []) xs ∙ ap (λ n. n + sum_by f xs) (zero-add (f z))

  pub sum_set : (xs : List X) (i : ℕ) (x y : X) → slice_get xs i ≡ Some x → sum_by f (slice_set xs i y) + f x ≡ sum_by f xs + f y
  sum_set xs i x y e =
      ap (λ z. sum_by f (slice_set xs i y) + f z) (sym (get_or_from_slice_get xs i x x e)) ∙ sum_by-set f xs i y x (slice_get_within xs i x e)

  pub sum_at : (xs : List X) (i : ℕ) (x : X) → slice_get xs i ≡ Some x → f x ≤ sum_by f xs
  sum_at [] i x e = absurd (cc)
  sum_at (z ∷ xs) zero x e = let same : z ≡ x = cc in omega (arith, ap f same, sum_cons z xs)
  sum_at (z ∷ xs) (suc i) x e = omega (arith, sum_at xs i x e, sum_cons z xs)

  pub sum_more : (xs : List X) (y : X) → sum_by f (xs ++ y ∷ []) ≡ sum_by f xs + f y
  sum_more xs y = omega (arith, sum_by-append f xs (y ∷ []), sum_cons y [], none)
    where
      none : sum_by f [] ≡ 0
      none = refl

pub filter_more : {X : Type 0} (p : X → Bool) (xs : List X) (y : X) → filter p (xs ++ y ∷ []) ≡ cond (p y) (filter p xs ++ y ∷ []) (filter p xs)
filter_more p xs y = filter-append p xs (y ∷ []) ∙ by (p y)
  where
    by : (b : Bool) → filter p xs ++ cond b (y ∷ []) [] ≡ cond b (filter p xs ++ y ∷ []) (filter p xs)
    by true = refl
    by false = append-nil (filter p xs)

-- An element of a mapped list is the image of an element.
pub get_map : {X Y : Type 0} (f : X → Y) (xs : List X) (i : ℕ) (y : Y) → slice_get (map f xs) i ≡ Some y → (x : X) × (slice_get xs i ≡ Some x) × (f x ≡ y)
get_map f [] i y e = absurd (cc)
get_map f (x ∷ xs) zero y e = (x, refl, cc)
get_map f (x ∷ xs) (suc i) y e = get_map f xs i y e

pub map_get : {X Y : Type 0} (f : X → Y) (xs : List X) (i : ℕ) (x : X) → slice_get xs i ≡ Some x → slice_get (map f xs) i ≡ Some (f x)
map_get f [] i x e = absurd (cc)
map_get f (z ∷ xs) zero x e = let same : z ≡ x = cc in ap (λ v. Some (f v)) same
map_get f (z ∷ xs) (suc i) x e = map_get f xs i x e

pub set_same : {X : Type 0} (xs : List X) (i : ℕ) (x : X) → slice_get xs i ≡ Some x → slice_set xs i x ≡ xs
set_same [] i x e = refl
set_same (z ∷ xs) zero x e = let same : x ≡ z = cc in ap (λ v. v ∷ xs) same
set_same (z ∷ xs) (suc i) x e = ap (λ vs. z ∷ vs) (set_same xs i x e)

pub has_element : {X : Type 0} (xs : List X) (i : ℕ) → i < length xs → (x : X) × (slice_get xs i ≡ Some x)
has_element [] i h = absurd (none_less i h)
has_element (x ∷ xs) zero h = (x, refl)
has_element (x ∷ xs) (suc i) h = has_element xs i (omega arith)

pub nat_split : (n m : ℕ) → n ≤ suc m → (n ≤ m) ⊎ (n ≡ suc m)
nat_split n m le = by (n == suc m) refl
  where
    by : (b : Bool) → (n == suc m) ≡ b → (n ≤ m) ⊎ (n ≡ suc m)
    by true e = inr (eqb-true n (suc m) e)
    by false e = inl (omega (arith, (λ (q : n ≡ suc m). true≢false (sym (eq-eqb n (suc m) q) ∙ e))))

-- A number is less than, equal to, or greater than another.
pub trichotomy : (n m : ℕ) → (suc n ≤ m) ⊎ ((n ≡ m) ⊎ (suc m ≤ n))
trichotomy zero zero = inr (inl refl)
trichotomy zero (suc m) = inl (omega arith)
trichotomy (suc n) zero = inr (inr (omega arith))
trichotomy (suc n) (suc m) = elim (trichotomy n m) [ inl a ↦ inl (omega (arith, a)) | inr b ↦ inr (elim b [ inl c ↦ inl (ap suc c) | inr d ↦ inr (omega (arith, d)) ]) ]

pub zeros : (n i : ℕ) → slice_index (replicate n 0) i ≡ 0
zeros zero i = refl
zeros (suc n) zero = refl
zeros (suc n) (suc i) = zeros n i

-- ---- a world that reads through a loader

pub seen : {X : Type 0} {a b : ReadThrough X} → a ≡ b → a.world ≡ b.world
seen e = ap (λ w. w.world) e

pub over : {X : Type 0} {a b : ReadThrough X} (P : X → World → Type 0) → a ≡ b → P a.loader a.world → P b.loader b.world
over P e h = subst (λ w. P w.loader w.world) e h
