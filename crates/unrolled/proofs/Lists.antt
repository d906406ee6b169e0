-- Lemmas on lists by index.
use Rattle.std.proofs.Common.{◌≡◌, ℕ, zero, suc, List, [], ◌∷◌, ◌++◌, Some, refl, ap, ◌⊎◌, inl, inr}
use Rattle.std.specs.Prelude.{slice_get, map}

pub map_one : {A B : Type 0} (f : A → B) (xs : List A) (i : ℕ) (x : A) → slice_get xs i ≡ Some x → slice_get (map f xs) i ≡ Some (f x)
map_one f [] i x e = cc
map_one f (y ∷ xs) zero x e = let same : y ≡ x = cc e in ap (λ z. Some (f z)) same
map_one f (y ∷ xs) (suc i) x e = map_one f xs i x e

pub first_one : {A : Type 0} (xs ys : List A) (i : ℕ) (x : A) → slice_get xs i ≡ Some x → slice_get (xs ++ ys) i ≡ Some x
first_one [] ys i x e = cc
first_one (y ∷ xs) ys zero x e = e
first_one (y ∷ xs) ys (suc i) x e = first_one xs ys i x e

pub later_one : {A : Type 0} (xs ys : List A) (i : ℕ) (x : A) → slice_get ys i ≡ Some x → (n : ℕ) × (slice_get (xs ++ ys) n ≡ Some x)
later_one [] ys i x e = (i, e)
later_one (y ∷ xs) ys i x e = let r = later_one xs ys i x e in (suc r.0, r.1)

pub in_parts : {A : Type 0} (xs ys : List A) (n : ℕ) (y : A) → slice_get (xs ++ ys) n ≡ Some y → ((k : ℕ) × (slice_get xs k ≡ Some y)) ⊎ ((k : ℕ) × (slice_get ys k ≡ Some y))
in_parts [] ys n y e = inr (n, e)
in_parts (x ∷ xs) ys zero y e = inl (0, e)
in_parts (x ∷ xs) ys (suc n) y e = go (in_parts xs ys n y e)
  where
    go : ((k : ℕ) × (slice_get xs k ≡ Some y)) ⊎ ((k : ℕ) × (slice_get ys k ≡ Some y)) → ((k : ℕ) × (slice_get (x ∷ xs) k ≡ Some y)) ⊎ ((k : ℕ) × (slice_get ys k ≡ Some y))
    go (inl (k, f)) = inl (suc k, f)
    go (inr r) = inr r

pub unmapped : {A B : Type 0} (f : A → B) (xs : List A) (n : ℕ) (y : B) → slice_get (map f xs) n ≡ Some y → (x : A) × (slice_get xs n ≡ Some x) × (f x ≡ y)
unmapped f [] n y e = cc
unmapped f (x ∷ xs) zero y e = (x, refl, cc e)
unmapped f (x ∷ xs) (suc n) y e = unmapped f xs n y e
