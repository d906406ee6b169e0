-- A function with one value changed, and lists by index.
use Rattle.std.proofs.Common.{◌≡◌, ◌≢◌, ◌⊎◌, ℕ, zero, suc, ◌+◌, ◌<◌, List, [], ◌∷◌, ◌++◌, length, take, sym, refl, ap, ◌∙◌, inl, inr, arith}
use mathlib.Core.Logic.{dite}
use mathlib.Core.Option.{some, some-injective, some-ne-none}
use native.Mathlib.Decide.{ℕ_discrete}
use lib.ListN.{get_elem?}

pub by_place : {P : Type 0} (i j : ℕ) → (j ≡ i → P) → (j ≢ i → P) → P
by_place i j = dite (ℕ_discrete j i)

module _ {A : Type 0} where
  abbrev pub pick : {P : Type 0} → Dec P → A → A → A
  pick (yes _) x y = x
  pick (no _) x y = y

  unfoldable pub put : (ℕ → A) → ℕ → A → ℕ → A
  put f i x j = pick (ℕ_discrete j i) x (f j)

  pub put_here : (f : ℕ → A) (i : ℕ) (x : A) → put f i x i ≡ x
  unfolding put
  put_here f i x = go (ℕ_discrete i i)
    where
      go : (d : Dec (i ≡ i)) → pick d x (f i) ≡ x
      go (yes _) = refl
      go (no n) = absurd (n refl)

  pub put_else : (f : ℕ → A) (i j : ℕ) (x : A) → j ≢ i → put f i x j ≡ f j
  unfolding put
  put_else f i j x n = go (ℕ_discrete j i)
    where
      go : (d : Dec (j ≡ i)) → pick d x (f j) ≡ f j
      go (yes e) = absurd (n e)
      go (no _) = refl

  pub put_same : (f : ℕ → A) (i j : ℕ) → put f i (f i) j ≡ f j
  unfolding put
  put_same f i j = go (ℕ_discrete j i)
    where
      go : (d : Dec (j ≡ i)) → pick d (f i) (f j) ≡ f j
      go (yes e) = ap f (sym e)
      go (no _) = refl

  pub within : (l : List A) (i : ℕ) (a : A) → get_elem? l i ≡ some a → i < length l
  within [] i a e = absurd (some-ne-none a (sym e))
  within (x ∷ xs) zero a e = omega arith
  within (x ∷ xs) (suc i) a e = let h = within xs i a e in omega arith

  pub get_length : (l : List A) (a b : A) (j : ℕ) → get_elem? (l ++ a ∷ []) j ≡ some b → (get_elem? l j ≡ some b) ⊎ ((j ≡ length l) × (a ≡ b))
  get_length [] a b zero e = inr (refl, some-injective a b e)
  get_length [] a b (suc j) e = absurd (some-ne-none b (sym e))
  get_length (x ∷ xs) a b zero e = inl e
  get_length (x ∷ xs) a b (suc j) e = step (get_length xs a b j e)
    where
      step : (get_elem? xs j ≡ some b) ⊎ ((j ≡ length xs) × (a ≡ b)) → (get_elem? xs j ≡ some b) ⊎ ((suc j ≡ suc (length xs)) × (a ≡ b))
      step (inl h) = inl h
      step (inr h) = inr (ap suc h.0, h.1)

  pub append_cases : (l m : List A) (n : ℕ) (a : A) → get_elem? (l ++ m) n ≡ some a → (get_elem? l n ≡ some a) ⊎ ((k : ℕ) × (get_elem? m k ≡ some a))
  append_cases [] m n a e = inr (n, e)
  append_cases (x ∷ xs) m zero a e = inl e
  append_cases (x ∷ xs) m (suc n) a e = append_cases xs m n a e

  pub at_middle : (xs : List A) (y : A) (zs : List A) → get_elem? (xs ++ y ∷ zs) (length xs) ≡ some y
  at_middle [] y zs = refl
  at_middle (x ∷ xs) y zs = at_middle xs y zs

  pub take_at : (l : List A) (i : ℕ) (a : A) → get_elem? l i ≡ some a → take (i + 1) l ≡ take i l ++ a ∷ []
  take_at [] i a e = absurd (some-ne-none a (sym e))
  take_at (x ∷ xs) zero a e = λ k. some-injective x a e k ∷ []
  take_at (x ∷ xs) (suc i) a e = ap (λ (n : ℕ). take n (x ∷ xs)) (let h : suc i + 1 ≡ suc (i + 1) = omega arith in h) ∙ ap (λ (l : List A). x ∷ l) (take_at xs i a e)

  -- The element that a loop yields after `ys` has the index `length ys`.
  pub at_yielded : (ys zs ws : List A) (x : A) (all : List A) → zs ≡ x ∷ ws → ys ++ zs ≡ all → get_elem? all (length ys) ≡ some x
  at_yielded ys zs ws x all e f = ap (λ (l : List A). get_elem? l (length ys)) (sym f ∙ ap (λ (l : List A). ys ++ l) e) ∙ at_middle ys x ws
