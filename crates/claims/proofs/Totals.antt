-- Sums over a list.
use Rattle.std.proofs.Common.{◌≡◌, ℕ, zero, suc, ◌+◌, ◌≤◌, List, [], ◌∷◌, ◌++◌, set, sym, ap, arith, refl}
use mathlib.Core.Option.{some, some-injective, some-ne-none}
use lib.ListN.{get_elem?}
use Rattle.claims.specs.Counters.{total}

module _ {A : Type 0} where
  pub total_append : (f : A → ℕ) (xs ys : List A) → total f (xs ++ ys) ≡ total f xs + total f ys
  total_append f [] ys = omega arith
  total_append f (x ∷ xs) ys = let h = total_append f xs ys in omega arith

  -- The sum after one element is changed.
  pub total_set : (f : A → ℕ) (l : List A) (i : ℕ) (v w : A) → get_elem? l i ≡ some v → total f (set l i w) + f v ≡ total f l + f w
  total_set f [] i v w e = absurd (some-ne-none v (sym e))
  total_set f (x ∷ xs) zero v w e = let h = ap f (some-injective x v e) in omega arith
  total_set f (x ∷ xs) (suc i) v w e = let h = total_set f xs i v w e in omega arith

  -- The value of each element is at most the sum.
  pub total_has : (f : A → ℕ) (l : List A) (i : ℕ) (v : A) → get_elem? l i ≡ some v → f v ≤ total f l
  total_has f [] i v e = absurd (some-ne-none v (sym e))
  total_has f (x ∷ xs) zero v e = let h = ap f (some-injective x v e) in omega arith
  total_has f (x ∷ xs) (suc i) v e = let h = total_has f xs i v e in omega arith

  -- The sum is monotone in `f`.
  pub total_most : (f g : A → ℕ) (l : List A) → ((j : ℕ) (w : A) → get_elem? l j ≡ some w → f w ≤ g w) → total f l ≤ total g l
  total_most f g [] most = omega arith
  total_most f g (x ∷ xs) most = let a = most 0 x refl in let b = total_most f g xs (λ j w e. most (suc j) w e) in omega arith

  -- If `f` is 0 where `g` is 0, and the sum of `g` is 0, the sum of `f` is 0.
  pub total_none : (f g : A → ℕ) (l : List A) → total g l ≡ 0 → ((j : ℕ) (w : A) → get_elem? l j ≡ some w → g w ≡ 0 → f w ≡ 0) → total f l ≡ 0
  total_none f g [] none z = refl
  total_none f g (x ∷ xs) none z = let a = z 0 x refl (omega arith) in let b = total_none f g xs (omega arith) (λ j w e. z (suc j) w e) in omega arith

  -- If `f` is 0 where `g` is 0, and one element has the whole sum of `g`, it has the whole sum of `f`.
  pub total_alone : (f g : A → ℕ) (l : List A) (i : ℕ) (v : A) → get_elem? l i ≡ some v → total g l ≡ g v → ((j : ℕ) (w : A) → get_elem? l j ≡ some w → g w ≡ 0 → f w ≡ 0) → total f l ≡ f v
  total_alone f g [] i v e all z = absurd (some-ne-none v (sym e))
  total_alone f g (x ∷ xs) zero v e all z = let a = ap g (some-injective x v e) in let b = ap f (some-injective x v e) in let c = total_none f g xs (omega arith) (λ j w h. z (suc j) w h) in omega arith
  total_alone f g (x ∷ xs) (suc i) v e all z =
      let h = total_has g xs i v e in
      let a = z 0 x refl (omega arith) in
      let b = total_alone f g xs i v e (omega arith) (λ j w h'. z (suc j) w h') in omega arith
