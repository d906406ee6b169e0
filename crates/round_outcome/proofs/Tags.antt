-- The elements of several lists, each with its indices.
use Rattle.std.proofs.Common.{◌≡◌, ℕ, zero, suc, ◌+◌, List, [], ◌∷◌, ◌++◌, map, refl, sym, ap, ◌∙◌, subst, inl, inr, ⊎_elim, arith}
use Rattle.std.specs.Prelude.{flat_map}
use Rattle.std.proofs.lemmas.List.{map-append}
use mathlib.Core.Option.{some, some-injective, some-ne-none}
use lib.ListN.{get_elem?}
use Rattle.round_outcome.proofs.Members.{In, Distinct, in_left, in_right, in_either, distinct_append}

-- The list at index `i`, or the empty list.
abbrev pub at : {X : Type 0} → List (List X) → ℕ → List X
at [] i = []
at (l ∷ ls) zero = l
at (l ∷ ls) (suc i) = at ls i

module _ {X T : Type 0} (tag : ℕ → ℕ → X → T) where
  abbrev pub row : ℕ → ℕ → List X → List T
  row i q [] = []
  row i q (x ∷ xs) = tag i q x ∷ row i (suc q) xs

  abbrev pub rows : ℕ → List (List X) → List T
  rows i [] = []
  rows i (l ∷ ls) = row i 0 l ++ rows (suc i) ls

  pub record Stands (b : T) (i q : ℕ) (xs : List X) : Type 0 where
    pub k : ℕ
    pub x : X
    pub there : get_elem? xs k ≡ some x
    pub is : b ≡ tag i (q + k) x

  pub out_row : (b : T) (i q : ℕ) (xs : List X) → In b (row i q xs) → Stands b i q xs
  out_row b i q [] h = absurd h
  out_row b i q (x ∷ xs) h = ⊎_elim
      (λ (e : b ≡ tag i q x). record { k = 0; x = x; there = refl; is = e ∙ ap (λ n. tag i n x) (omega arith) })
      (λ (j : In b (row i (suc q) xs)). let s = out_row b i (suc q) xs j in record { k = suc s.k; x = s.x; there = s.there; is = s.is ∙ ap (λ n. tag i n s.x) (omega arith) })
      h

  pub in_row : (i q : ℕ) (xs : List X) (k : ℕ) (x : X) → get_elem? xs k ≡ some x → In (tag i (q + k) x) (row i q xs)
  in_row i q [] k x e = absurd (some-ne-none x (sym e))
  in_row i q (y ∷ ys) zero x e = inl ((λ j. tag i (add_none q j) (sym (some-injective y x e) j)))
    where
      add_none : (n : ℕ) → n + 0 ≡ n
      add_none n = omega arith
  in_row i q (y ∷ ys) (suc k) x e = inr (subst (λ n. In (tag i n x) (row i (suc q) ys)) (next q k) (in_row i (suc q) ys k x e))
    where
      next : (n m : ℕ) → suc n + m ≡ n + suc m
      next n m = omega arith

  pub record Lies (b : T) (i : ℕ) (ls : List (List X)) : Type 0 where
    pub j : ℕ
    pub k : ℕ
    pub x : X
    pub there : get_elem? (at ls j) k ≡ some x
    pub is : b ≡ tag (i + j) k x

  pub out_rows : (b : T) (i : ℕ) (ls : List (List X)) → In b (rows i ls) → Lies b i ls
  out_rows b i [] h = absurd h
  out_rows b i (l ∷ ls) h = ⊎_elim
      (λ (s : In b (row i 0 l)). let o = out_row b i 0 l s in record { j = 0; k = o.k; x = o.x; there = o.there; is = o.is ∙ both (i) (i + 0) (0 + o.k) o.k o.x (omega arith) (omega arith) })
      (λ (s : In b (rows (suc i) ls)). let o = out_rows b (suc i) ls s in record { j = suc o.j; k = o.k; x = o.x; there = o.there; is = o.is ∙ both (suc i + o.j) (i + suc o.j) o.k o.k o.x (omega arith) refl })
      (in_either b (row i 0 l) (rows (suc i) ls) h)
    where
      both : (a b p q : ℕ) (x : X) → a ≡ b → p ≡ q → tag a p x ≡ tag b q x
      both a b p q x e f = λ n. tag (e n) (f n) x

  pub in_rows : (i : ℕ) (ls : List (List X)) (j k : ℕ) (x : X) → get_elem? (at ls j) k ≡ some x → In (tag (i + j) k x) (rows i ls)
  in_rows i [] j k x e = absurd (some-ne-none x (sym e))
  in_rows i (l ∷ ls) zero k x e = in_left (tag (i + 0) k x) (row i 0 l) (rows (suc i) ls) (subst (λ t. In t (row i 0 l)) (same i k) (in_row i 0 l k x e))
    where
      same : (n m : ℕ) → tag n (0 + m) x ≡ tag (n + 0) m x
      same n m = let a : 0 + m ≡ m = omega arith in let b : n ≡ n + 0 = omega arith in λ t. tag (b t) (a t) x
  in_rows i (l ∷ ls) (suc j) k x e = in_right (tag (i + suc j) k x) (row i 0 l) (rows (suc i) ls) (subst (λ n. In (tag n k x) (rows (suc i) ls)) (next i j) (in_rows (suc i) ls j k x e))
    where
      next : (n m : ℕ) → suc n + m ≡ n + suc m
      next n m = omega arith

  module _ (place : T → ℕ × ℕ) (tells : (i q : ℕ) (x : X) → place (tag i q x) ≡ (i, q)) where
    distinct_row : (i q : ℕ) (xs : List X) → Distinct (row i q xs)
    distinct_row i q [] = tt
    distinct_row i q (x ∷ xs) = (
      λ h.
          let o = out_row (tag i q x) i (suc q) xs h in
          let e : (i, q) ≡ (i, suc q + o.k) = sym (tells i q x) ∙ ap place o.is ∙ tells i (suc q + o.k) o.x in
          let f : q ≡ suc q + o.k = ap (λ (p : ℕ × ℕ). p.1) e in
          absurd (omega arith),
      distinct_row i (suc q) xs,
    )

    pub distinct_rows : (i : ℕ) (ls : List (List X)) → Distinct (rows i ls)
    distinct_rows i [] = tt
    distinct_rows i (l ∷ ls) = distinct_append (row i 0 l) (rows (suc i) ls) (distinct_row i 0 l) (distinct_rows (suc i) ls) (λ b h g.
        let a = out_row b i 0 l h in
        let o = out_rows b (suc i) ls g in
        let e : (i, 0 + a.k) ≡ (suc i + o.j, o.k) = sym (tells i (0 + a.k) a.x) ∙ ap place (sym a.is ∙ o.is) ∙ tells (suc i + o.j) o.k o.x in
        let f : i ≡ suc i + o.j = ap (λ (p : ℕ × ℕ). p.0) e in
        absurd (omega arith))

  module _ {V : Type 0} (value : T → V) (of : X → V) (is : (i q : ℕ) (x : X) → value (tag i q x) ≡ of x) where
    value_row : (i q : ℕ) (xs : List X) → map value (row i q xs) ≡ map of xs
    value_row i q [] = refl
    value_row i q (x ∷ xs) = λ n. is i q x n ∷ value_row i (suc q) xs n

    pub value_rows : (i : ℕ) (ls : List (List X)) → map value (rows i ls) ≡ map of (flat_map (λ l. l) ls)
    value_rows i [] = refl
    value_rows i (l ∷ ls) =
        map-append value (row i 0 l) (rows (suc i) ls)
        ∙ (λ n. value_row i 0 l n ++ value_rows (suc i) ls n)
        ∙ sym (map-append of l (flat_map (λ x. x) ls))
