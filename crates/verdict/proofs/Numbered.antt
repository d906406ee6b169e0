-- Lemmas about elements by method index.
use Rattle.std.proofs.Common.{◌≡◌, ℕ, zero, suc, ◌+◌, ◌<◌, ◌≤◌, Bool, true, false, cond, List, [], ◌∷◌, ◌++◌, length, length-append, get_or, ◌-◌, refl, sym, ap, ◌∙◌, subst, arith, ◌⊎◌, inl, inr}
use Rattle.std.specs.Prelude.{map, All, ◌==◌}
use Rattle.std.proofs.lemmas.Bool.{ne_eqb, eq-eqb, cases_lt}
use Rattle.std.proofs.lemmas.List.{append-nil, get_or-map, length-map}
use Rattle.std.proofs.lemmas.List.Elements.{All-append}
use Rattle.verdict.specs.Judging.{numbers_but, AreNumbered}

pub one_all : {A : Type 0} (P : A → Type 0) (x : A) → P x → All P (x ∷ [])
one_all P x h zero d l = h
one_all P x h (suc k) d l = absurd (omega (arith, l))

pub map_more : {A : Type 0} (f : A → ℕ) (xs : List A) (x : A) → map f (xs ++ x ∷ []) ≡ map f xs ++ f x ∷ []
map_more f [] x = refl
map_more f (y ∷ xs) x = ap (λ (l : List ℕ). f y ∷ l) (map_more f xs x)

-- An element for the next number extends the list.
pub next_numbered : {A : Type 0} (number : A → ℕ) (P : A → Type 0) (c n : ℕ) (xs : List A) (x : A) → AreNumbered number P c n xs → (n ≡ c → ⊥) → number x ≡ n → P x → AreNumbered number P c (n + 1) (xs ++ x ∷ [])
next_numbered number P c n xs x h other is p =
    let more : AreNumbered number P c (suc n) (xs ++ x ∷ []) = record {
      numbers = map_more number xs x ∙ ap (λ (k : ℕ). map number xs ++ k ∷ []) is ∙ ap (λ (l : List ℕ). l ++ n ∷ []) h.numbers ∙ ap (λ b. numbers_but c n ++ cond b [] (n ∷ [])) (sym (ne_eqb n c other));
      each = All-append P xs (x ∷ []) h.each (one_all P x p);
    } in
    subst (λ (k : ℕ). AreNumbered number P c k (xs ++ x ∷ [])) (omega arith) more

-- The excluded number needs no element.
pub skip_numbered : {A : Type 0} (number : A → ℕ) (P : A → Type 0) (c n : ℕ) (xs : List A) → AreNumbered number P c n xs → n ≡ c → AreNumbered number P c (n + 1) xs
skip_numbered number P c n xs h same =
    let more : AreNumbered number P c (suc n) xs = record {
      numbers = h.numbers ∙ sym (append-nil (numbers_but c n)) ∙ ap (λ b. numbers_but c n ++ cond b [] (n ∷ [])) (sym (eq-eqb n c same));
      each = h.each;
    } in
    subst (λ (k : ℕ). AreNumbered number P c k xs) (omega arith) more

-- ---- the numbers

abbrev one_but : ℕ → ℕ → List ℕ
one_but c n = cond (n == c) [] (n ∷ [])

-- An element of a concatenation is in the first or in the second list.
at_left : (xs ys : List ℕ) (i : ℕ) → i < length xs → get_or (xs ++ ys) i 0 ≡ get_or xs i 0
at_left [] ys i l = absurd (omega (arith, l))
at_left (x ∷ xs) ys zero l = refl
at_left (x ∷ xs) ys (suc i) l = at_left xs ys i (omega (arith, l))

at_right : (xs ys : List ℕ) (i k : ℕ) → k ≡ length xs + i → get_or (xs ++ ys) k 0 ≡ get_or ys i 0
at_right [] ys i k e = ap (λ (j : ℕ). get_or ys j 0) (omega (arith, e))
at_right (x ∷ xs) ys i zero e = absurd (omega (arith, e))
at_right (x ∷ xs) ys i (suc k) e = at_right xs ys i k (omega (arith, e))

-- The last number of the range, unless it is excluded.
last_is : (c n i : ℕ) → i < length (one_but c n) → (get_or (one_but c n) i 0 ≡ n) × (i ≡ 0) × (n ≡ c → ⊥)
last_is c n i l = go (n == c) refl l
  where
    go : (b : Bool) → (n == c) ≡ b → i < length (cond b [] (n ∷ [])) → (get_or (cond b [] (n ∷ [])) i 0 ≡ n) × (i ≡ 0) × (n ≡ c → ⊥)
    go true e l = absurd (omega (arith, l))
    go false e l = let first : i ≡ 0 = omega (arith, l) in (ap (λ (k : ℕ). get_or (n ∷ []) k 0) first, first, λ s. let t : true ≡ false = sym (eq-eqb n c s) ∙ e in cc)

record At (c n : ℕ) (i : ℕ) : Type 0 where
  below : get_or (numbers_but c n) i 0 < n
  other : get_or (numbers_but c n) i 0 ≡ c → ⊥

at : (c n i : ℕ) → i < length (numbers_but c n) → At c n i
at c zero i l = absurd (omega (arith, l))
at c (suc n) i l = go (cases_lt i (length (numbers_but c n))) (at c n i)
  where
    go : (i < length (numbers_but c n)) ⊎ (length (numbers_but c n) ≤ i) → (i < length (numbers_but c n) → At c n i) → At c (suc n) i
    go (inl less) before =
        let here = at_left (numbers_but c n) (one_but c n) i less in
        let b = before less in
        let low = b.below in
        record { below = omega (arith, here, low); other = λ e. b.other (sym here ∙ e) }
    go (inr more) before =
        let whole = length-append (numbers_but c n) (one_but c n) in
        let k : ℕ = i - length (numbers_but c n) in
        let index : i ≡ length (numbers_but c n) + k = omega (arith, more) in
        let inside : k < length (one_but c n) = omega (arith, l, whole, index) in
        let here : get_or (numbers_but c (suc n)) i 0 ≡ get_or (one_but c n) k 0 = at_right (numbers_but c n) (one_but c n) k i index in
        let last = last_is c n k inside in
        let is = last.0 in
        record { below = omega (arith, here, is); other = λ e. last.2 (sym is ∙ sym here ∙ e) }

-- No number of the list is the excluded one.
pub rest_other : (c n : ℕ) (front : List ℕ) (k : ℕ) (rest : List ℕ) → front ++ k ∷ rest ≡ numbers_but c n → k ≡ c → ⊥
rest_other c n front k rest e is =
    let whole : length (front ++ k ∷ rest) ≡ length front + length (k ∷ rest) = length-append front (k ∷ rest) in
    let inside : length front < length (numbers_but c n) = omega (arith, whole, ap length e) in
    let element : get_or (front ++ k ∷ rest) (length front) 0 ≡ k = at_right front (k ∷ rest) 0 (length front) (omega arith) in
    (at c n (length front) inside).other (ap (λ (xs : List ℕ). get_or xs (length front) 0) (sym e) ∙ element ∙ is)

rising : (c n i j : ℕ) → i < j → j < length (numbers_but c n) → get_or (numbers_but c n) i 0 < get_or (numbers_but c n) j 0
rising c zero i j less l = absurd (omega (arith, l))
rising c (suc n) i j less l = go (cases_lt j (length (numbers_but c n))) (rising c n i j less)
  where
    go : (j < length (numbers_but c n)) ⊎ (length (numbers_but c n) ≤ j) → (j < length (numbers_but c n) → get_or (numbers_but c n) i 0 < get_or (numbers_but c n) j 0) → get_or (numbers_but c (suc n)) i 0 < get_or (numbers_but c (suc n)) j 0
    go (inl inside) before =
        let first = at_left (numbers_but c n) (one_but c n) i (omega (arith, less, inside)) in
        let second = at_left (numbers_but c n) (one_but c n) j inside in
        let k = before inside in
        omega (arith, first, second, k)
    go (inr more) before =
        let whole = length-append (numbers_but c n) (one_but c n) in
        let k : ℕ = j - length (numbers_but c n) in
        let index : j ≡ length (numbers_but c n) + k = omega (arith, more) in
        let inside : k < length (one_but c n) = omega (arith, l, whole, index) in
        let last = last_is c n k inside in
        let one = last.1 in
        let low : i < length (numbers_but c n) = omega (arith, index, one, less) in
        let here : get_or (numbers_but c (suc n)) j 0 ≡ n = at_right (numbers_but c n) (one_but c n) k j index ∙ last.0 in
        let there = at_left (numbers_but c n) (one_but c n) i low in
        let below = (at c n i low).below in
        omega (arith, here, there, below)

has_one : (c n k : ℕ) → k < n → (k ≡ c → ⊥) → (i : ℕ) × (i < length (numbers_but c n)) × (get_or (numbers_but c n) i 0 ≡ k)
has_one c zero k l other = absurd (omega (arith, l))
has_one c (suc n) k l other = go (cases_lt k n) (λ less. has_one c n k less other)
  where
    whole : length (numbers_but c (suc n)) ≡ length (numbers_but c n) + length (one_but c n)
    whole = length-append (numbers_but c n) (one_but c n)

    go : (k < n) ⊎ (n ≤ k) → (k < n → (i : ℕ) × (i < length (numbers_but c n)) × (get_or (numbers_but c n) i 0 ≡ k)) → (i : ℕ) × (i < length (numbers_but c (suc n))) × (get_or (numbers_but c (suc n)) i 0 ≡ k)
    go (inl less) before =
        let b = before less in
        let inside = b.1 in
        (b.0, omega (arith, inside, whole), at_left (numbers_but c n) (one_but c n) b.0 inside ∙ b.2)
    go (inr more) before =
        let same : k ≡ n = omega (arith, more, l) in
        let single : one_but c n ≡ n ∷ [] = ap (λ b. cond b [] (n ∷ [])) (ne_eqb n c (λ e. other (same ∙ e))) in
        let long : length (one_but c n) ≡ 1 = ap length single in
        let index : length (numbers_but c n) ≡ length (numbers_but c n) + 0 = omega arith in
        (length (numbers_but c n), omega (arith, whole, long), at_right (numbers_but c n) (one_but c n) 0 (length (numbers_but c n)) index ∙ ap (λ (l : List ℕ). get_or l 0 0) single ∙ sym same)

-- ---- the elements' numbers

module _ {A : Type 0} (number : A → ℕ) (P : A → Type 0) (c n : ℕ) (xs : List A) (h : AreNumbered number P c n xs) where
  long : length (numbers_but c n) ≡ length xs
  long = ap length (sym h.numbers) ∙ length-map xs number

  number_is : (i : ℕ) (d : A) → i < length xs → number (get_or xs i d) ≡ get_or (numbers_but c n) i 0
  number_is i d l = sym (get_or-map number xs i d 0 l) ∙ ap (λ (l : List ℕ). get_or l i 0) h.numbers

  pub below_count : (i : ℕ) (d : A) → i < length xs → number (get_or xs i d) < n
  below_count i d l = let is = number_is i d l in let low = (at c n i (omega (arith, l, long))).below in omega (arith, is, low)

  pub not_the_one : (i : ℕ) (d : A) → i < length xs → number (get_or xs i d) ≡ c → ⊥
  not_the_one i d l e = (at c n i (omega (arith, l, long))).other (sym (number_is i d l) ∙ e)

  pub numbers_rise : (i j : ℕ) (d : A) → i < j → j < length xs → number (get_or xs i d) < number (get_or xs j d)
  numbers_rise i j d less l =
      let first = number_is i d (omega (arith, less, l)) in
      let second = number_is j d l in
      let r = rising c n i j less (omega (arith, l, long)) in
      omega (arith, first, second, r)

  pub each_has_one : (k : ℕ) → k < n → (k ≡ c → ⊥) → (i : ℕ) × (i < length xs) × ((d : A) → number (get_or xs i d) ≡ k)
  each_has_one k l other =
      let o = has_one c n k l other in
      let inside = o.1 in
      let within : o.0 < length xs = omega (arith, inside, long) in
      (o.0, within, λ d. number_is o.0 d within ∙ o.2)
