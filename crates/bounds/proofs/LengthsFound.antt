-- The lengths of new arrays, by tests of single instructions.
use Rattle.std.proofs.Common.{◌≡◌, ◌≢◌, ℕ, zero, suc, ◌<◌, ◌≤◌, Bool, true, false, cond, not, ◌&&◌, ◌||◌, List, [], ◌∷◌, length, get_or, Option, Some, None, refl, sym, ap, ◌∙◌, subst, arith, ◌⊎◌, inl, inr}
use Rattle.std.specs.Prelude.{Contains, ◌==◌, Result, Ok, Err, is_ok, MatchResult, T, ℤ, pos}
use Rattle.std.specs.Int.Signed.{le_z}
use Rattle.std.specs.Ordering.{nat_cmp}
use Rattle.std.specs.List.Sorted.{IsBinarySearchResult}
use Rattle.std.proofs.lemmas.Bool.{and_parts, eqb-true, eq-eqb, ne_eqb, false≢true, cases_lt}
use Rattle.std.proofs.lemmas.List.Sorted.{searched}
use Rattle.jtypes.specs.declared.operations.ArrayKind.{ArrayKind}
use Rattle.decode.specs.declared.instruction.Instruction.{Instruction}
use Rattle.decode.specs.declared.instruction.Instruction.TheVariants.{NewArray}
use Rattle.decode.specs.declared.instruction.Placed.{Placed}
use Rattle.decode.specs.Places.{at_place, pushed_before}
use Rattle.decode.specs.Reading.{RisesFrom}
use Rattle.typecheck.specs.Mismatch.{HasLength, IsLength}
use Rattle.typecheck.specs.DeclaredPlaces.{ArePlacesRising}
use Rattle.typecheck.specs.declared.typed.Typed.{Typed}
use Rattle.typecheck.proofs.LackingFrames.{rising_is_consecutive, element_stands, standing_is}
use Rattle.bounds.specs.Lengths.{HasLengths, OneLacksLength, is_length, is_among, has_length}
use Rattle.bounds.specs.Told.{LacksLengthAt, OneLacksLengthAt}

-- ---- the search among pcs

among_at : (xs : List ℕ) (q i d : ℕ) → i < length xs → get_or xs i d ≡ q → is_among xs q ≡ true
among_at [] q i d l e = absurd (omega (arith, l))
among_at (x ∷ xs) q zero d l e = ap (λ b. b || is_among xs q) (eq-eqb x q e)
among_at (x ∷ xs) q (suc i) d l e = go (x == q) (among_at xs q i d (omega (arith, l)) e)
  where
    go : (b : Bool) → is_among xs q ≡ true → b || is_among xs q ≡ true
    go true h = refl
    go false h = h

not_among : (xs : List ℕ) (q : ℕ) → ((i : ℕ) → i < length xs → get_or xs i 0 ≢ q) → is_among xs q ≡ false
not_among [] q none = refl
not_among (x ∷ xs) q none = ap (λ b. b || is_among xs q) (ne_eqb x q (none 0 (omega arith))) ∙ not_among xs q (λ i l. none (suc i) (omega (arith, l)))

pub search_says : (xs : List ℕ) (q : ℕ) (r : Result ℕ ℕ) → IsBinarySearchResult (λ y. nat_cmp y q) xs r → ArePlacesRising xs → is_ok r ≡ is_among xs q
search_says xs q r h rise = go r (searched xs q r h up)
  where
    up : (i j : ℕ) → i ≤ j → j < length xs → get_or xs i 0 ≤ get_or xs j 0
    up i j le l = of (cases_lt i j)
      where
        of : (i < j) ⊎ (j ≤ i) → get_or xs i 0 ≤ get_or xs j 0
        of (inl less) = let k = rise i j less l in omega (arith, k)
        of (inr more) = let same : i ≡ j = omega (arith, le, more) in let e = ap (λ (n : ℕ). get_or xs n 0) same in omega (arith, e)

    go : (r : Result ℕ ℕ) → MatchResult r (λ i. (i < length xs) × (get_or xs i 0 ≡ q)) (λ i. (i ≤ length xs) × ((k : ℕ) → k < i → get_or xs k 0 < q) × ((k : ℕ) → i ≤ k → k < length xs → q < get_or xs k 0)) → is_ok r ≡ is_among xs q
    go (Ok i) m = sym (among_at xs q i 0 m.0 m.1)
    go (Err i) m = sym (not_among xs q (λ k l e. of k l e (cases_lt k i)))
      where
        of : (k : ℕ) → k < length xs → get_or xs k 0 ≡ q → (k < i) ⊎ (i ≤ k) → ⊥
        of k l e (inl less) = let n = m.1 k less in omega (arith, n, e)
        of k l e (inr more) = let n = m.2 k more l in omega (arith, n, e)

contains_is : (xs : List ℕ) (q : ℕ) → Contains xs q → is_among xs q ≡ true
contains_is xs q c = among_at xs q c.0 q c.1 c.2

is_contained : (xs : List ℕ) (q : ℕ) → is_among xs q ≡ true → Contains xs q
is_contained [] q e = cc
is_contained (x ∷ xs) q e = go (x == q) refl (is_contained xs q) e
  where
    go : (b : Bool) → (x == q) ≡ b → (is_among xs q ≡ true → Contains xs q) → b || is_among xs q ≡ true → Contains (x ∷ xs) q
    go true is later f = (0, omega arith, eqb-true x q is)
    go false is later f = let r = later f in let l = r.1 in (suc r.0, omega (arith, l), r.2)

-- ---- lengths

is_true : (b : Bool) → b ≡ true → T b
is_true b e = subst T (sym e) tt

true_is : (b : Bool) → T b → b ≡ true
true_is true t = refl
true_is false t = absurd t

length_is : (o : Option ℤ) → is_length o ≡ true → (n : ℤ) × (o ≡ Some n) × IsLength n
length_is None e = cc
length_is (Some n) e =
    let both = and_parts (le_z (pos 0) n) (le_z n (pos 65_535)) e in
    (n, refl, (record { le = is_true (le_z (pos 0) n) both.0 }, record { le = is_true (le_z n (pos 65_535)) both.1 }))

is_length_of : (o : Option ℤ) (n : ℤ) → o ≡ Some n → IsLength n → is_length o ≡ true
is_length_of o n e l = ap is_length e ∙ ap (λ b. b && le_z n (pos 65_535)) (true_is (le_z (pos 0) n) l.0.le) ∙ true_is (le_z n (pos 65_535)) l.1.le

-- a `newarray`
new_has : (row : Typed) (p : Placed) (k : ArrayKind) → has_length row p (NewArray k) ≡ true → HasLength row.code p.place × (Contains row.declared.items p.place → ⊥)
new_has row p k e = go (is_length (pushed_before row.code p.place)) refl (is_among row.declared.items p.place) refl e
  where
    go : (a : Bool) → is_length (pushed_before row.code p.place) ≡ a → (b : Bool) → is_among row.declared.items p.place ≡ b → a && not b ≡ true → HasLength row.code p.place × (Contains row.declared.items p.place → ⊥)
    go false x b y f = cc
    go true x true y f = cc
    go true x false y f = (length_is (pushed_before row.code p.place) x, λ c. false≢true (sym y ∙ contains_is row.declared.items p.place c))

new_lacks : (row : Typed) (p : Placed) (k : ArrayKind) → has_length row p (NewArray k) ≡ false → (HasLength row.code p.place → ⊥) ⊎ Contains row.declared.items p.place
new_lacks row p k e = go (is_length (pushed_before row.code p.place)) refl (is_among row.declared.items p.place) refl e
  where
    go : (a : Bool) → is_length (pushed_before row.code p.place) ≡ a → (b : Bool) → is_among row.declared.items p.place ≡ b → a && not b ≡ false → (HasLength row.code p.place → ⊥) ⊎ Contains row.declared.items p.place
    go false x b y f = inl (λ h. false≢true (sym x ∙ is_length_of (pushed_before row.code p.place) h.0 h.1 h.2))
    go true x true y f = inr (is_contained row.declared.items p.place y)
    go true x false y f = cc

-- ---- the instructions of a typed method

stands_at : (code : List Placed) (q : ℕ) (p : Placed) → at_place code q ≡ Some p → p.place ≡ q
stands_at [] q p e = cc
stands_at (x ∷ code) q p e = go (x.place == q) refl (stands_at code q p) e
  where
    go : (b : Bool) → (x.place == q) ≡ b → (at_place code q ≡ Some p → p.place ≡ q) → cond b (Some x) (at_place code q) ≡ Some p → p.place ≡ q
    go true is later f = let same : x ≡ p = cc f in ap (λ (y : Placed). y.place) (sym same) ∙ eqb-true x.place q is
    go false is later f = later f

pub all_have : (row : Typed) → ((k : ℕ) (d : Placed) → k < length row.code → has_length row (get_or row.code k d) (get_or row.code k d).instruction ≡ true) → HasLengths row
all_have row each q p k e is =
    let at = standing_is row.code q p e in
    let one : has_length row p p.instruction ≡ true = subst (λ (x : Placed). has_length row x x.instruction ≡ true) (at.2 p) (each at.0 p at.1) in
    let new : has_length row p (NewArray k) ≡ true = subst (λ (i : Instruction). has_length row p i ≡ true) is one in
    subst (λ (n : ℕ). HasLength row.code n × (Contains row.declared.items n → ⊥)) (stands_at row.code q p e) (new_has row p k new)

kind_of : (row : Typed) (p : Placed) (i : Instruction) → p.instruction ≡ i → at_place row.code p.place ≡ Some p → has_length row p i ≡ false → LacksLengthAt row p.place
kind_of row p (NewArray k) is at e = (p, k, at, is, new_lacks row p k e)
kind_of row p i is at e = cc

pub one_lacks : (row : Typed) (items : List Placed) (k : ℕ) (p : Placed) → items ≡ row.code → RisesFrom 0 row.code → k < length items → ((d : Placed) → p ≡ get_or items k d) → has_length row p p.instruction ≡ false → LacksLengthAt row p.place
one_lacks row items k p same rises l is e =
    let inside : k < length row.code = subst (λ (xs : List Placed). k < length xs) same l in
    let element : p ≡ get_or row.code k p = is p ∙ ap (λ (xs : List Placed). get_or xs k p) same in
    let stands = element_stands 0 row.code (rising_is_consecutive 0 row.code rises) k p inside in
    let here : at_place row.code p.place ≡ Some p = subst (λ (x : Placed). at_place row.code x.place ≡ Some x) (sym element) stands.1 in
    kind_of row p p.instruction refl here e

-- a length that is missing at a pc is missing in some method
pub lacks_somewhere : (rows : List Typed) (number place : ℕ) → OneLacksLengthAt rows number place → OneLacksLength rows
lacks_somewhere rows number place (i, row, l, is, of, lacks) = (i, row, l, is, λ rise. let h = lacks rise in (place, h.0, h.1, h.2, h.3, h.4))
