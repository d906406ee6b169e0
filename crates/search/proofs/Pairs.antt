-- The answers of a comparison, pair by pair.
use Rattle.std.proofs.Common.{◌≡◌, ◌<◌, ◌+◌, ℕ, ℤ, add-one, Bool, true, false, not, List, [], ◌∷◌, ◌++◌, length, drop, drop-cons, get_or, map, refl, sym, ap, ◌∙◌, if◌then◌else◌}
use Rattle.std.specs.Bool.{beq}
use Rattle.std.specs.Prelude.{None, slice_get}
use Rattle.jtypes.specs.declared.operations.Comparison.{Comparison}
use Rattle.jtypes.specs.Arithmetic.{compare}
use Rattle.unrolled.specs.Known.{answers, all_are, unanimous}

differs : (b : Bool) → not b ≡ true → b ≡ false
differs true e = absurd cc
differs false e = refl

agrees : (b : Bool) → not b ≡ false → b ≡ true
agrees true e = refl
agrees false e = absurd cc

drop_here : {A : Type 0} (xs : List A) (i : ℕ) (d : A) → i < length xs → drop i xs ≡ get_or xs i d ∷ drop (i + 1) xs
drop_here xs i d h = drop-cons xs i d h ∙ ap (λ n. get_or xs i d ∷ drop n xs) (sym (add-one i))

-- ---- one int with each of a list

row_at : (f : ℤ → Bool) (answer r : Bool) (bs : List ℤ) (i : ℕ) (d : ℤ) → i < length bs → r ≡ f (get_or bs i d)
    → all_are answer (map f (drop i bs)) ≡ (if beq answer r then all_are answer (map f (drop (i + 1) bs)) else false)
row_at f answer r bs i d h e =
    ap (λ xs. all_are answer (map f xs)) (drop_here bs i d h) ∙ ap (λ x. if beq answer x then all_are answer (map f (drop (i + 1) bs)) else false) (sym e)

pub row_stops : (f : ℤ → Bool) (answer r whole : Bool) (bs : List ℤ) (i : ℕ) (d : ℤ) → i < length bs → r ≡ f (get_or bs i d) → not (beq answer r) ≡ true
    → whole ≡ all_are answer (map f (drop i bs)) → false ≡ whole
row_stops f answer r whole bs i d h e n so_far =
    sym (so_far ∙ row_at f answer r bs i d h e ∙ ap (λ b. if b then all_are answer (map f (drop (i + 1) bs)) else false) (differs _ n))

-- ---- each of a list with each of another

all_append : (answer : Bool) (xs ys : List Bool) → all_are answer (xs ++ ys) ≡ (if all_are answer xs then all_are answer ys else false)
all_append answer [] ys = refl
all_append answer (x ∷ xs) ys = go (beq answer x) (all_are answer xs) _ (all_append answer xs ys)
  where
    go : (b c : Bool) (whole : Bool) → whole ≡ (if c then all_are answer ys else false)
        → (if b then whole else false) ≡ (if if b then c else false then all_are answer ys else false)
    go true c whole e = e
    go false c whole e = refl

all_at : (c : Comparison) (answer r : Bool) (left right : List ℤ) (i : ℕ) (d : ℤ) → i < length left → r ≡ all_are answer (map (compare c (get_or left i d)) right)
    → all_are answer (answers c (drop i left) right) ≡ (if r then all_are answer (answers c (drop (i + 1) left) right) else false)
all_at c answer r left right i d h e =
    ap (λ xs. all_are answer (answers c xs right)) (drop_here left i d h)
    ∙ all_append answer (map (compare c (get_or left i d)) right) (answers c (drop (i + 1) left) right)
    ∙ ap (λ x. if x then all_are answer (answers c (drop (i + 1) left) right) else false) (sym e)

pub all_stops : (c : Comparison) (answer r whole : Bool) (left right : List ℤ) (i : ℕ) (d : ℤ) → i < length left
    → r ≡ all_are answer (map (compare c (get_or left i d)) right) → r ≡ false
    → whole ≡ all_are answer (answers c (drop i left) right) → false ≡ whole
all_stops c answer r whole left right i d h e n so_far =
    sym (so_far ∙ all_at c answer r left right i d h e ∙ ap (λ b. if b then all_are answer (answers c (drop (i + 1) left) right) else false) n)

pub all_goes_on : (c : Comparison) (answer r whole : Bool) (left right : List ℤ) (i : ℕ) (d : ℤ) → i < length left
    → r ≡ all_are answer (map (compare c (get_or left i d)) right) → r ≡ true
    → whole ≡ all_are answer (answers c (drop i left) right) → whole ≡ all_are answer (answers c (drop (i + 1) left) right)
all_goes_on c answer r whole left right i d h e n so_far =
    so_far ∙ all_at c answer r left right i d h e ∙ ap (λ b. if b then all_are answer (answers c (drop (i + 1) left) right) else false) n

no_answers : (c : Comparison) (left : List ℤ) → answers c left [] ≡ []
no_answers c [] = refl
no_answers c (a ∷ left) = no_answers c left

-- without a second int there is no answer
pub none_answered : (c : Comparison) (left right : List ℤ) → slice_get right 0 ≡ None → None ≡ unanimous (answers c left right)
none_answered c left [] e = sym (ap unanimous (no_answers c left))
none_answered c left (b ∷ right) e = absurd cc
