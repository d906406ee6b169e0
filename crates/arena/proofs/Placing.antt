-- Lemmas on the word indices of arrays.
use Rattle.std.proofs.Common.{◌≡◌, ℕ, zero, suc, ◌+◌, ◌<◌, ◌≤◌, [], ◌∷◌, ◌++◌, ℤ, pos, negsuc, Some, refl, sym, ◌∙◌, ap, length, arith}
use Rattle.std.proofs.lemmas.List.{length-append, length-set}
use Rattle.std.proofs.lemmas.List.Sums.{sum_by-cons}
use Rattle.std.proofs.lemmas.Option.{slice_get_within}
use Rattle.std.specs.Prelude.{slice_get}
use Rattle.jtypes.specs.Values.{Array, Arrays, words_of}
use Rattle.jtypes.specs.Lists.{change}
use Rattle.arena.specs.Held.{words_taken, with_element}
use Rattle.arena.specs.Placing.{place_of, IsArrayAt}

-- ---- one more array

pub place_of-append : (arrays : Arrays) (a : Array) (k : ℕ) → k < length arrays → place_of (arrays ++ a ∷ []) k ≡ place_of arrays k
place_of-append [] a k l = absurd (omega arith)
place_of-append (b ∷ arrays) a zero l = refl
place_of-append (b ∷ arrays) a (suc k) l = ap (λ p. words_of (length b.items) + p) (place_of-append arrays a k (omega arith))

pub array_kept : (arrays : Arrays) (a : Array) (k w : ℕ) → IsArrayAt arrays k w → IsArrayAt (arrays ++ a ∷ []) k w
array_kept arrays a k w h = record {
  there = omega (arith, length-append arrays (a ∷ []), h.there);
  place = h.place ∙ sym (place_of-append arrays a k h.there);
}

pub place_of-end : (arrays : Arrays) (a : Array) → place_of (arrays ++ a ∷ []) (length arrays) ≡ words_taken arrays
place_of-end [] a = refl
place_of-end (b ∷ arrays) a = ap (λ p. words_of (length b.items) + p) (place_of-end arrays a) ∙ sym (sum_by-cons (λ (c : Array). words_of (length c.items)) b arrays)

-- A new array begins after all other arrays.
pub array_added : (arrays : Arrays) (a : Array) → IsArrayAt (arrays ++ a ∷ []) (length arrays) (words_taken arrays)
array_added arrays a = record {
  there = omega (arith, length-append arrays (a ∷ []));
  place = sym (place_of-end arrays a);
}

-- ---- a changed element

pub length-with_element : (i n : ℤ) (a : Array) → length (with_element i n a).items ≡ length a.items
length-with_element (pos i) n a = length-set a.items i n
length-with_element (negsuc i) n a = refl

pub length-change_element : (arrays : Arrays) (j : ℕ) (i n : ℤ) → length (change (with_element i n) arrays j) ≡ length arrays
length-change_element [] j i n = refl
length-change_element (a ∷ arrays) zero i n = refl
length-change_element (a ∷ arrays) (suc j) i n = ap suc (length-change_element arrays j i n)

pub place_of-change : (arrays : Arrays) (j k : ℕ) (i n : ℤ) → place_of (change (with_element i n) arrays j) k ≡ place_of arrays k
place_of-change [] j k i n = refl
place_of-change (a ∷ arrays) zero zero i n = refl
place_of-change (a ∷ arrays) zero (suc k) i n = ap (λ m. words_of m + place_of arrays k) (length-with_element i n a)
place_of-change (a ∷ arrays) (suc j) zero i n = refl
place_of-change (a ∷ arrays) (suc j) (suc k) i n = ap (λ p. words_of (length a.items) + p) (place_of-change arrays j k i n)

pub array_changed : (arrays : Arrays) (j k w : ℕ) (i n : ℤ) → IsArrayAt arrays k w → IsArrayAt (change (with_element i n) arrays j) k w
array_changed arrays j k w i n h = record {
  there = omega (arith, length-change_element arrays j i n, h.there);
  place = h.place ∙ sym (place_of-change arrays j k i n);
}

-- ---- word indices are unique

same_place : (arrays : Arrays) (k j : ℕ) → k < length arrays → j < length arrays → place_of arrays k ≡ place_of arrays j → k ≡ j
same_place [] k j l m e = absurd (omega arith)
same_place (a ∷ arrays) zero zero l m e = refl
same_place (a ∷ arrays) zero (suc j) l m e = absurd (omega arith)
same_place (a ∷ arrays) (suc k) zero l m e = absurd (omega arith)
same_place (a ∷ arrays) (suc k) (suc j) l m e = ap suc (same_place arrays k j (omega arith) (omega arith) (omega arith))

pub one_array : (arrays : Arrays) (k j w : ℕ) → IsArrayAt arrays k w → IsArrayAt arrays j w → k ≡ j
one_array arrays k j w h g = same_place arrays k j h.there g.there (sym h.place ∙ g.place)

pub array_there : (arrays : Arrays) (k : ℕ) (a : Array) → slice_get arrays k ≡ Some a → k < length arrays
array_there arrays k a e = slice_get_within arrays k a e

pub array_within : (arrays : Arrays) (k : ℕ) (a : Array) → slice_get arrays k ≡ Some a → place_of arrays k + words_of (length a.items) ≤ words_taken arrays
array_within [] k a e = cc
array_within (b ∷ arrays) zero a e =
    let s : words_taken (b ∷ arrays) ≡ words_of (length b.items) + words_taken arrays = sum_by-cons (λ (c : Array). words_of (length c.items)) b arrays in
    let t : b ≡ a = cc in
    let u : length b.items ≡ length a.items = ap (λ (c : Array). length c.items) t in
    omega (arith, s, u)
array_within (b ∷ arrays) (suc k) a e =
    let s : words_taken (b ∷ arrays) ≡ words_of (length b.items) + words_taken arrays = sum_by-cons (λ (c : Array). words_of (length c.items)) b arrays in
    omega (arith, s, array_within arrays k a e)

pub array_fits_words : (arrays : Arrays) (k : ℕ) (a : Array) → slice_get arrays k ≡ Some a → words_of (length a.items) ≤ words_taken arrays
array_fits_words arrays k a e = omega (arith, array_within arrays k a e)
