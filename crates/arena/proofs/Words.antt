-- Lemmas on the words of arrays.
use Rattle.std.proofs.Common.{◌≡◌, ℕ, zero, suc, ◌+◌, ◌-◌, ◌*◌, ◌%◌, ◌<◌, ◌≤◌, ◌^◌, List, [], ◌∷◌, ◌++◌, ℤ, pos, negsuc, Some, None, refl, sym, ◌∙◌, ap, length, get_or, take, drop, set, map, replicate, arith, FitsSigned}
use Rattle.std.specs.Prelude.{slice_get}
use Rattle.std.specs.Int.{w32, w64, cast_signed, cast_unsigned}
use Rattle.std.proofs.lemmas.List.{length-map, length-append, length-replicate, append-nil, append_assoc, take_at, drop_at, get_or_append_left, get_or-append-add, set-append_left, set-append_right, map-set, get_or-map, length-set}
use Rattle.std.proofs.lemmas.List.Sums.{sum_by-cons}
use Rattle.std.proofs.lemmas.Int.{to_z-of_z}
use Rattle.std.proofs.lemmas.Option.{slice_get_past}
use Rattle.std.proofs.lemmas.Bool.Decides.{nat_tests}
use Rattle.jtypes.specs.declared.operations.ArrayKind.{ArrayKind}
use Rattle.jtypes.specs.declared.operations.ArrayKind.TheVariants as array
use Rattle.jtypes.specs.Values.{Array, Arrays, new_array, words_of, item_at}
use Rattle.jtypes.specs.Lists.{change}
use Rattle.arena.specs.Held.{words_taken, with_element}
use Rattle.arena.specs.Placing.{place_of, element_place, FitsElement}
use Rattle.arena.specs.Stored.{header_of, length_in, kind_in, words_for, all_words, arrays_in, ElementsFit, AllElementsFit}

-- ---- headers

pub length_in-header_of : (kind : ArrayKind) (n : ℕ) → length_in (header_of kind n) ≡ n
length_in-header_of array.Int n = omega arith
length_in-header_of array.Long n = omega arith

pub kind_in-header_of : (kind : ArrayKind) (n : ℕ) → kind_in (header_of kind n) ≡ kind
kind_in-header_of array.Int n =
    let e : n * 2 % 2 ≡ 0 = omega arith in
    rw e refl
kind_in-header_of array.Long n =
    let e : (n * 2 + 1) % 2 ≡ 1 = omega arith in
    rw e refl

-- ---- words determine their arrays

pub signed_again : (kind : ArrayKind) (items : List ℤ) → ElementsFit kind items → map (cast_signed w64) (map (cast_unsigned w64) items) ≡ items
signed_again kind [] h = refl
signed_again kind (n ∷ items) h =
    let e : cast_signed w64 (cast_unsigned w64 n) ≡ n = to_z-of_z w64 n h.0 in
    let t : map (cast_signed w64) (map (cast_unsigned w64) items) ≡ items = signed_again kind items h.2 in
    rw (e, t) refl

pub arrays_in-all_words : (n : ℕ) (arrays : Arrays) → AllElementsFit arrays → length (all_words arrays) ≤ n → arrays_in n (all_words arrays) ≡ arrays
arrays_in-all_words zero [] h l = refl
arrays_in-all_words zero (a ∷ arrays) h l = absurd (omega arith)
arrays_in-all_words (suc n) [] h l = refl
arrays_in-all_words (suc n) (a ∷ arrays) h l =
    let us : List ℕ = map (cast_unsigned w64) a.items in
    let m : length us ≡ length a.items = length-map a.items (cast_unsigned w64) in
    let k : length_in (header_of a.kind (length a.items)) ≡ length a.items = length_in-header_of a.kind (length a.items) in
    let r : kind_in (header_of a.kind (length a.items)) ≡ a.kind = kind_in-header_of a.kind (length a.items) in
    let f : take (length a.items) (us ++ all_words arrays) ≡ us = take_at us (all_words arrays) (length a.items) m in
    let b : drop (length a.items) (us ++ all_words arrays) ≡ all_words arrays = drop_at us (all_words arrays) (length a.items) m in
    let s : map (cast_signed w64) us ≡ a.items = signed_again a.kind a.items h.0 in
    let t : arrays_in n (all_words arrays) ≡ arrays = arrays_in-all_words n arrays h.1 (omega (arith, length-append us (all_words arrays))) in
    rw (k, f, b, r, s, t) refl

-- ---- the number of words

pub length-words_for : (a : Array) → length (words_for a) ≡ words_of (length a.items)
length-words_for a = ap suc (length-map a.items (cast_unsigned w64))

pub length-all_words : (arrays : Arrays) → length (all_words arrays) ≡ words_taken arrays
length-all_words [] = refl
length-all_words (a ∷ arrays) =
    let s : words_taken (a ∷ arrays) ≡ words_of (length a.items) + words_taken arrays = sum_by-cons (λ (b : Array). words_of (length b.items)) a arrays in
    omega (arith, s, length-append (words_for a) (all_words arrays), length-words_for a, length-all_words arrays)

-- ---- a new array

pub all_words-push : (arrays : Arrays) (a : Array) → all_words (arrays ++ a ∷ []) ≡ all_words arrays ++ words_for a
all_words-push [] a = append-nil (words_for a)
all_words-push (b ∷ arrays) a = ap (λ ws. words_for b ++ ws) (all_words-push arrays a) ∙ sym (append_assoc (words_for b) (all_words arrays) (words_for a))

pub zeros_fit : (kind : ArrayKind) (n : ℕ) → ElementsFit kind (replicate n (pos 0))
zeros_fit kind zero = tt
zeros_fit array.Int (suc n) = (record { sfits = omega arith }, record { sfits = omega arith }, zeros_fit array.Int n)
zeros_fit array.Long (suc n) = (record { sfits = omega arith }, tt, zeros_fit array.Long n)

pub elements_fit-push : (arrays : Arrays) (a : Array) → AllElementsFit arrays → ElementsFit a.kind a.items → AllElementsFit (arrays ++ a ∷ [])
elements_fit-push [] a h f = (f, tt)
elements_fit-push (b ∷ arrays) a h f = (h.0, elements_fit-push arrays a h.1 f)

map-zeros : (n : ℕ) → map (cast_unsigned w64) (replicate n (pos 0)) ≡ replicate n 0
map-zeros zero = refl
map-zeros (suc n) = ap (λ (ws : List ℕ). 0 ∷ ws) (map-zeros n)

pub words_for-new_array : (kind : ArrayKind) (n : ℕ) → words_for (new_array kind n) ≡ header_of kind n ∷ replicate n 0
words_for-new_array kind n = rw (length-replicate n (pos 0), map-zeros n) refl

-- The words of the arrays and then `n + 1` zeros, the first overwritten with a header, are the words with a new array.
pub words_pushed : (arrays : Arrays) (kind : ArrayKind) (n place : ℕ) → place ≡ length (all_words arrays) → set (all_words arrays ++ replicate (suc n) 0) place (header_of kind n) ≡ all_words (arrays ++ new_array kind n ∷ [])
words_pushed arrays kind n place e =
    let z : place - length (all_words arrays) ≡ 0 = omega arith in
    let s : set (all_words arrays ++ replicate (suc n) 0) place (header_of kind n) ≡ all_words arrays ++ set (replicate (suc n) 0) (place - length (all_words arrays)) (header_of kind n) = set-append_right (all_words arrays) (replicate (suc n) 0) (length (all_words arrays)) place (header_of kind n) refl (omega arith) in
    rw (s, z, all_words-push arrays (new_array kind n), words_for-new_array kind n) refl

-- ---- reads

pub header_read : (arrays : Arrays) (k : ℕ) (a : Array) (d : ℕ) → slice_get arrays k ≡ Some a → get_or (all_words arrays) (place_of arrays k) d ≡ header_of a.kind (length a.items)
header_read [] k a d e = cc
header_read (b ∷ arrays) zero a d e =
    let t : b ≡ a = cc in
    ap (λ (c : Array). header_of c.kind (length c.items)) t
header_read (b ∷ arrays) (suc k) a d e =
    let l : length (words_for b) ≡ words_of (length b.items) = length-words_for b in
    let r : get_or (words_for b ++ all_words arrays) (length (words_for b) + place_of arrays k) d ≡ get_or (all_words arrays) (place_of arrays k) d = get_or-append-add (words_for b) (all_words arrays) (place_of arrays k) d in
    rw (← l) (r ∙ header_read arrays k a d e)

pub item_read : (arrays : Arrays) (k i place : ℕ) (a : Array) (d : ℕ) (e : ℤ) → slice_get arrays k ≡ Some a → i < length a.items → place ≡ place_of arrays k + suc i → get_or (all_words arrays) place d ≡ cast_unsigned w64 (get_or a.items i e)
item_read [] k i place a d e f l p = cc
item_read (b ∷ arrays) zero i place a d e f l p =
    let t : b ≡ a = cc in
    let q : place ≡ suc i = omega arith in
    let m : i < length b.items = rw t l in
    let n : i < length (map (cast_unsigned w64) b.items) = simp length-map m in
    let r : get_or (map (cast_unsigned w64) b.items ++ all_words arrays) i d ≡ get_or (map (cast_unsigned w64) b.items) i d = get_or_append_left (map (cast_unsigned w64) b.items) (all_words arrays) d i n in
    let s : get_or (map (cast_unsigned w64) b.items) i d ≡ cast_unsigned w64 (get_or b.items i e) = get_or-map (cast_unsigned w64) b.items i e d m in
    rw (q, r, s) (ap (λ (c : Array). cast_unsigned w64 (get_or c.items i e)) t)
item_read (b ∷ arrays) (suc k) i place a d e f l p =
    let m : length (words_for b) ≡ words_of (length b.items) = length-words_for b in
    let q : place ≡ length (words_for b) + (place_of arrays k + suc i) = omega arith in
    let r : get_or (words_for b ++ all_words arrays) (length (words_for b) + (place_of arrays k + suc i)) d ≡ get_or (all_words arrays) (place_of arrays k + suc i) d = get_or-append-add (words_for b) (all_words arrays) (place_of arrays k + suc i) d in
    rw q (r ∙ item_read arrays k i (place_of arrays k + suc i) a d e f l refl)

-- ---- a changed element

pub words_changed : (arrays : Arrays) (k i place : ℕ) (a : Array) (n : ℤ) → slice_get arrays k ≡ Some a → i < length a.items → place ≡ place_of arrays k + suc i → set (all_words arrays) place (cast_unsigned w64 n) ≡ all_words (change (with_element (pos i) n) arrays k)
words_changed [] k i place a n f l p = cc
words_changed (b ∷ arrays) zero i place a n f l p =
    let t : b ≡ a = cc in
    let q : place ≡ suc i = omega arith in
    let m : i < length b.items = rw t l in
    let j : i < length (map (cast_unsigned w64) b.items) = simp length-map m in
    let r : set (map (cast_unsigned w64) b.items ++ all_words arrays) i (cast_unsigned w64 n) ≡ set (map (cast_unsigned w64) b.items) i (cast_unsigned w64 n) ++ all_words arrays = set-append_left (map (cast_unsigned w64) b.items) (all_words arrays) i (cast_unsigned w64 n) j in
    let s : map (cast_unsigned w64) (set b.items i n) ≡ set (map (cast_unsigned w64) b.items) i (cast_unsigned w64 n) = map-set (cast_unsigned w64) b.items i n in
    let u : length (set b.items i n) ≡ length b.items = length-set b.items i n in
    rw (q, r, s, u) refl
words_changed (b ∷ arrays) (suc k) i place a n f l p =
    let m : length (words_for b) ≡ words_of (length b.items) = length-words_for b in
    let q : place - length (words_for b) ≡ place_of arrays k + suc i = omega arith in
    let r : set (words_for b ++ all_words arrays) place (cast_unsigned w64 n) ≡ words_for b ++ set (all_words arrays) (place - length (words_for b)) (cast_unsigned w64 n) = set-append_right (words_for b) (all_words arrays) (length (words_for b)) place (cast_unsigned w64 n) refl (omega arith) in
    let t : set (all_words arrays) (place_of arrays k + suc i) (cast_unsigned w64 n) ≡ all_words (change (with_element (pos i) n) arrays k) = words_changed arrays k i (place_of arrays k + suc i) a n f l refl in
    r ∙ rw (q, t) refl

elements_fit-set : (kind : ArrayKind) (items : List ℤ) (i : ℕ) (n : ℤ) → ElementsFit kind items → FitsSigned w64 n → FitsElement kind n → ElementsFit kind (set items i n)
elements_fit-set kind [] i n h f g = tt
elements_fit-set kind (m ∷ items) zero n h f g = (f, g, h.2)
elements_fit-set kind (m ∷ items) (suc i) n h f g = (h.0, h.1, elements_fit-set kind items i n h.2 f g)

pub elements_changed : (arrays : Arrays) (k i : ℕ) (a : Array) (n : ℤ) → AllElementsFit arrays → slice_get arrays k ≡ Some a → FitsSigned w64 n → FitsElement a.kind n → AllElementsFit (change (with_element (pos i) n) arrays k)
elements_changed [] k i a n h e f g = tt
elements_changed (b ∷ arrays) zero i a n h e f g =
    let t : b ≡ a = cc in
    let j : FitsElement b.kind n = rw t g in
    (elements_fit-set b.kind b.items i n h.0 f j, h.1)
elements_changed (b ∷ arrays) (suc k) i a n h e f g = (h.0, elements_changed arrays k i a n h.1 e f g)

pub array_elements : (arrays : Arrays) (k : ℕ) (a : Array) → AllElementsFit arrays → slice_get arrays k ≡ Some a → ElementsFit a.kind a.items
array_elements [] k a h e = cc
array_elements (b ∷ arrays) zero a h e =
    let t : b ≡ a = cc in
    rw (← t) h.0
array_elements (b ∷ arrays) (suc k) a h e = array_elements arrays k a h.1 e

pub element_fits : (kind : ArrayKind) (items : List ℤ) (i : ℕ) (e : ℤ) → ElementsFit kind items → i < length items → FitsSigned w64 (get_or items i e) × FitsElement kind (get_or items i e)
element_fits kind [] i e h l = absurd (omega arith)
element_fits kind (n ∷ items) zero e h l = (h.0, h.1)
element_fits kind (n ∷ items) (suc i) e h l = element_fits kind items i e h.2 (omega arith)

-- ---- indices

pub place_inside : (w : ℕ) (a : Array) (index : ℤ) → FitsSigned w32 index → cast_unsigned w64 index < length a.items → length a.items < 2 ^ 32 → element_place w a index ≡ Some (w + 1 + cast_unsigned w64 index)
place_inside w a (pos i) f l m = grind (arith, nat_tests)
place_inside w a (negsuc i) f l m = absurd (omega (arith, f.sfits))

pub place_outside : (w : ℕ) (a : Array) (index : ℤ) → length a.items ≤ cast_unsigned w64 index → element_place w a index ≡ None
place_outside w a (pos i) l = grind (arith, nat_tests)
place_outside w a (negsuc i) l = refl

pub record HasPlace (w : ℕ) (a : Array) (index : ℤ) (place : ℕ) : Type 0 where
  pub at : ℕ
  pub is_index : index ≡ pos at
  pub inside : at < length a.items
  pub is_place : place ≡ w + 1 + at

pub has_place : (w : ℕ) (a : Array) (index : ℤ) (place : ℕ) → Some place ≡ element_place w a index → HasPlace w a index place
has_place w a (pos i) place e = record { at = i; is_index = refl; inside = grind (arith, nat_tests); is_place = grind (arith, nat_tests) }
has_place w a (negsuc i) place e = cc

pub no_place : (w : ℕ) (a : Array) (index : ℤ) → None ≡ element_place w a index → item_at a.items index ≡ None
no_place w a (pos i) e = slice_get_past a.items i (grind (arith, nat_tests))
no_place w a (negsuc i) e = refl
