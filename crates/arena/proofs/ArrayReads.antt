-- Lemmas on reads of an arena's words.
use Rattle.std.proofs.Common.{◌≡◌, ℕ, zero, suc, ◌+◌, ◌<◌, ◌≤◌, List, [], ◌∷◌, ℤ, pos, Some, refl, ◌∙◌, ap, length, get_or, arith}
use Rattle.std.specs.Prelude.{slice_get, slice_index}
use Rattle.std.specs.Int.{w64, cast_signed, cast_unsigned}
use Rattle.std.proofs.lemmas.Int.{to_z-of_z}
use Rattle.std.proofs.lemmas.Option.{slice_get-get_or}
use Rattle.jtypes.specs.Values.{Array, Arrays, words_of, item_at}
use Rattle.arena.specs.declared.arena.Arena.TheInside.{Inside}
use Rattle.arena.specs.Held.{Held, words_taken}
use Rattle.arena.specs.Placing.{place_of, IsArrayAt, FitsElement}
use Rattle.arena.specs.Stored.{length_in, kind_in, all_words, arrays_of, held_in, ElementsFit, IsStored}
use Rattle.arena.proofs.Placing.{array_within}
use Rattle.arena.proofs.Words.{length_in-header_of, kind_in-header_of, length-all_words, header_read, item_read, array_elements, element_fits, HasPlace}

-- What holds of the words of an array that begins at word `w`.
pub record IsRead (words : List ℕ) (w : ℕ) (a : Array) : Type 0 where
  pub within : w + words_of (length a.items) ≤ length words
  pub count : length_in (slice_index words w) ≡ length a.items
  pub kind : kind_in (slice_index words w) ≡ a.kind
  pub item : (i : ℕ) → i < length a.items → slice_index words (w + 1 + i) ≡ cast_unsigned w64 (get_or a.items i (pos 0))
  pub elements : ElementsFit a.kind a.items

pub is_stored_as : (s : Inside) (held : Held) → IsStored s → held_in s ≡ held → s.words.items ≡ all_words held.arrays
is_stored_as s held h v = h.words ∙ ap (λ (x : Held). all_words x.arrays) v

pub is_read : (s : Inside) (held : Held) (k w : ℕ) (a : Array) → IsStored s → held_in s ≡ held → IsArrayAt held.arrays k w → slice_get held.arrays k ≡ Some a → IsRead s.words.items w a
is_read s held k w a h v at e =
    let p : s.words.items ≡ all_words held.arrays = is_stored_as s held h v in
    let q : arrays_of s ≡ held.arrays = ap (λ (x : Held). x.arrays) v in
    let f : slice_get (arrays_of s) k ≡ Some a = rw q e in
    let d : slice_index s.words.items w ≡ get_or (all_words held.arrays) (place_of held.arrays k) 0 = rw (p, at.place) refl in
    let r = d ∙ header_read held.arrays k a 0 e in
    record {
      within = omega (arith, ap length p, at.place, length-all_words held.arrays, array_within held.arrays k a e);
      count = rw r (length_in-header_of a.kind (length a.items));
      kind = rw r (kind_in-header_of a.kind (length a.items));
      item = λ i l. rw p (item_read held.arrays k i (w + 1 + i) a 0 (pos 0) e l (omega (arith, at.place)));
      elements = array_elements (arrays_of s) k a h.elements f;
    }

array_found : (arrays : Arrays) (k : ℕ) → k < length arrays → (a : Array) × (slice_get arrays k ≡ Some a)
array_found [] k l = absurd (omega arith)
array_found (a ∷ arrays) zero l = (a, refl)
array_found (a ∷ arrays) (suc k) l = array_found arrays k (omega arith)

-- An array begins at word `w`, with its properties.
pub record IsSomeRead (words : List ℕ) (arrays : Arrays) (w : ℕ) : Type 0 where
  pub number : ℕ
  pub array : Array
  pub at : IsArrayAt arrays number w
  pub is : slice_get arrays number ≡ Some array
  pub read : IsRead words w array
  pub taken : words_of (length array.items) ≤ words_taken arrays

pub some_read : (s : Inside) (held : Held) (w : ℕ) → IsStored s → held_in s ≡ held → (k : ℕ) × IsArrayAt held.arrays k w → IsSomeRead s.words.items held.arrays w
some_read s held w h v at =
    let f = array_found held.arrays at.0 at.1.there in
    record {
      number = at.0;
      array = f.0;
      at = at.1;
      is = f.1;
      read = is_read s held at.0 w f.0 h v at.1 f.1;
      taken = omega (arith, array_within held.arrays at.0 f.0 f.1);
    }

-- The element that is read.
pub record IsElementRead (a : Array) (index : ℤ) (word : ℕ) : Type 0 where
  pub item : item_at a.items index ≡ Some (cast_signed w64 word)
  pub fits : FitsElement a.kind (cast_signed w64 word)

pub element_read : (words : List ℕ) (w : ℕ) (a : Array) (index : ℤ) (place word : ℕ) → IsRead words w a → HasPlace w a index place → word ≡ slice_index words place → IsElementRead a index word
element_read words w a index place word r h e =
    let g = element_fits a.kind a.items h.at (pos 0) r.elements h.inside in
    let p : word ≡ cast_unsigned w64 (get_or a.items h.at (pos 0)) = e ∙ ap (slice_index words) h.is_place ∙ r.item h.at h.inside in
    let q : cast_signed w64 word ≡ get_or a.items h.at (pos 0) = ap (cast_signed w64) p ∙ to_z-of_z w64 (get_or a.items h.at (pos 0)) g.0 in
    record {
      item = rw (h.is_index, q) (slice_get-get_or a.items h.at (pos 0) h.inside);
      fits = rw q g.1;
    }
