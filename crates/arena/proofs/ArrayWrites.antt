-- Lemmas on writes of an arena's words.
use Rattle.std.proofs.Common.{◌≡◌, ℕ, suc, ◌+◌, ◌<◌, ◌≤◌, ◌^◌, List, [], ◌∷◌, ◌++◌, ℤ, pos, Some, refl, sym, ◌∙◌, ap, length, replicate, arith, FitsSigned}
use Rattle.std.specs.Prelude.{slice_get, slice_set}
use Rattle.std.specs.Int.{w64, cast_unsigned}
use Rattle.std.proofs.lemmas.List.{length-append, length-replicate, length-set}
use Rattle.jtypes.specs.declared.operations.ArrayKind.{ArrayKind}
use Rattle.jtypes.specs.Values.{Array, Arrays, new_array}
use Rattle.jtypes.specs.Lists.{change}
use Rattle.rawwords.specs.Row.{Row}
use Rattle.arena.specs.declared.arena.Arena.TheInside.{Inside}
use Rattle.arena.specs.Held.{Held, with_element}
use Rattle.arena.specs.Placing.{IsArrayAt, FitsElement}
use Rattle.arena.specs.Stored.{header_of, all_words, arrays_in, held_in, AllElementsFit, IsStored}
use Rattle.arena.proofs.Words.{arrays_in-all_words, words_pushed, words_changed, zeros_fit, elements_fit-push, elements_changed, HasPlace}
use Rattle.arena.proofs.ArrayReads.{is_stored_as}

-- An arena with these words has these arrays.
pub record IsWritten (row : Row) (arrays : Arrays) : Type 0 where
  pub same : arrays_in (length row.items) row.items ≡ arrays
  pub stored : IsStored record { words = row }

pub is_written : (row : Row) (arrays : Arrays) → row.items ≡ all_words arrays → AllElementsFit arrays → length row.items ≤ row.capacity → row.capacity < 2 ^ 32 → IsWritten row arrays
is_written row arrays e h l m =
    let n : length (all_words arrays) ≤ length row.items = omega (arith, ap length e) in
    let t : arrays_in (length row.items) (all_words arrays) ≡ arrays = arrays_in-all_words (length row.items) arrays h n in
    let q : arrays_in (length row.items) row.items ≡ arrays = ap (λ (ws : List ℕ). arrays_in (length row.items) ws) e ∙ t in
    record {
      same = q;
      stored = record { words = e ∙ ap all_words (sym q); elements = rw q h; room = l; few = m };
    }

-- A new array after all other arrays.
pub array_pushed : (s : Inside) (held : Held) (row : Row) (kind : ArrayKind) (n : ℕ) → IsStored s → held_in s ≡ held → row ≡ record { items = slice_set (s.words.items ++ replicate (suc n) 0) (length s.words.items) (header_of kind n); capacity = s.words.capacity } → length s.words.items + suc n ≤ s.words.capacity → IsWritten row (held.arrays ++ new_array kind n ∷ [])
array_pushed s held row kind n h v e l =
    let p : s.words.items ≡ all_words held.arrays = is_stored_as s held h v in
    let f : AllElementsFit held.arrays = rw (ap (λ (x : Held). x.arrays) v) at h.elements in
    let i : slice_set (s.words.items ++ replicate (suc n) 0) (length s.words.items) (header_of kind n) ≡ all_words (held.arrays ++ new_array kind n ∷ []) = rw p (words_pushed held.arrays kind n (length (all_words held.arrays)) refl) in
    let j : row.items ≡ all_words (held.arrays ++ new_array kind n ∷ []) = ap (λ (r : Row). r.items) e ∙ i in
    let c : row.capacity ≡ s.words.capacity = ap (λ (r : Row). r.capacity) e in
    let k : length row.items ≡ length s.words.items + suc n = ap (λ (r : Row). length r.items) e ∙ length-set (s.words.items ++ replicate (suc n) 0) (length s.words.items) (header_of kind n) ∙ length-append s.words.items (replicate (suc n) 0) ∙ ap (λ m. length s.words.items + m) (length-replicate (suc n) 0) in
    is_written row (held.arrays ++ new_array kind n ∷ []) j (elements_fit-push held.arrays (new_array kind n) f (zeros_fit kind n)) (omega (arith, k, c)) (omega (arith, c, h.few))

-- One element is changed.
pub array_written : (s : Inside) (held : Held) (row : Row) (k w place : ℕ) (a : Array) (index value : ℤ) → IsStored s → held_in s ≡ held → IsArrayAt held.arrays k w → slice_get held.arrays k ≡ Some a → HasPlace w a index place → FitsSigned w64 value → FitsElement a.kind value → row ≡ record { items = slice_set s.words.items place (cast_unsigned w64 value); capacity = s.words.capacity } → IsWritten row (change (with_element index value) held.arrays k)
array_written s held row k w place a index value h v at e g f j r =
    let p : s.words.items ≡ all_words held.arrays = is_stored_as s held h v in
    let q : AllElementsFit held.arrays = rw (ap (λ (x : Held). x.arrays) v) at h.elements in
    let t : slice_set s.words.items place (cast_unsigned w64 value) ≡ all_words (change (with_element (pos g.at) value) held.arrays k) = rw p (words_changed held.arrays k g.at place a value e g.inside (omega (arith, at.place, g.is_place))) in
    let c : row.capacity ≡ s.words.capacity = ap (λ (x : Row). x.capacity) r in
    let n : length row.items ≡ length s.words.items = ap (λ (x : Row). length x.items) r ∙ length-set s.words.items place (cast_unsigned w64 value) in
    let u : row.items ≡ all_words (change (with_element (pos g.at) value) held.arrays k) = ap (λ (x : Row). x.items) r ∙ t in
    let y : IsWritten row (change (with_element (pos g.at) value) held.arrays k) = is_written row (change (with_element (pos g.at) value) held.arrays k) u (elements_changed held.arrays k g.at a value q e f j) (omega (arith, n, c, h.room)) (omega (arith, c, h.few)) in
    rw g.is_index y
