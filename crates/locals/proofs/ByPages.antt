-- Lists of types, by their pages.
use Rattle.std.proofs.Common.{◌≡◌, ℕ, zero, suc, ◌+◌, ◌<◌, ◌≤◌, Bool, true, false, ◌&&◌, List, [], ◌∷◌, ◌++◌, length, take, drop, get_or, set, refl, sym, ap, ◌∙◌, arith, subst, map, inl, inr}
use Rattle.std.specs.Prelude.{slice_get, All}
use Rattle.std.proofs.lemmas.List.{length-append, get_or_append_left, get_or_push, get_or-set_same, get_or-set_other, length-set}
use Rattle.std.proofs.lemmas.Bool.{cases_eq}
use Rattle.std.proofs.lemmas.List.Elements.{All-head, All-tail, All-set, All-push}
use Rattle.jtypes.specs.declared.types.RefType.{RefType}
use Rattle.jtypes.specs.declared.types.RefType.TheVariants as ref
use Rattle.jtypes.specs.declared.types.JType.{JType}
use Rattle.jtypes.specs.declared.types.JType.TheVariants.{Top, Int, Long, Null, Ref}
use Rattle.jtypes.specs.Types.{assignable, ref_assignable}
use Rattle.locals.specs.Fits.{each_fits}
use Rattle.locals.specs.Written.{written}
use Rattle.locals.proofs.Writing.{written_left, written_right}
use Rattle.locals.specs.Held.{page, row_of, cut_of, AreInside, IsCutAs, AreCut, AreFitting, IsPlace}

-- ---- assignability

ref_fits_self : (r : RefType) → ref_assignable r r ≡ true
ref_fits_self ref.Object = refl
ref_fits_self ref.Number = refl
ref_fits_self ref.Long = refl
ref_fits_self ref.Integer = refl
ref_fits_self ref.Boolean = refl
ref_fits_self ref.Void = refl
ref_fits_self ref.This = refl
ref_fits_self ref.MutableEntry = refl
ref_fits_self ref.EntryProcessor = refl
ref_fits_self ref.CacheEntry = refl
ref_fits_self ref.IntArray = refl
ref_fits_self ref.LongArray = refl
ref_fits_self ref.ObjectArray = refl

type_fits_self : (t : JType) → assignable t t ≡ true
type_fits_self Top = refl
type_fits_self Int = refl
type_fits_self Long = refl
type_fits_self Null = refl
type_fits_self (Ref r) = ref_fits_self r

-- a list is assignable to itself
pub fits_self : (ts : List JType) → each_fits ts ts ≡ true
fits_self [] = refl
fits_self (t ∷ ts) = ap (λ b. b && each_fits ts ts) (type_fits_self t) ∙ fits_self ts

-- assignability of two lists, by parts of the same length
pub fits_parts : (ts us rest more : List JType) → length ts ≡ length us → each_fits (ts ++ rest) (us ++ more) ≡ (each_fits ts us && each_fits rest more)
fits_parts [] [] rest more e = refl
fits_parts [] (u ∷ us) rest more e = absurd (omega (arith, e))
fits_parts (t ∷ ts) [] rest more e = absurd (omega (arith, e))
fits_parts (t ∷ ts) (u ∷ us) rest more e = go (assignable t u) (fits_parts ts us rest more (omega (arith, e)))
  where
    go : (b : Bool) → each_fits (ts ++ rest) (us ++ more) ≡ (each_fits ts us && each_fits rest more) → (b && each_fits (ts ++ rest) (us ++ more)) ≡ ((b && each_fits ts us) && each_fits rest more)
    go true e = e
    go false e = refl

-- assignability of two suffixes with pages of the same lengths, by the first page and the rest
pub fits_from : (pages : List (List JType)) (row declared : List ℕ) (i : ℕ) → i < length row → cut_of pages declared ≡ cut_of pages row
    → each_fits (row_of pages (drop i row)) (row_of pages (drop i declared)) ≡ (each_fits (page pages (get_or row i 0)) (page pages (get_or declared i 0)) && each_fits (row_of pages (drop (suc i) row)) (row_of pages (drop (suc i) declared)))
fits_from pages [] declared i l e = absurd (omega (arith, l))
fits_from pages (a ∷ row) [] i l e = absurd (cc)
fits_from pages (a ∷ row) (d ∷ declared) zero l e =
    let same : length (page pages d) ≡ length (page pages a) = cc in
    fits_parts (page pages a) (page pages d) (row_of pages row) (row_of pages declared) (sym same)
fits_from pages (a ∷ row) (d ∷ declared) (suc i) l e =
    let rest : cut_of pages declared ≡ cut_of pages row = cc in
    fits_from pages row declared i (omega (arith, l)) rest

pub fits_on : (pages : List (List JType)) (row declared : List ℕ) (i : ℕ) (whole : Bool) → i < length row → cut_of pages declared ≡ cut_of pages row
    → whole ≡ each_fits (row_of pages (drop i row)) (row_of pages (drop i declared)) → each_fits (page pages (get_or row i 0)) (page pages (get_or declared i 0)) ≡ true
    → whole ≡ each_fits (row_of pages (drop (i + 1) row)) (row_of pages (drop (i + 1) declared))
fits_on pages row declared i whole l e so_far here =
    let next : suc i ≡ i + 1 = omega arith in
    so_far ∙ fits_from pages row declared i l e ∙ ap (λ b. b && each_fits (row_of pages (drop (suc i) row)) (row_of pages (drop (suc i) declared))) here
    ∙ ap (λ n. each_fits (row_of pages (drop n row)) (row_of pages (drop n declared))) next

pub fits_not : (pages : List (List JType)) (row declared : List ℕ) (i : ℕ) (whole : Bool) → i < length row → cut_of pages declared ≡ cut_of pages row
    → whole ≡ each_fits (row_of pages (drop i row)) (row_of pages (drop i declared)) → each_fits (page pages (get_or row i 0)) (page pages (get_or declared i 0)) ≡ false → whole ≡ false
fits_not pages row declared i whole l e so_far here =
    so_far ∙ fits_from pages row declared i l e ∙ ap (λ b. b && each_fits (row_of pages (drop (suc i) row)) (row_of pages (drop (suc i) declared))) here

pub cut_lengths : (pages : List (List JType)) (row declared : List ℕ) → cut_of pages declared ≡ cut_of pages row → length row ≡ length declared
cut_lengths pages [] [] e = refl
cut_lengths pages [] (d ∷ declared) e = absurd (cc)
cut_lengths pages (a ∷ row) [] e = absurd (cc)
cut_lengths pages (a ∷ row) (d ∷ declared) e =
    let rest : cut_of pages declared ≡ cut_of pages row = cc in
    ap suc (cut_lengths pages row declared rest)

-- ---- indexes

length_one_more : (pages : List (List JType)) (row : List ℕ) (i : ℕ) → i < length row → length (row_of pages (take (suc i) row)) ≡ length (row_of pages (take i row)) + length (page pages (get_or row i 0))
length_one_more pages [] i l = absurd (omega (arith, l))
length_one_more pages (a ∷ row) zero l = omega (arith, length-append (page pages a) [])
length_one_more pages (a ∷ row) (suc i) l =
    omega (arith, length-append (page pages a) (row_of pages (take (suc i) row)), length-append (page pages a) (row_of pages (take i row)), length_one_more pages row i (omega (arith, l)))

-- the number of types with one page more
pub length_more : (pages : List (List JType)) (row : List ℕ) (i : ℕ) → i < length row → length (row_of pages (take (i + 1) row)) ≡ length (row_of pages (take i row)) + length (page pages (get_or row i 0))
length_more pages row i l =
    let next : i + 1 ≡ suc i = omega arith in
    ap (λ n. length (row_of pages (take n row))) next ∙ length_one_more pages row i l

pub get_left : (xs ys : List JType) (k : ℕ) → k < length xs → slice_get (xs ++ ys) k ≡ slice_get xs k
get_left [] ys k l = absurd (omega (arith, l))
get_left (x ∷ xs) ys zero l = refl
get_left (x ∷ xs) ys (suc k) l = get_left xs ys k (omega (arith, l))

pub get_right : (xs ys : List JType) (k : ℕ) → slice_get (xs ++ ys) (length xs + k) ≡ slice_get ys k
get_right [] ys k = ap (λ n. slice_get ys n) (omega arith)
get_right (x ∷ xs) ys k =
    let e : suc (length xs) + k ≡ suc (length xs + k) = omega arith in
    ap (λ n. slice_get (x ∷ (xs ++ ys)) n) e ∙ get_right xs ys k

-- the type at an index, by its page
pub get_at : (pages : List (List JType)) (row : List ℕ) (i at : ℕ) → i < length row → at < length (page pages (get_or row i 0))
    → slice_get (row_of pages row) (length (row_of pages (take i row)) + at) ≡ slice_get (page pages (get_or row i 0)) at
get_at pages [] i at l h = absurd (omega (arith, l))
get_at pages (a ∷ row) zero at l h = ap (λ n. slice_get (page pages a ++ row_of pages row) n) (omega arith) ∙ get_left (page pages a) (row_of pages row) at h
get_at pages (a ∷ row) (suc i) at l h =
    let front : length (page pages a ++ row_of pages (take i row)) + at ≡ length (page pages a) + (length (row_of pages (take i row)) + at) = omega (arith, length-append (page pages a) (row_of pages (take i row))) in
    ap (λ n. slice_get (page pages a ++ row_of pages row) n) front ∙ get_right (page pages a) (row_of pages row) (length (row_of pages (take i row)) + at) ∙ get_at pages row i at (omega (arith, l)) h

-- a page doesn't change if another is added
pub same_page : (pages : List (List JType)) (new : List JType) (n : ℕ) → n < length pages → page (pages ++ new ∷ []) n ≡ page pages n
same_page pages new n l = get_or_append_left pages (new ∷ []) [] n l

pub same_row : (pages : List (List JType)) (new : List JType) (row : List ℕ) → AreInside pages row → row_of (pages ++ new ∷ []) row ≡ row_of pages row
same_row pages new [] h = refl
same_row pages new (a ∷ row) h =
    ap (λ p. p ++ row_of (pages ++ new ∷ []) row) (same_page pages new a (All-head (λ n. n < length pages) a row h))
    ∙ ap (λ r. page pages a ++ r) (same_row pages new row (All-tail (λ n. n < length pages) a row h))

-- a write in a page replaces its number by that of the page with the types
pub write_at : (pages : List (List JType)) (new : List JType) (row : List ℕ) (i at : ℕ) (types : List JType) → AreInside pages row → i < length row → at + length types ≤ length (page pages (get_or row i 0))
    → new ≡ written (page pages (get_or row i 0)) at types → page (pages ++ new ∷ []) (length pages) ≡ new → row_of (pages ++ new ∷ []) (set row i (length pages)) ≡ written (row_of pages row) (length (row_of pages (take i row)) + at) types
write_at pages new [] i at types h l k e f = absurd (omega (arith, l))
write_at pages new (a ∷ row) zero at types h l k e f =
    ap (λ p. p ++ row_of (pages ++ new ∷ []) row) (f ∙ e)
    ∙ ap (λ r. written (page pages a) at types ++ r) (same_row pages new row (All-tail (λ n. n < length pages) a row h))
    ∙ sym (written_left (page pages a) (row_of pages row) types at k)
    ∙ ap (λ n. written (page pages a ++ row_of pages row) n types) (omega arith)
write_at pages new (a ∷ row) (suc i) at types h l k e f =
    let front : length (page pages a) + (length (row_of pages (take i row)) + at) ≡ length (page pages a ++ row_of pages (take i row)) + at = omega (arith, length-append (page pages a) (row_of pages (take i row))) in
    ap (λ p. p ++ row_of (pages ++ new ∷ []) (set row i (length pages))) (same_page pages new a (All-head (λ n. n < length pages) a row h))
    ∙ ap (λ r. page pages a ++ r) (write_at pages new row i at types (All-tail (λ n. n < length pages) a row h) (omega (arith, l)) k e f)
    ∙ sym (written_right (page pages a) (row_of pages row) types (length (row_of pages (take i row)) + at))
    ∙ ap (λ n. written (page pages a ++ row_of pages row) n types) front

-- a write of types that a page has already changes nothing
there_at : (pages : List (List JType)) (row : List ℕ) (i at : ℕ) (types : List JType) → i < length row → at + length types ≤ length (page pages (get_or row i 0))
    → written (page pages (get_or row i 0)) at types ≡ page pages (get_or row i 0) → written (row_of pages row) (length (row_of pages (take i row)) + at) types ≡ row_of pages row
there_at pages [] i at types l k e = absurd (omega (arith, l))
there_at pages (a ∷ row) zero at types l k e =
    let here : length (row_of pages (take zero (a ∷ row))) + at ≡ at = omega arith in
    ap (λ n. written (page pages a ++ row_of pages row) n types) here ∙ written_left (page pages a) (row_of pages row) types at k ∙ ap (λ p. p ++ row_of pages row) e
there_at pages (a ∷ row) (suc i) at types l k e =
    let front : length (page pages a ++ row_of pages (take i row)) + at ≡ length (page pages a) + (length (row_of pages (take i row)) + at) = omega (arith, length-append (page pages a) (row_of pages (take i row))) in
    ap (λ n. written (page pages a ++ row_of pages row) n types) front ∙ written_right (page pages a) (row_of pages row) types (length (row_of pages (take i row)) + at)
    ∙ ap (λ r. page pages a ++ r) (there_at pages row i at types (omega (arith, l)) k e)

-- ---- the current types and the snapshots, if a page is added

inside_more : (pages : List (List JType)) (new : List JType) (row : List ℕ) → AreInside pages row → AreInside (pages ++ new ∷ []) row
inside_more pages new row h k d l = omega (arith, h k d l, length-append pages (new ∷ []))

same_cut : (pages : List (List JType)) (new : List JType) (row : List ℕ) → AreInside pages row → cut_of (pages ++ new ∷ []) row ≡ cut_of pages row
same_cut pages new [] h = refl
same_cut pages new (a ∷ row) h =
    ap (λ p. length p ∷ cut_of (pages ++ new ∷ []) row) (same_page pages new a (All-head (λ n. n < length pages) a row h))
    ∙ ap (λ r. length (page pages a) ∷ r) (same_cut pages new row (All-tail (λ n. n < length pages) a row h))

added_page : (pages : List (List JType)) (new : List JType) → page (pages ++ new ∷ []) (length pages) ≡ new
added_page pages new = get_or_push pages new [] (length pages) refl

set_cut : (pages : List (List JType)) (new : List JType) (row : List ℕ) (i : ℕ) → AreInside pages row → i < length row → length new ≡ length (page pages (get_or row i 0))
    → cut_of (pages ++ new ∷ []) (set row i (length pages)) ≡ cut_of pages row
set_cut pages new [] i h l e = absurd (omega (arith, l))
set_cut pages new (a ∷ row) zero h l e =
    ap (λ n. n ∷ cut_of (pages ++ new ∷ []) row) (ap (λ p. length p) (added_page pages new) ∙ e)
    ∙ ap (λ r. length (page pages a) ∷ r) (same_cut pages new row (All-tail (λ n. n < length pages) a row h))
set_cut pages new (a ∷ row) (suc i) h l e =
    ap (λ p. length p ∷ cut_of (pages ++ new ∷ []) (set row i (length pages))) (same_page pages new a (All-head (λ n. n < length pages) a row h))
    ∙ ap (λ r. length (page pages a) ∷ r) (set_cut pages new row i (All-tail (λ n. n < length pages) a row h) (omega (arith, l)) e)

-- the lists still have pages of the same lengths
pub still_cut : (pages more : List (List JType)) (new : List JType) (kept : List (List ℕ)) (row : List ℕ) (i : ℕ) → AreCut pages kept row → i < length row → length new ≡ length (page pages (get_or row i 0))
    → more ≡ pages ++ new ∷ [] → AreCut more kept (set row i (length pages))
still_cut pages more new kept row i h l e f =
    let P : List (List JType) → Type 0 = λ m. AreCut m kept (set row i (length pages)) in
    subst P (sym f) (record {
      inside = All-set (λ n. n < length (pages ++ new ∷ [])) row i (length pages) (omega (arith, length-append pages (new ∷ []))) (inside_more pages new row h.inside);
      others = λ k d b. let other = h.others k d b in record {
        inside = inside_more pages new _ other.inside;
        cut = same_cut pages new _ other.inside ∙ other.cut ∙ sym (set_cut pages new row i h.inside l e);
      };
    })

-- the snapshots don't change
pub still_kept : (pages more : List (List JType)) (new : List JType) (kept : List (List ℕ)) (row : List ℕ) → All (IsCutAs pages row) kept → more ≡ pages ++ new ∷ [] → map (row_of more) kept ≡ map (row_of pages) kept
still_kept pages more new [] row h f = refl
still_kept pages more new (ns ∷ kept) row h f =
    let one : row_of more ns ≡ row_of pages ns = ap (λ m. row_of m ns) f ∙ same_row pages new ns (All-head (IsCutAs pages row) ns kept h).inside in
    ap (λ r. r ∷ map (row_of more) kept) one ∙ ap (λ r. row_of pages ns ∷ r) (still_kept pages more new kept row (All-tail (IsCutAs pages row) ns kept h) f)

-- the current list has the written types
pub now_written : (pages more : List (List JType)) (new : List JType) (row : List ℕ) (n i at : ℕ) (types : List JType) → AreInside pages row → IsPlace pages row n i at → at + length types ≤ length (page pages (get_or row i 0))
    → new ≡ written (page pages (get_or row i 0)) at types → more ≡ pages ++ new ∷ [] → row_of more (set row i (length pages)) ≡ written (row_of pages row) n types
now_written pages more new row n i at types h p k e f =
    ap (λ m. row_of m (set row i (length pages))) f ∙ write_at pages new row i at types h p.index k e (added_page pages new) ∙ ap (λ m. written (row_of pages row) m types) (sym p.sum)

-- a write of types that the list has there changes nothing
pub now_there : (pages : List (List JType)) (row : List ℕ) (n i at : ℕ) (types : List JType) → IsPlace pages row n i at → at + length types ≤ length (page pages (get_or row i 0))
    → written (page pages (get_or row i 0)) at types ≡ page pages (get_or row i 0) → written (row_of pages row) n types ≡ row_of pages row
now_there pages row n i at types p k e = ap (λ m. written (row_of pages row) m types) p.sum ∙ there_at pages row i at types p.index k e

-- the type at an index is the one at its offset in its page
pub now_got : (pages : List (List JType)) (row : List ℕ) (n i at : ℕ) → IsPlace pages row n i at → slice_get (page pages (get_or row i 0)) at ≡ slice_get (row_of pages row) n
now_got pages row n i at p = sym (ap (λ m. slice_get (row_of pages row) m) p.sum ∙ get_at pages row i at p.index p.inside)

-- ---- pages that are known to be assignable

-- `AreFitting` still holds if a page that is assignable to another is recorded
pub found_fitting : (pages : List (List JType)) (fitting : List ℕ) (a d : ℕ) → AreFitting pages fitting → a < length pages → d < length pages → each_fits (page pages a) (page pages d) ≡ true → AreFitting pages (set fitting d a)
found_fitting pages fitting a d h l m e = record {
  len = length-set fitting d a ∙ h.len;
  inside = All-set (λ n. n < length pages) fitting d a l h.inside;
  each = λ k b. elim (cases_eq k d) [
    | inl same ↦ (let there : d < length fitting = omega (arith, h.len, m) in
        let P : ℕ → Type 0 = λ n. each_fits (page pages (get_or (set fitting d a) n 0)) (page pages n) ≡ true in
        subst P (sym same) (ap (λ n. each_fits (page pages n) (page pages d)) (get_or-set_same fitting d a 0 there) ∙ e))
    | inr other ↦ ap (λ n. each_fits (page pages n) (page pages k)) (get_or-set_other fitting d k a 0 other) ∙ h.each k b
  ];
}

-- `AreFitting` still holds if a page is added, with its own number
pub more_fitting : (pages more : List (List JType)) (new : List JType) (fitting longer : List ℕ) (n : ℕ) → AreFitting pages fitting → more ≡ pages ++ new ∷ [] → longer ≡ fitting ++ n ∷ [] → n ≡ length pages → AreFitting more longer
more_fitting pages more new fitting longer n h f g e =
    let bare : AreFitting (pages ++ new ∷ []) (fitting ++ length pages ∷ []) = record {
      len = omega (arith, h.len, length-append fitting (length pages ∷ []), length-append pages (new ∷ []));
      inside = All-push (λ k. k < length (pages ++ new ∷ [])) fitting (length pages) (inside_more pages new fitting h.inside) (omega (arith, length-append pages (new ∷ [])));
      each = λ k b. elim (cases_eq k (length pages)) [
        | inl same ↦ (let Q : ℕ → Type 0 = λ k. each_fits (page (pages ++ new ∷ []) (get_or (fitting ++ length pages ∷ []) k 0)) (page (pages ++ new ∷ []) k) ≡ true in
            subst Q (sym same) (ap (λ k. each_fits (page (pages ++ new ∷ []) k) (page (pages ++ new ∷ []) (length pages))) (get_or_push fitting (length pages) 0 (length pages) h.len)
            ∙ fits_self (page (pages ++ new ∷ []) (length pages))))
        | inr other ↦ (let old : k < length pages = omega (arith, b, other, length-append pages (new ∷ [])) in
            let there : k < length fitting = omega (arith, old, h.len) in
            ap (λ i. each_fits (page (pages ++ new ∷ []) i) (page (pages ++ new ∷ []) k)) (get_or_append_left fitting (length pages ∷ []) 0 k there)
            ∙ ap (λ p. each_fits p (page (pages ++ new ∷ []) k)) (same_page pages new (get_or fitting k 0) (h.inside k 0 there))
            ∙ ap (λ p. each_fits (page pages (get_or fitting k 0)) p) (same_page pages new k old)
            ∙ h.each k old)
      ];
    } in
    subst (λ m. AreFitting m longer) (sym f) (subst (λ l. AreFitting (pages ++ new ∷ []) l) (sym (g ∙ ap (λ k. fitting ++ k ∷ []) e)) bare)
