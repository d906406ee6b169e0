-- Blank lists of types, by their pages.
use Rattle.std.proofs.Common.{◌≡◌, ℕ, zero, suc, ◌+◌, ◌*◌, ◌/◌, ◌%◌, ◌<◌, ◌≤◌, Bool, true, false, List, [], ◌∷◌, ◌++◌, length, set, replicate, refl, sym, ap, ◌∙◌, append_assoc, subst, arith}
use Rattle.std.specs.Prelude.{nat_lt, if◌then◌else◌}
use Rattle.std.proofs.lemmas.List.Elements.{All-append, All-replicate, All-cons, All-nil}
use Rattle.std.proofs.lemmas.List.{replicate-append-replicate, append-nil}
use Rattle.jtypes.specs.declared.types.JType.{JType}
use Rattle.jtypes.specs.declared.types.JType.TheVariants.{Top}
use Rattle.locals.specs.Held.{row_of, blank_pages, AreInside, AreCut}

-- the page numbers of a blank list
pub blank_numbers : (k : ℕ) → set {A = ℕ} (replicate (k + 1) 1) k 0 ≡ replicate k 1 ++ 0 ∷ []
blank_numbers zero = refl
blank_numbers (suc k) =
    let e : suc k + 1 ≡ suc (k + 1) = omega arith in
    ap (λ n. set {A = ℕ} (replicate n 1) (suc k) 0) e ∙ ap (λ r. 1 ∷ r) (blank_numbers k)

blank_run : (last : List JType) (k : ℕ) → row_of (last ∷ replicate 256 Top ∷ []) (replicate k 1 ++ 0 ∷ []) ≡ replicate (k * 256) Top ++ last
blank_run last zero = append-nil last
blank_run last (suc k) =
    let e : 256 + k * 256 ≡ suc k * 256 = omega arith in
    ap (λ r. replicate 256 Top ++ r) (blank_run last k) ∙ sym (append_assoc (replicate 256 Top) (replicate (k * 256) Top) last)
    ∙ ap (λ r. r ++ last) (replicate-append-replicate 256 (k * 256) Top ∙ ap (λ n. replicate n Top) e)

blank_by : (count : ℕ) (b : Bool) → nat_lt count 256 ≡ b → row_of (replicate (count % 256) Top ∷ (if b then [] else replicate 256 Top ∷ [])) (replicate (count / 256) 1 ++ 0 ∷ []) ≡ replicate count Top
blank_by count true e =
    let small : count < 256 = grind arith in
    let one : count / 256 ≡ 0 = omega (arith, small) in
    let all : count % 256 ≡ count = omega (arith, small) in
    ap (λ k. row_of (replicate (count % 256) Top ∷ []) (replicate k 1 ++ 0 ∷ [])) one ∙ append-nil (replicate (count % 256) Top) ∙ ap (λ n. replicate n Top) all
blank_by count false e =
    let all : count / 256 * 256 + count % 256 ≡ count = omega arith in
    blank_run (replicate (count % 256) Top) (count / 256) ∙ replicate-append-replicate (count / 256 * 256) (count % 256) Top ∙ ap (λ n. replicate n Top) all

pub blank_row : (count : ℕ) → row_of (blank_pages count) (replicate (count / 256) 1 ++ 0 ∷ []) ≡ replicate count Top
blank_row count = blank_by count (nat_lt count 256) refl

inside_by : (count : ℕ) (b : Bool) → nat_lt count 256 ≡ b → AreInside (replicate (count % 256) Top ∷ (if b then [] else replicate 256 Top ∷ [])) (replicate (count / 256) 1 ++ 0 ∷ [])
inside_by count true e =
    let small : count < 256 = grind arith in
    let one : 0 ≡ count / 256 = omega (arith, small) in
    let pages : List (List JType) = replicate (count % 256) Top ∷ [] in
    let P : ℕ → Type 0 = λ k. AreInside pages (replicate k 1 ++ 0 ∷ []) in
    subst P one (All-cons (λ n. n < length pages) 0 [] (omega arith) (All-nil (λ n. n < length pages)))
inside_by count false e =
    let pages : List (List JType) = replicate (count % 256) Top ∷ replicate 256 Top ∷ [] in
    All-append (λ n. n < length pages) (replicate (count / 256) 1) (0 ∷ []) (All-replicate (λ n. n < length pages) (count / 256) 1 (omega arith)) (All-cons (λ n. n < length pages) 0 [] (omega arith) (All-nil (λ n. n < length pages)))

pub blank_cut : (count : ℕ) → AreCut (blank_pages count) [] (replicate (count / 256) 1 ++ 0 ∷ [])
blank_cut count = record {
  inside = inside_by count (nat_lt count 256) refl;
  others = λ i d h. absurd (omega (arith, h));
}

pub not_small : (count : ℕ) → 256 ≤ count → nat_lt count 256 ≡ false
not_small count l = grind arith
