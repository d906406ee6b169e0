-- The length of pairs in bytes.
use Rattle.std.proofs.Common.{◌≡◌, ℕ, zero, suc, ◌*◌, ◌/◌, List, [], ◌∷◌, ◌++◌, length, ℤ, Ok, refl, sym, ap, ◌∙◌, subst, arith}
use Rattle.std.proofs.lemmas.List.{length-append, append-nil}
use Rattle.std.proofs.Math.Nat.{mul-div_cancel}
use Rattle.jtypes.specs.Layout.{IsLaidOut, first, many, number}
use Rattle.jtypes.proofs.Laws.{first_found}
use Rattle.table_loader.specs.Rows.{long, pair, AreRowsOf}
use Rattle.table_loader.specs.declared.table.Pair.{Pair}

long_length : (bytes : List ℕ) (v : ℤ) → IsLaidOut long bytes v → length bytes ≡ 8
unfolding long number
long_length bytes v h =
    let (bits, front, back, e, inner, last) = h in
    let (text, f, b, e2, has, rest) = inner in
    omega (arith, ap length e, length-append front back, ap length last.0, ap length e2, length-append f b, has.0, ap length rest.0)

pair_length : (bytes : List ℕ) (p : Pair) → IsLaidOut pair bytes p → length bytes ≡ 16
unfolding pair
pair_length bytes p h =
    let (key, front, back, e, one, more) = h in
    let (value, f, b, e2, other, rest) = more in
    omega (arith, ap length e, length-append front back, long_length front key one, ap length e2, length-append f b, long_length f value other, ap length rest.0)

pub rows_length : (n : ℕ) (bytes : List ℕ) (rows : List Pair) → IsLaidOut (many n pair) bytes rows → (length bytes ≡ n * 16) × (length rows ≡ n)
unfolding many
rows_length zero bytes rows h = (ap length h.0, ap length h.1)
rows_length (suc n) bytes rows h =
    let (row, front, back, e, one, more) = h in
    let (later, f, b, e2, others, rest) = more in
    let low = rows_length n f later others in
    (omega (arith, ap length e, length-append front back, pair_length front row one, ap length e2, length-append f b, low.0, ap length rest.0), omega (arith, ap length rest.1, low.1))

-- Bytes whose length is not a multiple of 16 are not pairs.
pub not_whole : (bytes : List ℕ) (rows : List Pair) → (length bytes / 16 * 16 ≡ length bytes → ⊥) → AreRowsOf bytes rows → ⊥
not_whole bytes rows other are =
    let long = (rows_length (length rows) bytes rows are).0 in
    let count : length bytes / 16 ≡ length rows = ap (λ n. n / 16) long ∙ mul-div_cancel (length rows) (omega arith) in
    other (ap (λ n. n * 16) count ∙ sym long)

-- The pairs read from `n * 16` bytes are the pairs of the bytes.
pub whole_rows : (n : ℕ) (bytes : List ℕ) (rows : List Pair) (rest : List ℕ) → n * 16 ≡ length bytes → first (many n pair) bytes ≡ Ok (rows, rest) → AreRowsOf bytes rows
whole_rows n bytes rows rest is e =
    let (text, are, laid) = first_found (many n pair) bytes rows rest e in
    let low = rows_length n text rows laid in
    let none : length rest ≡ 0 = omega (arith, ap length are, length-append text rest, low.0, is) in
    let same : bytes ≡ text = are ∙ ap (λ (t : List ℕ). text ++ t) (empty rest none) ∙ append-nil text in
    subst (λ (k : ℕ). IsLaidOut (many k pair) bytes rows) (sym low.1) (subst (λ (t : List ℕ). IsLaidOut (many n pair) t rows) (sym same) laid)
  where
    empty : (xs : List ℕ) → length xs ≡ 0 → xs ≡ []
    empty [] h = refl
    empty (x ∷ xs) h = absurd cc
