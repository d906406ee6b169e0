-- The cells of a method, filled from the last instruction to the first.
use Rattle.std.proofs.Common.{◌≡◌, ℕ, suc, ◌+◌, ◌-◌, ◌^◌, ◌<◌, List, length, get_or, Some, sym, ap, ◌∙◌, arith}
use Rattle.std.specs.Prelude.{slice_get, min}
use Rattle.std.proofs.lemmas.Option.{slice_get_within, get_or_from_slice_get}
use Rattle.decode.specs.declared.instruction.Placed.{Placed}
use Rattle.decode.specs.Reading.{RisesFrom}
use Rattle.decode.proofs.Search.{below_places}
use Rattle.bounds.specs.Cells.{size_by}

-- the pc of an instruction plus 1 is below 2 ^ 64
pub place_fits : (code : List Placed) → RisesFrom 0 code → (k : ℕ) (p : Placed) → slice_get code k ≡ Some p → suc p.place < 2 ^ 64
place_fits code rising k p e =
    let b = below_places 0 code rising k p (slice_get_within code k p e) in
    let same : get_or code k p ≡ p = get_or_from_slice_get code k p p e in
    let place : (get_or code k p).place ≡ p.place = ap (λ (x : Placed). x.place) same in
    let next : (get_or code k p).next ≡ p.next = ap (λ (x : Placed). x.next) same in
    omega (arith, b.1, b.2, place, next)

-- the size is the pc of the last instruction plus 1
pub size_is : (code xs : List Placed) (p : Placed) (n : ℕ) → xs ≡ code → RisesFrom 0 code → Some p ≡ slice_get xs (length xs - 1) → n ≡ min (p.place + 1) 18_446_744_073_709_551_615 → n ≡ size_by (slice_get code (length code - 1))
size_is code xs p n same rising last size =
    let at : slice_get code (length code - 1) ≡ Some p = sym (last ∙ ap (λ (l : List Placed). slice_get l (length l - 1)) same) in
    let fits : suc p.place < 2 ^ 64 = place_fits code rising (length code - 1) p at in
    let exact : n ≡ suc p.place = omega (arith, fits, size) in
    exact ∙ sym (ap size_by at)
