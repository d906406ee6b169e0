-- Lemmas about the search for a method.
use Rattle.std.proofs.Common.{◌≡◌, ◌≢◌, ℕ, ◌<◌, true, false, cond, ltb, eqb, List, [], ◌∷◌, length, get_or, Some, None, refl, sym, ap, ◌∙◌, subst, drop, drop-cons, suc}
use Rattle.std.specs.List.Sorted.{IsPartitionPoint}
use Rattle.decode.proofs.Search.{first_by, found, missing}
use Rattle.typecheck.specs.declared.typed.Typed.{Typed}
use Rattle.verdict.specs.Judged.{NumbersRise, row_in, process_row}

in_is_first : (rows : List Typed) (n : ℕ) → row_in rows n ≡ first_by (λ d. d.number) rows n
in_is_first [] n = refl
in_is_first (d ∷ rows) n = ap (λ o. cond (eqb d.number n) (Some d) o) (in_is_first rows n)

pub there : (all rows : List Typed) → rows ≡ all → NumbersRise all → (n i : ℕ) (d : Typed) → i < length rows → d ≡ get_or rows i d → d.number ≡ n → Some d ≡ row_in all n
there all rows same rise n i d l e q =
    let rising : NumbersRise rows = subst NumbersRise (sym same) rise in
    sym (ap (λ (x : List Typed). row_in x n) (sym same) ∙ in_is_first rows n ∙ found (λ (x : Typed). x.number) rows n i d rising l e q)

pub none_there : (all rows : List Typed) → rows ≡ all → NumbersRise all → (n i : ℕ) → IsPartitionPoint (λ (y : Typed). ltb y.number n ≡ true) (λ (y : Typed). ltb y.number n ≡ false) rows i → ((d : Typed) → i < length rows → (get_or rows i d).number ≢ n) → None ≡ row_in all n
none_there all rows same rise n i point other =
    let rising : NumbersRise rows = subst NumbersRise (sym same) rise in
    sym (ap (λ (x : List Typed). row_in x n) (sym same) ∙ in_is_first rows n ∙ missing (λ (x : Typed). x.number) rows n i rising point other)

-- The search for `process` from index `i` finds it there.
pub process_here : (rows : List Typed) (i : ℕ) (d : Typed) → i < length rows → (get_or rows i d).is_process ≡ true → process_row (drop i rows) ≡ Some (get_or rows i d)
process_here rows i d lt e = ap process_row (drop-cons rows i d lt) ∙ ap (λ b. cond b (Some (get_or rows i d)) (process_row (drop (suc i) rows))) e
