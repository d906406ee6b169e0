-- Fresh tables have no entries.
use Rattle.std.proofs.Common.{◌≡◌, ◌≢◌, ◌==◌, [], ◌∷◌, Result, Ok, Err, IfErr, Bool, true, false, arith, ℕ, ℤ, List, None, length, slice_get, replicate, zero, suc, refl, ap, ◌∙◌}
use Rattle.std.specs.FinMap as map
use Rattle.std.specs.Prelude.{option_and_then}
use Rattle.std.specs.Option.{option_flatten}
use Rattle.std.specs.Result.{IsErrAnd}
use Rattle.std.specs.Ordering.{int_cmp}
use Rattle.jtypes.specs.Entry.{Entry}
use Rattle.stripe.specs.Stored.{Stored, entry_in, entry_among}
use Rattle.std.proofs.lemmas.Bool.Decides.{nat_tests}
use Rattle.stripe.specs.History.{stripe_of}

at_place : (n i : ℕ) (k : ℤ) → option_and_then (λ (m : Stored). entry_in m k) (slice_get (replicate n map.empty) i) ≡ None
at_place zero i k = refl
at_place (suc n) zero k = ap option_flatten (map.get-empty {X = Entry} int_cmp k)
at_place (suc n) (suc i) k = at_place n i k

pub no_entries : (tables : List Stored) (stripes : ℕ) → tables ≡ replicate stripes map.empty → (k : ℤ) → entry_among tables k ≡ None
no_entries tables stripes e k = ap (λ l. entry_among l k) e ∙ at_place stripes (stripe_of (length (replicate {A = Stored} stripes map.empty)) k) k

pub is_none : (n : ℕ) (b : Bool) → b ≡ (n == 0) → b ≡ true → n ≡ 0
is_none n b e f = grind (arith, nat_tests)

pub is_some : (n : ℕ) (b : Bool) → b ≡ (n == 0) → b ≡ false → n ≢ 0
is_some n b e f = grind (arith, nat_tests)

pub nil_of : {A : Type 0} (xs : List A) → length xs ≡ 0 → xs ≡ []
nil_of [] e = refl
nil_of (x ∷ xs) e = absurd (omega (arith, e))

-- What follows from a property of an error holds of the error of a result.
pub err_as : {A E : Type 0} (res : Result A E) {P Q : E → Type 0} → IsErrAnd res P → ((e : E) → P e → Q e) → IfErr res Q
err_as (Ok x) h f = tt
err_as (Err e) h f = f e h
