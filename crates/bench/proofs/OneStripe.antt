-- The only stripe of a table.
use Rattle.std.proofs.Common.{◌≡◌, ℕ, List, [], ◌∷◌, length, slice_index_or, None, ap, ◌∙◌, arith}
use Rattle.stripe.specs.Stored.{Stored}
use Rattle.stripe.specs.Kept.{Kept, fresh}
use Rattle.stripe.specs.Tables.{fresh_stripes}

-- `IsAlone` holds if the stripe is the only one, and no call is open on it.
pub record IsAlone (s : Kept) : Type 0 where
  pub stripes : s.stripes ≡ 1
  pub place : s.place ≡ 0
  pub idle : s.running ≡ None

pub one_stripe : (journal : ℕ) (ms : List Stored) (ys : List Kept) → ys ≡ fresh_stripes journal ms → length ms ≡ 1 → length ys ≡ 1
one_stripe journal [] ys are one = absurd (omega (arith, one))
one_stripe journal (m ∷ []) ys are one = ap (λ (l : List Kept). length l) are
one_stripe journal (m ∷ n ∷ ms) ys are one = absurd (omega (arith, one))

pub is_alone : (journal : ℕ) (ms : List Stored) (ys : List Kept) (y : Kept) → ys ≡ fresh_stripes journal ms → length ms ≡ 1 → y ≡ slice_index_or ys 0 y → IsAlone y
is_alone journal [] ys y are one is = absurd (omega (arith, one))
is_alone journal (m ∷ []) ys y are one is =
    let e : y ≡ fresh 1 journal 0 m = is ∙ ap (λ (l : List Kept). slice_index_or l 0 y) are in
    record { stripes = ap (λ (s : Kept). s.stripes) e; place = ap (λ (s : Kept). s.place) e; idle = ap (λ (s : Kept). s.running) e }
is_alone journal (m ∷ n ∷ ms) ys y are one is = absurd (omega (arith, one))
