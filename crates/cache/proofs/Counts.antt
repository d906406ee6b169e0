-- The number of records of the first stripes.
use Rattle.std.proofs.Common.{◌≡◌, ℕ, zero, suc, ◌+◌, ◌*◌, ◌<◌, ◌≤◌, List, length, refl, ap, ◌∙◌, arith}
use Rattle.stripe.specs.History.{Record}
use Rattle.cache.specs.Guarded.{count_records}
use Rattle.cache.proofs.Puts.{put, put_here, put_else, by_place}

module _ (f : ℕ → List Record) (i : ℕ) (x : List Record) where
  count_else : (n : ℕ) → n ≤ i → count_records (put f i x) n ≡ count_records f n
  count_else zero h = refl
  count_else (suc n) h =
      let before : count_records (put f i x) n ≡ count_records f n = count_else n (omega arith) in
      let here : length (put f i x n) ≡ length (f n) = ap (λ (l : List Record). length l) (put_else f i n x (λ e. omega arith)) in
      omega (arith, before, here)

  pub count_put : (n : ℕ) → i < n → count_records (put f i x) n + length (f i) ≡ count_records f n + length x
  count_put zero h = absurd (omega arith)
  count_put (suc n) h = by_place i n
      (λ e.
      let before : count_records (put f i x) n ≡ count_records f n = count_else n (omega arith) in
      let new : length (put f i x n) ≡ length x = ap (λ (k : ℕ). length (put f i x k)) e ∙ ap (λ (l : List Record). length l) (put_here f i x) in
      let old : length (f n) ≡ length (f i) = ap (λ (k : ℕ). length (f k)) e in
      omega (arith, before, new, old))
      (λ apart.
      let before : count_records (put f i x) n + length (f i) ≡ count_records f n + length x = count_put n (omega arith) in
      let here : length (put f i x n) ≡ length (f n) = ap (λ (l : List Record). length l) (put_else f i n x apart) in
      omega (arith, before, here))

pub count_few : (f : ℕ → List Record) (n : ℕ) → ((i : ℕ) → i < n → length (f i) ≤ 4096) → count_records f n ≤ n * 4096
count_few f zero few = omega arith
count_few f (suc n) few =
    let before : count_records f n ≤ n * 4096 = count_few f n (λ i h. few i (omega arith)) in
    let here : length (f n) ≤ 4096 = few n (omega arith) in
    omega (arith, before, here)
