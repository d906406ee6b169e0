-- The models of counters and claimers.
use Rattle.std.specs.Prelude.{◌≡◌, ℕ, ◌+◌, ◌<◌, ◌≤◌, ◌==◌, ltb, List, [], ◌∷◌, ◌++◌, Bool, true, false, if◌then◌else◌, length}
use mathlib.Core.Option.{some}
use lib.ListN.{get_elem?}
use Rattle.atomic_table.specs.Seated.{TableId}

-- A counter: its table, and the numbers of its jobs and workers.
pub record Numbering : Type 0 where
  pub table : TableId
  pub jobs : ℕ
  pub workers : ℕ

-- A claimer: its counter, the numbers that it claimed, in order, and whether a claim found none left.
pub record Share : Type 0 where
  pub counter : Numbering
  pub drawn : List ℕ
  pub done : Bool

-- At most 4,096 jobs.
abbrev pub IsJobCount : ℕ → Type 0
IsJobCount jobs = jobs ≤ 4096

-- 1 to 16 workers
abbrev pub IsWorkerCount : ℕ → Type 0
IsWorkerCount workers = (0 < workers) × (workers ≤ 16)

-- A claimer before any claim.
abbrev pub fresh : Numbering → Share
fresh d = record { counter = d; drawn = []; done = false }

-- `AreFresh` holds if there is one claimer for each worker, before any claim.
pub record AreFresh (d : Numbering) (claimers : List Share) : Type 0 where
  pub count : length claimers ≡ d.workers
  pub each : (c : ℕ) (s : Share) → get_elem? claimers c ≡ some s → s ≡ fresh d

-- `AreAll` holds if these are all claimers of the counter, in any order.
pub record AreAll (d : Numbering) (claimers : List Share) : Type 0 where
  pub count : length claimers ≡ d.workers
  pub each : (c : ℕ) (s : Share) → get_elem? claimers c ≡ some s → s.counter ≡ d

-- ---- claims

abbrev pub with_number : Share → ℕ → Share
with_number s n = record { counter = s.counter; drawn = s.drawn ++ n ∷ []; done = s.done }

abbrev pub at_end : Share → Share
at_end s = record { counter = s.counter; drawn = s.drawn; done = true }

-- ---- which numbers were claimed

-- The sum of `f` over a list.
abbrev pub total : {A : Type 0} → (A → ℕ) → List A → ℕ
total f [] = 0
total f (x ∷ xs) = f x + total f xs

abbrev pub one_if : Bool → ℕ
one_if b = if b then 1 else 0

-- The number of occurrences of `x` in a list.
abbrev pub times : ℕ → List ℕ → ℕ
times x xs = total (λ (y : ℕ). one_if (x == y)) xs

-- `IsAbove` holds if each number in the list is less than `n`.
abbrev pub IsAbove : List ℕ → ℕ → Type 0
IsAbove xs n = (x : ℕ) → 0 < times x xs → x < n

-- The number of times that these claimers claimed `x`.
abbrev pub times_drawn : ℕ → List Share → ℕ
times_drawn x claimers = total (λ (s : Share). times x s.drawn) claimers

-- `AreClaimed` holds if the numbers below `next`, and no other number, were claimed, each once.
-- If a claim found no number left, all job numbers were claimed.
pub record AreClaimed (d : Numbering) (claimers : List Share) : Type 0 where
  pub next : ℕ
  pub jobs : next ≤ d.jobs
  pub each : (x : ℕ) → times_drawn x claimers ≡ one_if (ltb x next)
  pub count : total (λ (s : Share). length s.drawn) claimers ≡ next
  pub last : (c : ℕ) (s : Share) → get_elem? claimers c ≡ some s → s.done ≡ true → next ≡ d.jobs
