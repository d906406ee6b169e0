-- The invariant of a counter's word, and the effect of an operation on the ghost state.
use Rattle.std.specs.Prelude.{◌≡◌, ℕ, ◌+◌, ◌<◌, ◌≤◌, ◌^◌, ltb, [], ◌∷◌, ◌++◌, length, slice_index}
use mathlib.Core.Option.{some}
use lib.ListN.{get_elem?}
use Rattle.atomic_table.specs.Table.{State, Me, Step}
use Rattle.claims.specs.declared.known.Terms.{Terms}
use Rattle.claims.specs.Counters.{total, one_if, times, IsAbove}
use Rattle.claims.specs.Views.{View, hand}

-- `IsFair` holds if a view of no claimer has no numbers, and `ended` is at most the number of its claimers.
abbrev pub IsFair : View → Type 0
IsFair v = (v.parts ≡ 0 → v.drawn ≡ []) × (v.ended ≤ v.parts)

-- `IsOnce` holds if the numbers below `given`, and no other number, were claimed, each once.
-- The word is `given` plus one for each claimer that found no number left.
pub record IsOnce (k : Terms) (s : State ℕ View) : Type 0 where
  pub given : ℕ
  pub words : length s.words ≡ 1
  pub fits : k.jobs + k.workers + 1 < 2 ^ 64
  pub few : given ≤ k.jobs
  pub once : (x : ℕ) → total (λ (v : View). times x v.drawn) s.views ≡ one_if (ltb x given)
  pub count : total (λ (v : View). length v.drawn) s.views ≡ given
  pub word : slice_index s.words 0 ≡ given + total (λ (v : View). v.ended) s.views
  pub last : 0 < total (λ (v : View). v.ended) s.views → given ≡ k.jobs
  pub parts : total (λ (v : View). v.parts) s.views ≡ k.workers
  pub each : (j : ℕ) (v : View) → get_elem? s.views j ≡ some v → IsFair v

abbrev pub with_drawn : View → ℕ → View
with_drawn v n = hand v.jobs v.workers v.parts v.ended (v.drawn ++ n ∷ [])

abbrev pub with_end : View → View
with_end v = hand v.jobs v.workers v.parts (v.ended + 1) v.drawn

-- `HasNext` holds if `w` is the view `v` after it read the number `n`: a job number is claimed, another number is the end.
-- `n` is greater than each number that `v` claimed before.
abbrev pub HasNext : View → ℕ → View → Type 0
HasNext v n w = (n < v.jobs → w ≡ with_drawn v n) × (v.jobs ≤ n → w ≡ with_end v) × (length v.drawn ≤ n) × IsAbove v.drawn n

abbrev pub on_next : Step ℕ → Me ℕ View → ℕ → Me ℕ View → Type 0
on_next st m found m' = HasNext m.0 found m'.0 × (m'.1 ≡ m.1)
