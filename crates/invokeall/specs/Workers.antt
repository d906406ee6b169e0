-- Workers before and after their work.
use Rattle.std.specs.Prelude.{◌≡◌, ℕ, zero, suc, ◌+◌, ◌≤◌, List, [], ◌∷◌, ◌++◌, map, flat_map, length, slice_index_or, vec_capacity, Ok, Err, Bool, true, false}
use mathlib.Core.Option.{some}
use lib.ListN.{get_elem?}
use Rattle.stripe.specs.declared.call.Reply.{Reply}
use Rattle.stripe.specs.History.{Call}
use Rattle.stripe.specs.Kept.{may_make}
use Rattle.claims.specs.Counters.{Numbering, fresh, one_if, times}
use Rattle.cache.specs.declared.refusal.InvokeRefusal.TheVariants.{JournalFull, NoMemory}
use Rattle.cache.specs.Opened.{Opened, Sitting}
use Rattle.round_outcome.specs.Closed.{calls_told, AreFiled}
use Rattle.invokeall.specs.declared.groups.Groups.{Groups}
use Rattle.invokeall.specs.declared.worker.Worker.{Worker}
use Rattle.invokeall.specs.Groups.{groups_in, members_of_all}
use Rattle.invokeall.specs.Rounds.{Answer, IsLaterSeat, IsFull}

-- The call with its reply, or nothing if it was refused.
abbrev pub told_answer : Call → Answer → List (Call × Reply)
told_answer c (Ok r) = (c, r) ∷ []
told_answer c (Err e) = []

-- The same for an answer to call `k`.
abbrev pub told_at : List Call → ℕ → Answer → List (Call × Reply)
told_at [] k a = []
told_at (c ∷ cs) zero a = told_answer c a
told_at (c ∷ cs) (suc k) a = told_at cs k a

abbrev pub told_row : List Call → List (ℕ × Answer) → List (Call × Reply)
told_row calls row = flat_map (λ (a : ℕ × Answer). told_at calls a.0 a.1) row

abbrev pub numbers : List (ℕ × Answer) → List ℕ
numbers row = map (λ (a : ℕ × Answer). a.0) row

-- `ShowsFull` holds if the seat has the full flag of the stripe of each call refused with `JournalFull`.
abbrev pub ShowsFull : {L : Type 0} → Opened L → List Call → Sitting → List (ℕ × Answer) → Type 0
ShowsFull d calls s row = (j k : ℕ) (c : Call) → get_elem? row j ≡ some (k, Err JournalFull) → get_elem? calls k ≡ some c → IsFull d c s

-- `RowNeedsMemory` holds if each call of the row that was refused out of memory may create an entry.
abbrev pub RowNeedsMemory : Bool → List Call → List (ℕ × Answer) → Type 0
RowNeedsMemory loads calls row = (j k : ℕ) (c : Call) → get_elem? row j ≡ some (k, Err NoMemory) → get_elem? calls k ≡ some c → may_make loads c ≡ true

-- `IsReady` holds if the worker hasn't begun, and has capacity for `calls` answers.
pub record IsReady {L : Type 0} (d : Opened L) (counter : Numbering) (calls : ℕ) (w : Worker) : Type 0 where
  pub home : w.seat.table ≡ d.table
  pub claimer : w.claimer ≡ fresh counter
  pub answers : w.answers.items ≡ []
  pub room : calls ≤ vec_capacity w.answers

-- `HasAnswered` holds if `w` is the worker `v` after it has answered the calls of these numbers, in order.
-- Its new receipts are those of the calls that weren't refused. If its seat had room for all calls, each call refused out of memory may
-- create an entry.
pub record HasAnswered {L : Type 0} (loads : Bool) (d : Opened L) (calls : List Call) (v w : Worker) (answered : List ℕ) : Type 0 where
  pub seat : IsLaterSeat v.seat w.seat
  pub numbers_are : numbers w.answers.items ≡ answered
  pub receipts : calls_told w.seat.receipts ≡ calls_told v.seat.receipts ++ told_row calls w.answers.items
  pub filed : AreFiled (length d.tables) v.seat.receipts → AreFiled (length d.tables) w.seat.receipts
  pub full : ShowsFull d calls w.seat w.answers.items
  pub room : vec_capacity v.answers ≤ vec_capacity w.answers
  pub left : v.seat.room ≤ w.seat.room + length w.answers.items
  pub memory : length calls ≤ v.seat.room → RowNeedsMemory loads calls w.answers.items

-- `HasPutOff` holds if the worker has answered the calls of all groups that it claimed, group by group,
-- except the deferred groups, which are marked in `later`.
pub record HasPutOff {L : Type 0} (loads : Bool) (d : Opened L) (groups : Groups) (calls : List Call) (v w : Worker) (later : List Bool) : Type 0 where
  pub order : List ℕ
  pub claimed : (x : ℕ) → times x order + one_if (slice_index_or later x false) ≡ times x w.claimer.drawn
  pub answered : HasAnswered loads d calls v w (members_of_all (groups_in groups calls) (length calls) order)

-- `HasWorked` holds if the worker found no group left, and has answered the calls of all groups that it claimed, group by group.
pub record HasWorked {L : Type 0} (loads : Bool) (d : Opened L) (counter : Numbering) (groups : Groups) (calls : List Call) (v w : Worker) : Type 0 where
  pub at : w.claimer.counter ≡ counter
  pub done : w.claimer.done ≡ true
  pub order : List ℕ
  pub claimed : (x : ℕ) → times x order ≡ times x w.claimer.drawn
  pub answered : HasAnswered loads d calls v w (members_of_all (groups_in groups calls) (length calls) order)
