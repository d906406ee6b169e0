-- The result of a round of jobs.
use Rattle.std.specs.Prelude.{◌≡◌, ℕ, Bool, List, ◌++◌, map, IsPermutation, length, Option, Some, None, Result, Ok, Err, true, slice_index_or, false}
use mathlib.Core.Option.{some}
use lib.ListN.{get_elem?}
use Rattle.stripe.specs.declared.call.Reply.{Reply}
use Rattle.stripe.specs.History.{Call}
use Rattle.stripe.specs.Kept.{may_make}
use Rattle.cache.specs.Receipts.{Receipt}
use Rattle.cache.specs.declared.refusal.InvokeRefusal.{InvokeRefusal}
use Rattle.cache.specs.declared.refusal.InvokeRefusal.TheVariants.{JournalFull, NoMemory}
use Rattle.cache.specs.Opened.{Opened, Sitting, stripe_in}
use Rattle.round_outcome.specs.Outcome.{answered}
use Rattle.round_outcome.specs.Closed.{calls_at, AllAreFiled}

-- The answer to a job.
abbrev pub Answer : Type 0
Answer = Result Reply InvokeRefusal

abbrev pub reply_of : Answer → Option Reply
reply_of (Ok r) = Some r
reply_of (Err e) = None

-- `IsLaterSeat` holds if `b` is seat `a` after any calls: it keeps its receipts and its full flags, and may have more of both.
pub record IsLaterSeat (a b : Sitting) : Type 0 where
  pub table : b.table ≡ a.table
  pub caller : b.caller ≡ a.caller
  pub made : b.made ≡ a.made
  pub receipts : (added : List Receipt) × (b.receipts ≡ a.receipts ++ added)
  pub full : (i : ℕ) → slice_index_or a.full i false ≡ true → slice_index_or b.full i false ≡ true

-- `IsFull` holds if the seat has the full flag of the stripe of the call's key.
abbrev pub IsFull : {L : Type 0} → Opened L → Call → Sitting → Type 0
IsFull d c s = slice_index_or s.full (stripe_in d c) false ≡ true

-- `IsAtHome` holds if the seat is one of this cache's seats.
abbrev pub IsAtHome : {L : Type 0} → Opened L → Sitting → Type 0
IsAtHome d s = s.table ≡ d.table

-- `ShowsAtSeats` holds if each call refused with `JournalFull` has a seat with the full flag of its stripe.
abbrev pub ShowsAtSeats : {L : Type 0} → Opened L → List Call → List Sitting → List Answer → Type 0
ShowsAtSeats d calls seats answers = (k : ℕ) (c : Call) → get_elem? answers k ≡ some (Err JournalFull) → get_elem? calls k ≡ some c
    → (i : ℕ) × (s : Sitting) × (get_elem? seats i ≡ some s) × IsFull d c s

-- `NeedMemory` holds if each call refused out of memory may create an entry.
abbrev pub NeedMemory : Bool → List Call → List Answer → Type 0
NeedMemory loads calls answers = (k : ℕ) (c : Call) → get_elem? answers k ≡ some (Err NoMemory) → get_elem? calls k ≡ some c → may_make loads c ≡ true

-- `IsRound` holds if there is one answer to each call, in order, and the new receipts are, in some order, those of the answered calls.
pub record IsRound {L : Type 0} (d : Opened L) (calls : List Call) (old new : List Sitting) (answers : List Answer) : Type 0 where
  pub count : length answers ≡ length calls
  pub seats : length new ≡ length old
  pub later : (i : ℕ) (a b : Sitting) → get_elem? old i ≡ some a → get_elem? new i ≡ some b → IsLaterSeat a b
  pub receipts : IsPermutation (calls_at old ++ answered calls (map reply_of answers)) (calls_at new)
  pub filed : AllAreFiled (length d.tables) old → AllAreFiled (length d.tables) new
  pub full : ShowsAtSeats d calls new answers
