-- The models of caches and seats.
use Rattle.std.specs.Prelude.{◌≡◌, ℕ, zero, suc, ◌-◌, ◌<◌, ◌≤◌, List, [], ◌∷◌, ◌++◌, Bool, true, false, length, map, None, Result, Err, slice_set, slice_index_or}
use mathlib.Core.Option.{some}
use lib.ListN.{get_elem?}
use Rattle.atomic_table.specs.Seated.{TableId}
use Rattle.boxcar.specs.Table.{Shelves}
use Rattle.stripe.specs.declared.call.Reply.{Reply}
use Rattle.stripe.specs.History.{Call, key_of, stripe_of}
use Rattle.stripe.specs.Kept.{may_make}
use Rattle.stripe.specs.Stored.{Stored}
use Rattle.stripe.specs.Tables.{IsJournal}
use Rattle.cache.specs.Receipts.{Receipt}
use Rattle.cache.specs.Views.{Part, View, part, none_full}
use Rattle.cache.specs.declared.refusal.InvokeRefusal.{InvokeRefusal}
use Rattle.cache.specs.declared.refusal.InvokeRefusal.TheVariants.{JournalFull, NoMemory}

-- A cache: its lock table and registry, the tables that it was opened with, the most records of each history, the number of seats,
-- and its loader.
pub record Opened (L : Type 0) : Type 0 where
  pub table : TableId
  pub registry : Shelves
  pub tables : List Stored
  pub journal : ℕ
  pub seats : ℕ
  pub loader : L

-- A seat of a cache: its number, its receipts, and a flag for each stripe that it found full.
-- `made` is the number of seats in the first seat, and 0 in every other seat.
-- `room` is the number of further calls whose receipts are preallocated.
pub record Sitting : Type 0 where
  pub table : TableId
  pub caller : ℕ
  pub made : ℕ
  pub receipts : List Receipt
  pub full : List Bool
  pub room : ℕ

abbrev pub part_of : Sitting → Part
part_of s = part s.caller s.receipts s.full

-- The view of joined seats, which holds no stripe.
abbrev pub view_of : ℕ → List Sitting → View
view_of made seats = record { made = made; parts = map part_of seats; held = None }

-- 1 to 16 seats
abbrev pub IsSeatCount : ℕ → Type 0
IsSeatCount seats = (0 < seats) × (seats ≤ 16)

-- 1 to 4,096 records a stripe, and 1 to 16 seats
abbrev pub AreCounts : ℕ → ℕ → Type 0
AreCounts journal seats = IsJournal journal × IsSeatCount seats

-- `IsOpened` holds if `d` is a cache with this registry, these tables, record and seat counts, and this loader.
pub record IsOpened {L : Type 0} (registry : Shelves) (tables : List Stored) (journal seats : ℕ) (loader : L) (d : Opened L) : Type 0 where
  pub registry_is : d.registry ≡ registry
  pub tables_are : d.tables ≡ tables
  pub journal_is : d.journal ≡ journal
  pub seats_are : d.seats ≡ seats
  pub loader_is : d.loader ≡ loader

-- The field `made` of seat `c` of `n`: `n` in seat 0, and 0 in every other seat.
abbrev pub made_of : ℕ → ℕ → ℕ
made_of n zero = n
made_of n (suc c) = 0

-- Seat `c` of `n`, before any call. The receipts of its first `room` calls are preallocated.
abbrev pub fresh_seat : TableId → ℕ → ℕ → ℕ → Sitting
fresh_seat t n room c = record { table = t; caller = c; made = made_of n c; receipts = []; full = none_full; room = room }

-- `AreFresh` holds if `seats` are the `n` seats of a cache before any call, in order.
pub record AreFresh (t : TableId) (n : ℕ) (seats : List Sitting) : Type 0 where
  pub count : length seats ≡ n
  pub each : (c : ℕ) (s : Sitting) → get_elem? seats c ≡ some s → s ≡ fresh_seat t n s.room c

-- `HaveRoom` holds if the receipts of the next `calls` calls of each seat are preallocated.
abbrev pub HaveRoom : ℕ → List Sitting → Type 0
HaveRoom calls seats = (c : ℕ) (s : Sitting) → get_elem? seats c ≡ some s → calls ≤ s.room

-- `IsSeat` holds if `s` is seat `c` of `n` of table `t`, after any calls.
pub record IsSeat (t : TableId) (n c : ℕ) (s : Sitting) : Type 0 where
  pub table_is : s.table ≡ t
  pub caller_is : s.caller ≡ c
  pub made_is : s.made ≡ made_of n c

-- `AreSeats` holds if `seats` are all seats of the cache, in order, after any calls.
pub record AreSeats {L : Type 0} (d : Opened L) (seats : List Sitting) : Type 0 where
  pub count : length seats ≡ d.seats
  pub each : (c : ℕ) (s : Sitting) → get_elem? seats c ≡ some s → IsSeat d.table d.seats c s

-- ---- calls

-- The seat after an answered call, whose receipt takes the place of a preallocated one, if any is left.
abbrev pub with_receipt : Sitting → Receipt → Sitting
with_receipt s t = record s { receipts = s.receipts ++ t ∷ []; room = s.room - 1 }

-- The seat with the receipts of its next `room` calls preallocated.
abbrev pub with_room : Sitting → ℕ → Sitting
with_room s room = record s { room = room }

abbrev pub with_full : Sitting → ℕ → Sitting
with_full s i = record s { full = slice_set s.full i true }

-- The index of the stripe of a call's key.
abbrev pub stripe_in : {L : Type 0} → Opened L → Call → ℕ
stripe_in d call = stripe_of (length d.tables) (key_of call)

-- `IsAnswered` holds if the seat has one more receipt, with this call, this reply and the stripe of the call's key.
pub record IsAnswered {L : Type 0} (d : Opened L) (old : Sitting) (call : Call) (reply : Reply) (new : Sitting) : Type 0 where
  pub receipt : Receipt
  pub call_is : receipt.call ≡ call
  pub reply_is : receipt.reply ≡ reply
  pub stripe_is : receipt.stripe ≡ stripe_in d call
  pub left : new ≡ with_receipt old receipt

-- `IsTurnedAway` holds if the call was refused: `JournalFull` sets the full flag of the key's stripe, out of memory changes nothing.
abbrev pub IsTurnedAway : {L : Type 0} → Opened L → Sitting → Call → InvokeRefusal → Sitting → Type 0
IsTurnedAway d old call JournalFull new = (new ≡ with_full old (stripe_in d call)) × (slice_index_or new.full (stripe_in d call) false ≡ true)
IsTurnedAway d old call NoMemory new = new ≡ old

-- `NeedsMemory` holds if the call wasn't refused out of memory, or may create an entry, or the seat had no preallocated receipt for it.
abbrev pub NeedsMemory : Bool → Sitting → Call → Result Reply InvokeRefusal → Type 0
NeedsMemory loads seat call answer = answer ≡ Err NoMemory → 0 < seat.room → may_make loads call ≡ true
