-- The buffers of a cache, and the return of its stripes.
use Rattle.std.specs.Prelude.{◌≡◌, ℕ, ℤ, Bool, ◌+◌, ◌≤◌, List, [], length, map, vec_len, vec_capacity, None}
use Rattle.std.specs.Global.{Vec}
use Rattle.std.specs.List.{All}
use mathlib.Core.Option.{some}
use lib.ListN.{get_elem?}
use Rattle.atomic_table.specs.Table.{Final, Seen}
use Rattle.jtypes.specs.declared.loader.LoadAnswer.{LoadAnswer}
use Rattle.stripe.specs.History.{Record}
use Rattle.stripe.specs.Stored.{Stored}
use Rattle.stripe.specs.Kept.{Kept}
use Rattle.stripe.specs.Tables.{Back}
use Rattle.cache.specs.Views.{View}
use Rattle.cache.specs.Guarded.{Guarded}
use Rattle.cache.specs.declared.known.Terms.{Terms}
use Rattle.cache.specs.declared.cache.SeatRoom.{SeatRoom}
use Rattle.cache.specs.declared.receipt.Receipt.{Receipt as ReceiptKept}

-- `IsEmptyList` holds if the list is empty and has capacity for the receipts of `calls` calls.
abbrev pub IsEmptyList : ℕ → Vec ReceiptKept → Type 0
IsEmptyList calls v = (v.items ≡ []) × (vec_len v + calls ≤ vec_capacity v)

-- `AreLists` holds if there is an empty list for each of `seats` seats, with capacity for the receipts of `calls` calls.
abbrev pub AreLists : ℕ → ℕ → List (Vec ReceiptKept) → Type 0
AreLists seats calls lists = (length lists ≡ seats) × All (IsEmptyList calls) lists

-- `HasRoom` holds if both buffers are empty and have capacity for `seats` items, and there is a list of receipts for each seat.
pub record HasRoom (seats calls : ℕ) (r : SeatRoom) : Type 0 where
  pub list : r.list.items ≡ []
  pub list_room : seats ≤ vec_capacity r.list
  pub receipts : r.receipts.items ≡ []
  pub receipts_room : seats ≤ vec_capacity r.receipts
  pub lists : AreLists seats calls r.lists.items

abbrev pub histories_of : List Kept → List (List Record)
histories_of ys = map (λ (y : Kept). y.records) ys

abbrev pub tables_of : List Kept → List Stored
tables_of ys = map (λ (y : Kept). y.stored) ys

-- The state of a `Rest` for `n` stripes after the stripes `ys` were added.
abbrev pub back_of : ℕ → List Kept → Back
back_of n ys = record { stripes = n; tables = tables_of ys; histories = histories_of ys }

-- `IsReady` holds if `y` is stripe `i` of `n` and has no open call.
pub record IsReady (n i : ℕ) (y : Kept) : Type 0 where
  pub stripes : y.stripes ≡ n
  pub place : y.place ≡ i
  pub idle : y.running ≡ None

-- `AreReady` holds if each stripe in the list is stripe `i` of `n` at its index `i`, and has no open call.
abbrev pub AreReady : ℕ → List Kept → Type 0
AreReady n ys = (i : ℕ) (y : Kept) → get_elem? ys i ≡ some y → IsReady n i y

-- `CanComeBack` holds if the stripes of every final state of the table with this view of seat `id` are ready.
abbrev pub CanComeBack : {L : Type 0} → Bool → (ℤ → LoadAnswer → Type 0) → Terms L → ℕ → ℕ → View → Type 0
CanComeBack loads gives k n id v = (words : List ℕ) (ended : List Kept) → Final (Seen (Guarded loads gives k) id v) words ended → AreReady n ended

-- `IsUnpacked` holds if `rest` has the `n` stripes of a final state of the table.
pub record IsUnpacked {L : Type 0} (loads : Bool) (gives : ℤ → LoadAnswer → Type 0) (k : Terms L) (n id : ℕ) (v : View) (rest : Back) : Type 0 where
  pub words : List ℕ
  pub ended : List Kept
  pub last : Final (Seen (Guarded loads gives k) id v) words ended
  pub count : length ended ≡ n
  pub is : rest ≡ back_of n ended
