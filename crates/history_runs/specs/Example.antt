-- Two seats that each remove two keys, on two stripes, with histories that no run of a world has.
use Rattle.std.specs.Prelude.{◌≡◌, ◌<◌, ℕ, ℤ, pos, Bool, false, List, [], ◌∷◌, None}
use Rattle.std.specs.FinMap as map
use Rattle.atomic_table.specs.Seated.{TableId}
use Rattle.boxcar.specs.Table.{Shelves}
use Rattle.jtypes.specs.declared.loader.LoadAnswer.{LoadAnswer}
use Rattle.stripe.specs.declared.call.Reply.TheVariants.{Flag}
use Rattle.stripe.specs.History.{Record, Remove}
use Rattle.stripe.specs.Stored.{Stored}
use Rattle.cache.specs.Receipts.{Receipt}
use Rattle.cache.specs.Opened.{Opened, Sitting, AreSeats, made_of}
use Rattle.cache.specs.Views.{none_full}
use Rattle.cache.specs.Closing.{Settles, history_at}
use Rattle.round_outcome.specs.Closed.{AllAreFiled}
use Rattle.world.specs.World.{World, Event, Runs, opened, history_of}
use Rattle.history_runs.specs.OneByOne.{AreNumbered}
use Rattle.history_runs.specs.Settled.{IsInterleaving}

-- A caller's call `number`, which removes an absent key.
abbrev pub removed : ℕ → ℕ → ℤ → Record
removed caller number key = record { caller = caller; number = number; call = Remove key; reply = Flag false; after = None; asked = None }

-- On each stripe the second call of one caller precedes the first call of the other.
abbrev pub crossed : List (List Record)
crossed = (removed 1 1 (pos 0) ∷ removed 0 0 (pos 0) ∷ []) ∷ (removed 0 1 (pos 1) ∷ removed 1 0 (pos 1) ∷ []) ∷ []

abbrev pub filed : ℕ → ℕ → ℤ → Receipt
filed stripe place key = record { stripe = stripe; place = place; call = Remove key; reply = Flag false }

abbrev pub sitting : TableId → ℕ → List Receipt → Sitting
sitting table caller receipts = record { table = table; caller = caller; made = made_of 2 caller; receipts = receipts; full = none_full; room = 0 }

abbrev pub two_seats : TableId → List Sitting
two_seats table = sitting table 0 (filed 0 1 (pos 0) ∷ filed 1 0 (pos 1) ∷ []) ∷ sitting table 1 (filed 1 1 (pos 1) ∷ filed 0 0 (pos 0) ∷ []) ∷ []

abbrev pub no_tables : List Stored
no_tables = map.empty ∷ map.empty ∷ []

abbrev pub two_stripes : {L : Type 0} → TableId → Shelves → L → Opened L
two_stripes table registry loader = record { table = table; registry = registry; tables = no_tables; journal = 2; seats = 2; loader = loader }

-- `Settles` allows these histories of all seats of a cache, whose receipts have the stripes of their keys,
-- no run of a world from the same tables has these histories, and no interleaving of them has its records numbered in order.
pub record AreCrossed {L : Type 0} (loads : Bool) (gives : ℤ → LoadAnswer → Type 0) (d : Opened L) (seats : List Sitting) : Type 0 where
  pub settles : Settles loads gives d seats no_tables crossed
  pub seats_are : AreSeats d seats
  pub filed_are : AllAreFiled 2 seats
  pub no_run : (events : List Event) (w : World) → Runs gives (opened loads d.tables d.journal) events w → ((i : ℕ) → i < 2 → history_of w i ≡ history_at crossed i) → ⊥
  pub no_order : (records : List Record) → IsInterleaving 2 crossed records → AreNumbered records → ⊥

abbrev pub CrossedHistories : Type 0 → Bool → (ℤ → LoadAnswer → Type 0) → Type 0
CrossedHistories L loads gives = (table : TableId) (registry : Shelves) (loader : L) → AreCrossed loads gives (two_stripes table registry loader) (two_seats table)
