-- The contents of a closed cache.
use Rattle.std.specs.Prelude.{◌≡◌, ℕ, ℤ, zero, suc, ◌<◌, List, [], ◌∷◌, Bool, length, map}
use Rattle.jtypes.specs.declared.loader.LoadAnswer.{LoadAnswer}
use Rattle.stripe.specs.History.{Record, IsLegal, AreGiven, entries_after, stripe_of}
use Rattle.stripe.specs.Stored.{Stored, entry_among}
use Rattle.std.specs.Global.{Vec}
use Rattle.stripe.specs.declared.call.Record.{Record as RecordKept}
use Rattle.stripe.specs.Seen.{record_of}
use Rattle.cache.specs.declared.receipt.Receipt.{Receipt as ReceiptKept}
use Rattle.cache.specs.Receipts.{Receipt, receipts_of}
use Rattle.cache.specs.Views.{none_full}
use Rattle.cache.specs.Opened.{Opened, Sitting}
use Rattle.cache.specs.Accounts.{Accounts}

-- The history of stripe `i`, empty if there is no such stripe.
abbrev pub history_at : List (List Record) → ℕ → List Record
history_at [] i = []
history_at (h ∷ hs) zero = h
history_at (h ∷ hs) (suc i) = history_at hs i

-- The receipts of seat `c`, empty if there is no such seat.
abbrev pub receipts_at : List Sitting → ℕ → List Receipt
receipts_at [] c = []
receipts_at (s ∷ ss) zero = s.receipts
receipts_at (s ∷ ss) (suc c) = receipts_at ss c

-- The full flags of seat `c`, all false if there is no such seat.
abbrev pub full_at : List Sitting → ℕ → List Bool
full_at [] c = none_full
full_at (s ∷ ss) zero = s.full
full_at (s ∷ ss) (suc c) = full_at ss c

-- The models of the histories and of the receipts that a closed cache returns.
abbrev pub histories_seen : List (Vec RecordKept) → List (List Record)
histories_seen hs = map (λ (h : Vec RecordKept). map record_of h.items) hs

abbrev pub receipts_seen : List (Vec ReceiptKept) → List (List Receipt)
receipts_seen ts = map (λ (t : Vec ReceiptKept). receipts_of t.items) ts

abbrev pub receipts_in : List Sitting → List (List Receipt)
receipts_in seats = map (λ (s : Sitting). s.receipts) seats

-- `Settles` holds if each history is legal from the entries that the cache was opened with, the loader may give each recorded answer,
-- each entry in `tables` is the one that the history of its stripe leaves, and `Accounts` relates the receipts to the records.
-- `loads` says whether there is a loader to ask.
pub record Settles {L : Type 0} (loads : Bool) (gives : ℤ → LoadAnswer → Type 0) (d : Opened L) (seats : List Sitting) (tables : List Stored) (histories : List (List Record)) : Type 0 where
  pub tables_count : length tables ≡ length d.tables
  pub histories_count : length histories ≡ length d.tables
  pub legal : (i : ℕ) → i < length d.tables → IsLegal loads (entry_among d.tables) (history_at histories i)
  pub given : (i : ℕ) → i < length d.tables → AreGiven gives (history_at histories i)
  pub left : (k : ℤ) → entry_among tables k ≡ entries_after (entry_among d.tables) (history_at histories (stripe_of (length d.tables) k)) k
  pub accounts : Accounts d.journal d.seats (history_at histories) (receipts_at seats) (full_at seats)
