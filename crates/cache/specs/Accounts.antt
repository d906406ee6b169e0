-- The relation between the receipts and the records of a cache.
use Rattle.std.specs.Prelude.{◌≡◌, ℕ, ◌<◌, List, Bool, true, false, length, slice_index_or}
use mathlib.Core.Option.{some}
use lib.ListN.{get_elem?}
use Rattle.stripe.specs.History.{Record}
use Rattle.cache.specs.Receipts.{Receipt, IsOf}

-- `HasReceipt` holds if receipt `r.number` of seat `r.caller` names this stripe and the index `place`.
pub record HasReceipt (receipts : ℕ → List Receipt) (stripe place : ℕ) (r : Record) : Type 0 where
  pub receipt : Receipt
  pub there : get_elem? (receipts r.caller) r.number ≡ some receipt
  pub stripe_is : receipt.stripe ≡ stripe
  pub place_is : receipt.place ≡ place

-- `HasRecord` holds if the record that receipt `t` names is of this caller and number, and has the receipt's call and reply.
pub record HasRecord (history : ℕ → List Record) (caller number : ℕ) (t : Receipt) : Type 0 where
  pub made : Record
  pub there : get_elem? (history t.stripe) t.place ≡ some made
  pub caller_is : made.caller ≡ caller
  pub number_is : made.number ≡ number
  pub same : IsOf made t

-- `Accounts` relates the histories, indexed by stripe, to the receipts and the full flags, indexed by seat.
-- Each record has a receipt at one of `seats` seats, and each receipt has a record.
-- The indices in the receipts of a seat on one stripe increase. The history of a stripe that a seat found full has `journal` records.
pub record Accounts (journal seats : ℕ) (history : ℕ → List Record) (receipts : ℕ → List Receipt) (full : ℕ → List Bool) : Type 0 where
  pub recorded : (i q : ℕ) (r : Record) → get_elem? (history i) q ≡ some r → (r.caller < seats) × HasReceipt receipts i q r
  pub received : (c n : ℕ) (t : Receipt) → get_elem? (receipts c) n ≡ some t → HasRecord history c n t
  pub rising : (c n m : ℕ) (t u : Receipt) → n < m → get_elem? (receipts c) n ≡ some t → get_elem? (receipts c) m ≡ some u → t.stripe ≡ u.stripe → t.place < u.place
  pub filled : (c i : ℕ) → slice_index_or (full c) i false ≡ true → length (history i) ≡ journal
