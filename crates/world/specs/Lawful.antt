-- The finished calls as a legal history, and the entries that they leave.
use Rattle.std.specs.Prelude.{◌≡◌, Bool, ℕ, ℤ, List, length}
use Rattle.stripe.specs.History.{Record, Entries, IsLegal, entries_after, stripe_of}
use Rattle.stripe.specs.Stored.{Stored, entry_among}
use Rattle.world.specs.World.{records_on}

-- From these tables, with a loader or without one: the finished calls are a legal history, and so are those of each stripe.
-- Each entry now is what all of them leave, and what those on its key's stripe leave.
pub record IsLawful (loads : Bool) (opening : List Stored) (finished : List Record) (now : Entries) : Type 0 where
  pub legal : IsLegal loads (entry_among opening) finished
  pub by_stripe : (i : ℕ) → IsLegal loads (entry_among opening) (records_on (length opening) i finished)
  pub left : (k : ℤ) → now k ≡ entries_after (entry_among opening) finished k
  pub left_by_stripe : (k : ℤ) → now k ≡ entries_after (entry_among opening) (records_on (length opening) (stripe_of (length opening) k) finished) k
