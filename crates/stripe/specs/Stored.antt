-- The model of a stripe's table.
use Rattle.std.specs.Prelude.{◌≢◌, ℤ, List, Some, None, slice_get, length, option_and_then}
use Rattle.std.specs.Option.{option_flatten}
use Rattle.std.specs.Ordering.{int_cmp}
use Rattle.std.specs.Coded.{Coded, coded_ℤ, coded_option}
use Rattle.std.specs.FinMap as map
use Rattle.jtypes.specs.Entry.{Entry}
use Rattle.stripe.specs.History.{Entries, stripe_of}

-- A finite map from keys to values. The key of an open call may be stored without a value.
abbrev pub Stored : Type 0
Stored = map.FinMap int_cmp Entry

abbrev pub stored_code : Coded Stored
stored_code = map.code coded_ℤ (coded_option coded_ℤ)

-- The entry of a key. A key that is stored without a value has no entry.
abbrev pub entry_in : Stored → Entries
entry_in m k = option_flatten (map.get m k)

-- The table with this entry for the key.
abbrev pub left : Stored → ℤ → Entry → Stored
left m k None = map.remove m k
left m k (Some v) = map.insert m k (Some v)

-- `HasValues` holds if no key is stored without a value.
abbrev pub HasValues : Stored → Type 0
HasValues m = (k : ℤ) → map.get m k ≢ Some None

-- The entry of a key, which is in the table of its stripe.
abbrev pub entry_among : List Stored → Entries
entry_among ms k = option_and_then (λ m. entry_in m k) (slice_get ms (stripe_of (length ms) k))
