-- The invariant of stripes.
use Rattle.std.specs.Prelude.{◌≡◌, ℤ, ◌<◌, ◌≤◌, length, map, true, vec_capacity, Some, None, IsSome, option_map}
use Rattle.std.specs.FinMap as stored
use Rattle.stripe.specs.declared.stripe.Stripe.TheInside.{Inside}
use Rattle.stripe.specs.declared.call.OpenCall.{OpenCall}
use Rattle.stripe.specs.History.{key_of}
use Rattle.stripe.specs.Seen.{begun_of, record_of}
use Rattle.stripe.specs.Kept.{Kept, AreOf, IsHeld, IsOf, may_make, entry_of}

abbrev pub kept : Inside → Kept
kept s = record { stripes = s.stripes; place = s.place; stored = s.table; records = map record_of s.records.items; journal = s.journal; running = option_map begun_of s.running }

-- `IsOpen` holds if the history has capacity for the open call's record, and the call is on a key of the stripe and found the key's entry.
-- If it may create an entry, the key is stored.
pub record IsOpen (s : Kept) (c : OpenCall) : Type 0 where
  pub room : length s.records < s.journal
  pub of : IsOf s (key_of (begun_of c).call)
  pub before : c.before ≡ entry_of s (key_of (begun_of c).call)
  pub held : may_make c.loads (begun_of c).call ≡ true → IsSome (stored.get s.stored (key_of (begun_of c).call))

pub record IsSound (s : Inside) : Type 0 where
  pub inside : s.place < s.stripes
  pub few : length s.records.items ≤ s.journal
  pub room : s.journal ≤ vec_capacity s.records
  pub of : AreOf (kept s)
  pub going : (c : OpenCall) → s.running ≡ Some c → IsOpen (kept s) c
  pub values : (k : ℤ) → stored.get s.table k ≡ Some None → IsHeld (kept s).running k
