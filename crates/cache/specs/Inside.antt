-- The invariants of caches and of seats.
use Rattle.std.specs.Prelude.{◌≡◌, ◌+◌, ◌<◌, ◌≤◌, [], length, vec_len, vec_capacity}
use Rattle.atomic_table.specs.Seated.{TableId}
use Rattle.stripe.specs.Tables.{IsCount, IsJournal, none_back}
use Rattle.cache.specs.Receipts.{receipts_of}
use Rattle.cache.specs.Views.{part}
use Rattle.cache.specs.Opened.{Opened, Sitting}
use Rattle.cache.specs.Steps.{IsKnown}
use Rattle.cache.specs.declared.known.Terms.{Terms}
use Rattle.cache.specs.declared.cache.Cache.TheInside.{Inside}
use Rattle.cache.specs.declared.seat.Seat.TheInside.{Inside as InSeat}

-- `IsBoard` holds if the lock table has one word and one slot for each stripe, and the counts are in range.
pub record IsBoard {L : Type 0} (id : TableId) (k : Terms L) : Type 0 where
  pub words : id.words ≡ length k.tables.value
  pub slots : id.slots ≡ length k.tables.value
  pub count : IsCount (length k.tables.value)
  pub journal : IsJournal k.journal

abbrev pub opened : {L : Type 0} → Inside L → Opened L
opened s = record { table = s.table.shared.table_id; registry = s.registry.now; tables = s.table.shared.key.tables.value; journal = s.table.shared.key.journal; seats = s.seats; loader = s.loader.now }

pub record IsCache {L : Type 0} (s : Inside L) : Type 0 where
  pub board : IsBoard s.table.shared.table_id s.table.shared.key
  pub loader : s.table.shared.key.loader.value ≡ s.loader.now
  pub stripes : s.stripes ≡ length s.table.shared.key.tables.value
  pub some_seat : 0 < s.seats
  pub rest : s.rest ≡ none_back s.stripes
  pub receipts : s.receipts.items ≡ []
  pub room : s.seats ≤ vec_capacity s.receipts

abbrev pub sitting : InSeat → Sitting
sitting s = record { table = s.pass.table_id; caller = s.caller; made = s.made; receipts = receipts_of s.receipts.items; full = s.full; room = s.room }

-- `IsSeated` holds if the seat's ghost view agrees with its fields, it has 64 full flags, and its list has capacity for `room` more receipts.
pub record IsSeated (s : InSeat) : Type 0 where
  pub known : IsKnown s.pass.table_id.slots s.made (part s.caller (receipts_of s.receipts.items) s.full) s.held s.pass.me
  pub full : length s.full ≡ 64
  pub room : vec_len s.receipts + s.room ≤ vec_capacity s.receipts
