-- The invariant of a world.
use Rattle.std.specs.Prelude.{◌≡◌, Bool, ℕ, ◌+◌, ◌-◌, ◌*◌, ◌<◌, ◌≤◌, ℤ, List, length, map, vec_capacity, Option, Some, IsSome, slice_get, slice_index, sum_by}
use Rattle.jtypes.specs.declared.loader.LoadAnswer.{LoadAnswer}
use Rattle.stripe.specs.History.{Record, key_of, IsLegal}
use Rattle.stripe.specs.Seen.{record_of}
use Rattle.stripe.specs.Stored.{Stored}
use Rattle.stripe.specs.Kept.{IsOf, entry_of}
use Rattle.stripe.specs.Tables.{Back, IsCount, IsJournal, none_back}
use Rattle.world.specs.declared.world.World.TheInside.{Inside}
use Rattle.world.specs.World.{World, ReadThrough, AnswersAreGiven, Running, opening_entries, entries_now, history_of, starts_of}
use Rattle.world.specs.Seated.{Seated, HasLoader}

-- The parts of a world. `loads` is whether its loader is asked, and `reserved` is the capacity of the list of finished calls.
-- `starts` counts the starts of each caller.
pub record Parts : Type 0 where
  pub loads : Bool
  pub opening : List Stored
  pub journal : ℕ
  pub seats : List Seated
  pub finished : List Record
  pub reserved : ℕ
  pub starts : List ℕ
  pub rest : Back

abbrev pub parts : {L : Type 0} → Bool → Inside L → Parts
parts loads s = record {
  loads = loads;
  opening = s.opening.value;
  journal = s.journal;
  seats = s.seats.items;
  finished = map record_of s.finished.items;
  reserved = vec_capacity s.finished;
  starts = s.starts;
  rest = s.rest;
}

abbrev pub running_on : Seated → Option Running
running_on x = x.running

abbrev pub world_of : Parts → World
world_of p = record { loads = p.loads; opening = p.opening; journal = p.journal; running = map running_on p.seats; finished = p.finished }

abbrev pub reading : {L : Type 0} → Bool → Inside L → ReadThrough L
reading loads s = record { world = world_of (parts loads s); loader = s.loader.now }

-- Seat `i`: its history is the part of the finished calls on its stripe, and its entries are those that they leave.
-- If a call runs, there is a free record for it, and its key is on the stripe.
pub record IsAt (w : World) (i : ℕ) (x : Seated) : Type 0 where
  pub stripes : x.stripe.stripes ≡ length w.opening
  pub place : x.stripe.place ≡ i
  pub journal : x.stripe.journal ≡ w.journal
  pub records : x.stripe.records ≡ history_of w i
  pub few : length x.stripe.records ≤ w.journal
  pub left : (k : ℤ) → IsOf x.stripe k → entry_of x.stripe k ≡ entries_now w k
  pub room : IsSome x.running → length x.stripe.records < w.journal
  pub of : (r : Running) → x.running ≡ Some r → IsOf x.stripe (key_of r.call)
  pub loads : HasLoader w.loads x.stripe

-- Each seat is that of its stripe.
abbrev pub AreSeats : World → List Seated → Type 0
AreSeats w xs = (i : ℕ) (x : Seated) → slice_get xs i ≡ Some x → IsAt w i x

-- The number of free records in a stripe's history.
abbrev pub room_of : Seated → ℕ
room_of x = x.stripe.journal - length x.stripe.records

pub record IsSteady (p : Parts) : Type 0 where
  pub count : IsCount (length p.opening)
  pub journal : IsJournal p.journal
  pub same : length p.seats ≡ length p.opening
  pub seats : AreSeats (world_of p) p.seats
  pub legal : IsLegal p.loads (opening_entries (world_of p)) p.finished
  pub room : length p.finished + sum_by room_of p.seats ≡ length p.seats * p.journal
  pub reserved : length p.seats * p.journal ≤ p.reserved
  pub numbers : (caller : ℕ) → caller < 256 → slice_index p.starts caller ≡ starts_of (world_of p) caller
  pub callers : length p.starts ≡ 256
  pub rest : p.rest ≡ none_back (length p.opening)

-- The parts are consistent, and the loader gives each of its recorded answers.
pub record IsSound {L : Type 0} (gives : ℤ → LoadAnswer → Type 0) (loads : Bool) (s : Inside L) : Type 0 where
  pub steady : IsSteady (parts loads s)
  pub given : AnswersAreGiven gives (world_of (parts loads s))
