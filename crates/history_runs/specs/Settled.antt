-- The histories of the stripes of a closed cache, and lists of all their records.
use Rattle.std.specs.Prelude.{◌≡◌, ◌<◌, ℕ, ℤ, Bool, List, length, map, Option}
use Rattle.jtypes.specs.declared.loader.LoadAnswer.{LoadAnswer}
use Rattle.jtypes.specs.Entry.{Entry}
use Rattle.stripe.specs.declared.call.Reply.{Reply}
use Rattle.stripe.specs.History.{Call, Record, Entries, IsLegal, AreGiven, entries_after, stripe_of}
use Rattle.stripe.specs.Stored.{Stored, entry_among}
use Rattle.cache.specs.Closing.{history_at}
use Rattle.world.specs.World.{World, Event, entries_now, records_on}
use Rattle.history_runs.specs.OneByOne.{IsRunOneByOne}

-- What `Settles` says of the histories: each one is legal from the opening entries, the loader may give each answer,
-- and each entry `now` is the one that the history of its stripe leaves.
pub record AreSettled (loads : Bool) (gives : ℤ → LoadAnswer → Type 0) (opening : List Stored) (now : Entries) (histories : List (List Record)) : Type 0 where
  pub count : length histories ≡ length opening
  pub legal : (i : ℕ) → i < length opening → IsLegal loads (entry_among opening) (history_at histories i)
  pub given : (i : ℕ) → i < length opening → AreGiven gives (history_at histories i)
  pub left : (k : ℤ) → now k ≡ entries_after (entry_among opening) (history_at histories (stripe_of (length opening) k)) k

-- `IsInterleaving` holds if the records of each stripe are its history, in the same order.
abbrev pub IsInterleaving : ℕ → List (List Record) → List Record → Type 0
IsInterleaving stripes histories records = (i : ℕ) → i < stripes → records_on stripes i records ≡ history_at histories i

-- What a record says, without the call's number.
abbrev pub said : Record → ℕ × Call × Reply × Entry × Option LoadAnswer
said r = (r.caller, r.call, r.reply, r.after, r.asked)

-- `IsCacheRun` holds if the calls run one after the other and finish as these records, those of each stripe are its history except for the numbers,
-- and each entry `now` is the one at the end of the run.
pub record IsCacheRun (loads : Bool) (gives : ℤ → LoadAnswer → Type 0) (opening : List Stored) (journal : ℕ) (now : Entries) (histories : List (List Record)) (records : List Record) (events : List Event) (final : World) : Type 0 where
  pub run : IsRunOneByOne loads gives opening journal records events final
  pub histories_are : (i : ℕ) → i < length opening → map said (records_on (length opening) i records) ≡ map said (history_at histories i)
  pub left : (k : ℤ) → now k ≡ entries_now final k
