-- The statements of the laws.
use Rattle.std.specs.Prelude.{◌≡◌, ◌<◌, ℕ, ℤ, Bool, List, length, map}
use Rattle.jtypes.specs.declared.loader.LoadAnswer.{LoadAnswer}
use Rattle.stripe.specs.History.{Record, Entries, IsLegal, AreGiven}
use Rattle.stripe.specs.Stored.{Stored, entry_among}
use Rattle.cache.specs.Opened.{Opened, Sitting}
use Rattle.cache.specs.Closing.{Settles, history_at}
use Rattle.round_outcome.specs.Closed.{all_records, AllAreFiled}
use Rattle.world.specs.World.{World, Event, Runs, opened, entries_now}
use Rattle.world.specs.Lawful.{IsLawful}
use Rattle.history_runs.specs.OneByOne.{AreNumbered, IsRunOneByOne}
use Rattle.history_runs.specs.Settled.{AreSettled, IsInterleaving, IsCacheRun, said}

-- The finished calls of each run of a world are a legal history, whole and stripe by stripe, and the loader may give each answer.
abbrev pub RunsAreLegalHistories : Bool → (ℤ → LoadAnswer → Type 0) → Type 0
RunsAreLegalHistories loads gives =
    (opening : List Stored) (journal : ℕ) (events : List Event) (w : World) → Runs gives (opened loads opening journal) events w
    → IsLawful loads opening w.finished (entries_now w) × AreGiven gives w.finished

-- Each legal history whose answers the loader may give is the list of finished calls of a run, if each caller's records are numbered in order.
abbrev pub LegalHistoriesAreRuns : Bool → (ℤ → LoadAnswer → Type 0) → Type 0
LegalHistoriesAreRuns loads gives =
    (opening : List Stored) (journal : ℕ) (records : List Record) → 0 < length opening → IsLegal loads (entry_among opening) records → AreGiven gives records → AreNumbered records
    → (events : List Event) × (final : World) × IsRunOneByOne loads gives opening journal records events final

-- `Settles` says `AreSettled`.
abbrev pub CachesAreSettled : Type 0 → Bool → (ℤ → LoadAnswer → Type 0) → Type 0
CachesAreSettled L loads gives =
    (d : Opened L) (seats : List Sitting) (tables : List Stored) (histories : List (List Record)) → Settles loads gives d seats tables histories
    → AreSettled loads gives d.tables (entry_among tables) histories

-- Each interleaving of settled histories whose records are numbered in order is the list of finished calls of a run.
abbrev pub InterleavingsAreRuns : Bool → (ℤ → LoadAnswer → Type 0) → Type 0
InterleavingsAreRuns loads gives =
    (opening : List Stored) (journal : ℕ) (now : Entries) (histories : List (List Record)) (records : List Record) → 0 < length opening
    → AreSettled loads gives opening now histories → IsInterleaving (length opening) histories records → AreNumbered records
    → (events : List Event) × (final : World) × IsCacheRun loads gives opening journal now histories records events final

-- The finished calls of each run are an interleaving of settled histories.
abbrev pub RunsAreInterleavings : Bool → (ℤ → LoadAnswer → Type 0) → Type 0
RunsAreInterleavings loads gives =
    (opening : List Stored) (journal : ℕ) (events : List Event) (w : World) → 0 < length opening → Runs gives (opened loads opening journal) events w
    → (histories : List (List Record)) × IsInterleaving (length opening) histories w.finished × AreSettled loads gives opening (entries_now w) histories

-- A closed cache has a run whose finished calls are those of its histories, one history after the other, except for the numbers.
abbrev pub CachesAreRuns : Type 0 → Bool → (ℤ → LoadAnswer → Type 0) → Type 0
CachesAreRuns L loads gives =
    (d : Opened L) (seats : List Sitting) (tables : List Stored) (histories : List (List Record)) → 0 < length d.tables → Settles loads gives d seats tables histories
    → AllAreFiled (length d.tables) seats
    → (records : List Record) × (events : List Event) × (final : World) × (map said records ≡ map said (all_records histories))
    × IsCacheRun loads gives d.tables d.journal (entry_among tables) histories records events final

-- A closed cache of one stripe has a run whose finished calls are its history.
abbrev pub CachesOfOneStripeAreRuns : Type 0 → Bool → (ℤ → LoadAnswer → Type 0) → Type 0
CachesOfOneStripeAreRuns L loads gives =
    (d : Opened L) (seats : List Sitting) (tables : List Stored) (histories : List (List Record)) → length d.tables ≡ 1 → Settles loads gives d seats tables histories
    → (events : List Event) × (final : World) × IsCacheRun loads gives d.tables d.journal (entry_among tables) histories (history_at histories 0) events final
