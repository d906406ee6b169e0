-- The statements of the laws.
use Rattle.std.specs.Prelude.{◌≡◌, ℕ, ℤ, Bool, List, [], ◌++◌, length, Option, IsPermutation}
use Rattle.stripe.specs.declared.call.Reply.{Reply}
use Rattle.jtypes.specs.declared.loader.LoadAnswer.{LoadAnswer}
use Rattle.stripe.specs.History.{Call, Record, Entries, AreGiven}
use Rattle.stripe.specs.Stored.{Stored, entry_among}
use Rattle.cache.specs.declared.refusal.InvokeRefusal.{InvokeRefusal}
use Rattle.cache.specs.Opened.{Opened, Sitting, IsAnswered, IsTurnedAway}
use Rattle.cache.specs.Closing.{Settles}
use Rattle.world.specs.Lawful.{IsLawful}
use Rattle.round_outcome.specs.Outcome.{IsHistoryOf, IsDone, AreRefused, answered, calls_in}
use Rattle.round_outcome.specs.Closed.{all_records, calls_at, AreFiled, AllAreFiled}

-- The concatenated histories of a closed cache are a history of the calls that its seats have receipts of,
-- from the entries that it was opened with to those that it returns.
abbrev pub CachesHandOutHistories : Type 0 → Bool → (ℤ → LoadAnswer → Type 0) → Type 0
CachesHandOutHistories L loads gives =
    (d : Opened L) (seats : List Sitting) (tables : List Stored) (histories : List (List Record)) → Settles loads gives d seats tables histories
    → AllAreFiled (length d.tables) seats → IsHistoryOf loads gives (entry_among d.tables) (calls_at seats) (entry_among tables) (all_records histories)

-- `AreFiled` holds without receipts. An answered call (`CallsAreFiled`) and a refused one (`RefusedCallsAreFiled`) preserve it.
abbrev pub NoneIsFiled : Type 0
NoneIsFiled = (stripes : ℕ) → AreFiled stripes []

abbrev pub CallsAreFiled : Type 0 → Type 0
CallsAreFiled L =
    (d : Opened L) (old new : Sitting) (call : Call) (reply : Reply) → IsAnswered d old call reply new → AreFiled (length d.tables) old.receipts
    → AreFiled (length d.tables) new.receipts

abbrev pub RefusedCallsAreFiled : Type 0 → Type 0
RefusedCallsAreFiled L =
    (d : Opened L) (old new : Sitting) (call : Call) (refusal : InvokeRefusal) → IsTurnedAway d old call refusal new → AreFiled (length d.tables) old.receipts
    → AreFiled (length d.tables) new.receipts

-- The finished calls of a world, open or closed, are a history of these calls, from its opening entries to its current ones.
abbrev pub WorldsHandOutHistories : Bool → (ℤ → LoadAnswer → Type 0) → Type 0
WorldsHandOutHistories loads gives =
    (opening : List Stored) (finished : List Record) (now : Entries) → IsLawful loads opening finished now → AreGiven gives finished
    → IsHistoryOf loads gives (entry_among opening) (calls_in finished) now finished

-- A round is done if its answered calls are, in some order, those of a history, and each other call may create an entry.
abbrev pub RoundsAreDone : Bool → (ℤ → LoadAnswer → Type 0) → Type 0
RoundsAreDone loads gives =
    (before : Entries) (made : List (Call × Reply)) (after : Entries) (history : List Record) → IsHistoryOf loads gives before made after history
    → (calls : List Call) (answers : List (Option Reply)) → length answers ≡ length calls → AreRefused loads calls answers → IsPermutation (answered calls answers) made
    → IsDone loads gives before calls answers after

-- Two histories, the second from the entries that the first leaves, concatenate to one history.
abbrev pub HistoriesFollow : Bool → (ℤ → LoadAnswer → Type 0) → Type 0
HistoriesFollow loads gives =
    (before between after : Entries) (made more : List (Call × Reply)) (first second : List Record) → IsHistoryOf loads gives before made between first
    → IsHistoryOf loads gives between more after second → IsHistoryOf loads gives before (made ++ more) after (first ++ second)
