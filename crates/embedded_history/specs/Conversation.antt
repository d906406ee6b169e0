-- Calls of the C interface on one key, each with its answer, and the records of those that are run.
use Rattle.std.specs.Prelude.{◌≡◌, ◌≢◌, ◌≤◌, ◌==◌, ℤ, false, List, [], ◌∷◌, length, Some, None, if◌then◌else◌}
use Rattle.jtypes.specs.Entry.{Entry}
use Rattle.jtypes.specs.declared.types.Arg.{Arg}
use Rattle.jtypes.specs.declared.types.Outcome.{Outcome}
use Rattle.typecheck.specs.Typing.{Class}
use Rattle.stripe.specs.declared.call.Reply.TheVariants.{Result}
use Rattle.stripe.specs.History.{Invoke, Record, Entries, entries_after, IsLegal}
use Rattle.embedded.specs.declared.numbers.ArgNumbers.{ArgNumbers}
use Rattle.embedded.specs.declared.numbers.CallNumbers.{CallNumbers}
use Rattle.embedded.specs.declared.numbers.DoneNumbers.{DoneNumbers}
use Rattle.embedded.specs.Classes.{Classes, class_at}
use Rattle.embedded.specs.Numbers.{args_in, before_in, outcome_in}
use Rattle.embedded.specs.Answers.{IsAnswer}

-- A call with its answer: the engine's classes at the time, the numbers of the call and of its arguments, and those of the answer.
pub record Turn : Type 0 where
  pub classes : Classes
  pub call : CallNumbers
  pub args : List ArgNumbers
  pub answer : DoneNumbers

-- `HasAnswer` holds if the interface may give this answer to the call.
abbrev pub HasAnswer : Turn → Type 0
HasAnswer t = IsAnswer t.classes t.call t.args t.answer

-- The entry that a caller computes from an answer: effect 1 puts the value `put`, effect 2 deletes the entry, and any other keeps it.
abbrev pub entry_by : DoneNumbers → Entry → Entry
entry_by d before = if d.effect == 1 then Some d.put else if d.effect == 2 then None else before

-- The entry after the last of these answers.
abbrev pub entry_at_end : Entry → List Turn → Entry
entry_at_end before [] = before
entry_at_end before (t ∷ ts) = entry_at_end (entry_by t.answer before) ts

-- `IsConversation` holds if each call is on this key and on the entry that the answers before it leave, the first one on `before`,
-- and the interface may give each answer.
abbrev pub IsConversation : ℤ → Entry → List Turn → Type 0
IsConversation key before [] = Unit {0}
IsConversation key before (t ∷ ts) =
    (t.call.key ≡ key) × (before_in t.call ≡ before) × HasAnswer t × IsConversation key (entry_by t.answer before) ts

-- `IsRunOf` holds if the call runs this class with these arguments: the class has the call's number, and there are at most eight arguments,
-- all valid.
pub record IsRunOf (t : Turn) (c : Class) (args : List Arg) : Type 0 where
  pub class : class_at t.classes t.call.number ≡ Some c
  pub few : length t.args ≤ 8
  pub valid : args_in t.args ≡ Some args

-- `IsNotRun` holds if the call runs no class.
abbrev pub IsNotRun : Turn → Type 0
IsNotRun t = (c : Class) (args : List Arg) → IsRunOf t c args → ⊥

-- `IsRecordOf` holds if the record is that of the call: an invocation of the class that it runs, on its key and with its arguments, that asked no loader.
-- The reply is the outcome that has the answer's numbers, and the entry that it leaves is the one that a caller computes from the answer.
pub record IsRecordOf (t : Turn) (r : Record) : Type 0 where
  pub class : Class
  pub args : List Arg
  pub outcome : Outcome
  pub runs : IsRunOf t class args
  pub call : r.call ≡ Invoke class t.call.key args
  pub reply : r.reply ≡ Result outcome
  pub numbers : outcome_in outcome ≡ (t.answer.outcome, t.answer.value, t.answer.text)
  pub after : r.after ≡ entry_by t.answer (before_in t.call)
  pub asked : r.asked ≡ None

-- `AreRecordsOf` holds if the records are those of the calls that are run, in order. A call that isn't run has no record.
pub data AreRecordsOf : List Turn → List Record → Type 0 where
  no_calls : AreRecordsOf [] []
  runs : {t : Turn} {r : Record} {ts : List Turn} {rs : List Record} → IsRecordOf t r → AreRecordsOf ts rs → AreRecordsOf (t ∷ ts) (r ∷ rs)
  runs_not : {t : Turn} {ts : List Turn} {rs : List Record} → IsNotRun t → AreRecordsOf ts rs → AreRecordsOf (t ∷ ts) rs

-- `IsHistoryOn` holds if the records are a legal history without a loader, from these entries, that leaves the entry `after` under the key
-- and every other entry as it was.
pub record IsHistoryOn (key : ℤ) (entries : Entries) (after : Entry) (records : List Record) : Type 0 where
  pub legal : IsLegal false entries records
  pub left : entries_after entries records key ≡ after
  pub others : (k : ℤ) → k ≢ key → entries_after entries records k ≡ entries k
