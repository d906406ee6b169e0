-- The statements of the laws.
use Rattle.std.specs.Prelude.{◌≡◌, ◌≤◌, ◌⊎◌, ◌<◌, ℤ, nat_le, false, List, length, map, Option}
use Rattle.jtypes.specs.Entry.{Entry}
use Rattle.jtypes.specs.declared.types.Arg.{Arg}
use Rattle.jtypes.specs.declared.types.Effect.{Effect}
use Rattle.jtypes.specs.declared.types.Outcome.{Outcome}
use Rattle.jtypes.specs.declared.loader.LoadAnswer.{LoadAnswer}
use Rattle.typecheck.specs.Typing.{Class}
use Rattle.stripe.specs.declared.call.Reply.{Reply}
use Rattle.stripe.specs.History.{Call, Invoke, Record, Entries, Answers}
use Rattle.embedded.specs.declared.numbers.ArgNumbers.{ArgNumbers}
use Rattle.embedded.specs.declared.numbers.CallNumbers.{CallNumbers}
use Rattle.embedded.specs.declared.numbers.DoneNumbers.{DoneNumbers}
use Rattle.embedded.specs.Classes.{Classes, class_at}
use Rattle.embedded.specs.Numbers.{before_in, outcome_in, effect_in, not_run}
use Rattle.embedded.specs.Answers.{IsAnswer, reason_of}
use Rattle.embedded_history.specs.Conversation.{Turn, HasAnswer, entry_by, entry_at_end, IsConversation, IsRunOf, IsNotRun, IsRecordOf, AreRecordsOf, IsHistoryOn}

-- A conversation has records.
abbrev pub ConversationsHaveRecords : Type 0
ConversationsHaveRecords = (key : ℤ) (before : Entry) (turns : List Turn) → IsConversation key before turns → (records : List Record) × AreRecordsOf turns records

-- The records of a conversation are a legal history, from any entries with its first entry under the key to the entry after its last answer.
abbrev pub ConversationsAreLegal : Type 0
ConversationsAreLegal =
    (key : ℤ) (turns : List Turn) (records : List Record) (entries : Entries) → IsConversation key (entries key) turns → AreRecordsOf turns records
    → IsHistoryOn key entries (entry_at_end (entries key) turns) records

-- What a record says of a call, without the caller's number and the call's number, which the C interface doesn't have.
abbrev pub said : Record → Call × Reply × Entry × Option LoadAnswer
said r = (r.call, r.reply, r.after, r.asked)

-- The calls and their answers determine what the records say.
abbrev pub RecordsAreDetermined : Type 0
RecordsAreDetermined = (turns : List Turn) (rs ss : List Record) → AreRecordsOf turns rs → AreRecordsOf turns ss → map said rs ≡ map said ss

-- Each reply that a legal history without a loader may have to the call, with the entry that it leaves, is that of an answer.
abbrev pub EndsAreAnswers : Type 0
EndsAreAnswers =
    (t : Turn) (c : Class) (args : List Arg) (r : Record) → IsRunOf t c args → r.call ≡ Invoke c t.call.key args → Answers false (before_in t.call) r.call r.reply r.after r.asked
    → (d : DoneNumbers) × HasAnswer (record t { answer = d }) × IsRecordOf (record t { answer = d }) r

-- A call has at most one answer, by the engine's classes.
abbrev pub AnswersAreDetermined : Type 0
AnswersAreDetermined = (classes : Classes) (call : CallNumbers) (args : List ArgNumbers) (d e : DoneNumbers) → IsAnswer classes call args d → IsAnswer classes call args e → d ≡ e

-- The answer to a call that is not run has the reason as its outcome, 4 to 6, and leaves the entry as it is.
pub record HasReason (t : Turn) : Type 0 where
  pub answer : t.answer ≡ not_run (reason_of (class_at t.classes t.call.number) (nat_le (length t.args) 8))
  pub outcome : (4 ≤ t.answer.outcome) × (t.answer.outcome ≤ 6)
  pub kept : (e : Entry) → entry_by t.answer e ≡ e

abbrev pub CallsThatAreNotRun : Type 0
CallsThatAreNotRun = (t : Turn) → HasAnswer t → IsNotRun t → HasReason t

-- The answer to a call that is run has another outcome: below 4, or 7.
abbrev pub CallsThatAreRun : Type 0
CallsThatAreRun = (t : Turn) (c : Class) (args : List Arg) → HasAnswer t → IsRunOf t c args → (t.answer.outcome < 4) ⊎ (t.answer.outcome ≡ 7)

-- Different outcomes have different numbers.
abbrev pub OutcomesAreNumbered : Type 0
OutcomesAreNumbered = (o p : Outcome) → outcome_in o ≡ outcome_in p → o ≡ p

-- Different effects have different numbers.
abbrev pub EffectsAreNumbered : Type 0
EffectsAreNumbered = (e f : Effect) → effect_in e ≡ effect_in f → e ≡ f
