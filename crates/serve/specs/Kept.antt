-- The state of the code in terms of the definitions.
use Rattle.std.specs.Prelude.{Bool, ℤ, ◌≡◌, ◌≤◌, ℕ, List, [], ◌∷◌, ◌++◌, length, map, Option, Some, None, option_map, All}
use Rattle.std.specs.Io.KnownBytes.{Consumes, Appends, IsAtEnd}
use Rattle.boxcar.specs.Table.{Shelves, Where}
use Rattle.jtypes.specs.declared.loader.LoadAnswer.{LoadAnswer}
use Rattle.typecheck.specs.Typing.{Class}
use Rattle.serve.specs.Classes.{Classes}
use Rattle.registry.specs.Ids.{IsOf, class_of}
use Rattle.stripe.specs.History.{Call, Entries}
use Rattle.stripe.specs.Stored.{Stored, entry_among}
use Rattle.stripe.specs.declared.call.Reply.{Reply as Answer}
use Rattle.round_outcome.specs.Outcome.{IsDone}
use Rattle.invokeall.specs.Jobs.{all_seen}
use Rattle.wire.specs.Requests.{Request, Invoke, InvokeAll}
use Rattle.wire.specs.declared.protocol.Protocol.{Protocol}
use Rattle.wire.specs.declared.reply.Reply.{Reply}
use Rattle.wire.specs.declared.reply.Reply.TheVariants as reply
use Rattle.wire.specs.declared.fault.WireFault.{WireFault}
use Rattle.wire.specs.declared.fault.WireFault.TheVariants as wire
use Rattle.serve.specs.declared.fault.ServeFault.{ServeFault}
use Rattle.serve.specs.declared.fault.ServeFault.TheVariants as fault
use Rattle.serve.specs.declared.batch.Work.{Work as Planned}
use Rattle.serve.specs.declared.batch.Work.TheVariants as planned
use Rattle.serve.specs.declared.batch.Batch.{Batch}
use Rattle.serve.specs.Rounds.{Work, Told, Job, JobForEach, Part, Adds, Gathers, work_reply}
use Rattle.serve.specs.Served.{Stand, stand, IsRound, ended, all_told, AreOpen, Stops, Fails, requests_text, replies_text}

-- ---- faults

-- The fault of a stream for the fault of a frame.
abbrev pub fault_of_wire : WireFault → ServeFault
fault_of_wire wire.TooLong = fault.TooLong
fault_of_wire wire.Truncated = fault.Truncated
fault_of_wire wire.Malformed = fault.Malformed
fault_of_wire wire.Read = fault.Read
fault_of_wire wire.NoMemory = fault.NoMemory

-- ---- classes

abbrev pub classes_of : List (Option (Where Class)) → Classes
classes_of ids = map (option_map class_of) ids

-- `IsNoneOrOf` holds if there is no id, or the registry issued it.
abbrev pub IsNoneOrOf : Shelves → Option (Where Class) → Type 0
IsNoneOrOf registry None = Unit {0}
IsNoneOrOf registry (Some id) = IsOf registry id

-- `AreOf` holds if the registry issued each of these ids.
abbrev pub AreOf : Shelves → List (Option (Where Class)) → Type 0
AreOf registry ids = All (IsNoneOrOf registry) ids

-- ---- plans

-- `HasFew` holds if an invocation has at most eight arguments.
abbrev pub HasFew : Request → Type 0
HasFew (Invoke class key args) = length args ≤ 8
HasFew (InvokeAll class keys args) = length args ≤ 8
HasFew _ = Unit {0}

abbrev pub work_of : Planned → Work
work_of planned.Version = Told (reply.Version 2)
work_of planned.Forgotten = Told reply.Done
work_of (planned.Defined class steps words) = Told (reply.Defined class steps words)
work_of (planned.Refused refusal) = Told (reply.Refused refusal)
work_of (planned.Denied denial) = Told (reply.Denied denial)
work_of (planned.Job at) = Job at
work_of (planned.JobForEach at keys) = JobForEach at keys.items.now

abbrev pub works_of : Batch → List Work
works_of p = map work_of p.works.items

abbrev pub calls_of : Batch → List Call
calls_of p = all_seen p.calls.items

-- `Grows` holds if this part was added to the plan.
pub record Grows (old new : Batch) (p : Part) : Type 0 where
  pub works : works_of new ≡ works_of old ++ p.work ∷ []
  pub calls : calls_of new ≡ calls_of old ++ p.calls

-- `Adding` holds if this request was added to the plan.
pub record Adding (classes : Classes) (old : Batch) (r : Request) (new : Batch) (later : Classes) : Type 0 where
  pub part : Part
  pub adds : Adds classes (length (calls_of old)) r part later
  pub grows : Grows old new part

-- ---- rounds

-- `IsWhole` holds if a round was read up to its end.
pub record IsWhole (p : Protocol) (old new : Option (List ℕ)) (first : Classes) (plan : Batch) (later : Classes) : Type 0 where
  pub requests : List Request
  pub are : AreOpen p requests
  pub took : Consumes old new (requests_text (ended requests))
  pub gathered : Gathers first requests (works_of plan) (calls_of plan) later

-- `RoundRead` holds if a round was read up to its end, or none at the end of the input.
abbrev pub RoundRead : Protocol → Option (List ℕ) → Option (List ℕ) → Classes → Classes → Option Batch → Type 0
RoundRead p old new first later (Some plan) = IsWhole p old new first plan later
RoundRead p old new first later None = Consumes old new [] × IsAtEnd new

-- `IsBroken` holds if a round was not read up to its end because of this fault.
pub record IsBroken (p : Protocol) (old new : Option (List ℕ)) (f : ServeFault) : Type 0 where
  pub requests : List Request
  pub extra : List ℕ
  pub are : AreOpen p requests
  pub took : Consumes old new (requests_text requests ++ extra)
  pub stops : Stops p requests extra f

-- `IsRun` holds if the calls were answered, and `text` is the frames of the round's replies.
pub record IsRun (loads : Bool) (gives : ℤ → LoadAnswer → Type 0) (before : Entries) (calls : List Call) (works : List Work) (after : Entries) (text : List ℕ) : Type 0 where
  pub answers : List (Option Answer)
  pub done : IsDone loads gives before calls answers after
  pub text_is : text ≡ replies_text (all_told (map (work_reply answers) works))

-- `IsAnswered` holds if a round was served from state `s`, and left these classes and tables.
pub record IsAnswered (p : Protocol) (loads : Bool) (gives : ℤ → LoadAnswer → Type 0) (old new before after : Option (List ℕ)) (s : Stand) (classes : Classes) (tables : List Stored) : Type 0 where
  pub requests : List Request
  pub replies : List Reply
  pub are : AreOpen p requests
  pub took : Consumes old new (requests_text (ended requests))
  pub gave : Appends before after (replies_text (all_told replies))
  pub round : IsRound loads gives s requests replies (stand classes (entry_among tables))

-- `RoundServed` holds if a round was served, or none at the end of the input.
abbrev pub RoundServed : Protocol → Bool → (ℤ → LoadAnswer → Type 0) → Option (List ℕ) → Option (List ℕ) → Option (List ℕ) → Option (List ℕ) → Stand → Classes → Option (List Stored) → Type 0
RoundServed p loads gives old new before after s classes (Some tables) = IsAnswered p loads gives old new before after s classes tables
RoundServed p loads gives old new before after s classes None = Consumes old new [] × IsAtEnd new × Appends before after []

-- `RoundFailed` holds if a round failed with this fault, with the bytes that it read and wrote.
pub record RoundFailed (p : Protocol) (loads : Bool) (gives : ℤ → LoadAnswer → Type 0) (old new before after : Option (List ℕ)) (s : Stand) (f : ServeFault) : Type 0 where
  pub taken : List ℕ
  pub given : List ℕ
  pub took : Consumes old new taken
  pub gave : Appends before after given
  pub fails : Fails p loads gives s taken given f
