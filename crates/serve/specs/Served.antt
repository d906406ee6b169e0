-- Streams of requests, and the replies to them, round by round.
use Rattle.std.specs.Prelude.{Bool, ℤ, ◌≡◌, ◌≢◌, ℕ, List, [], ◌∷◌, ◌++◌, map, Option, None}
use Rattle.std.specs.List.{AllByRecursion}
use Rattle.jtypes.specs.declared.loader.LoadAnswer.{LoadAnswer}
use Rattle.stripe.specs.History.{Call, Entries}
use Rattle.stripe.specs.declared.call.Reply.{Reply as Answer}
use Rattle.round_outcome.specs.Outcome.{IsDone}
use Rattle.wire.specs.Requests.{Request, RoundEnd}
use Rattle.wire.specs.declared.protocol.Protocol.{Protocol}
use Rattle.wire.specs.declared.reply.Reply.{Reply}
use Rattle.wire.specs.declared.reply.Reply.TheVariants as reply
use Rattle.wire.specs.Frames.{texts, request_frame, reply_frame, IsRequest, IsFaulty, IsPart, IsBegun}
use Rattle.wire.specs.Frames as frames
use Rattle.serve.specs.declared.fault.ServeFault.{ServeFault}
use Rattle.serve.specs.declared.fault.ServeFault.TheVariants as fault
use Rattle.serve.specs.Classes.{Classes}
use Rattle.serve.specs.Rounds.{Work, Gathers, work_reply}

abbrev pub requests_text : List Request → List ℕ
requests_text requests = texts request_frame requests

abbrev pub replies_text : List Reply → List ℕ
replies_text replies = texts reply_frame replies

-- ---- rounds

-- The state between rounds: the classes by number, and the entries.
pub record Stand : Type 0 where
  pub classes : Classes
  pub entries : Entries

abbrev pub stand : Classes → Entries → Stand
stand classes entries = record { classes = classes; entries = entries }

-- The state before the first round: no classes and no entries.
abbrev pub first_stand : Stand
first_stand = stand [] (λ k. None)

-- `IsRound` holds if a round of these requests, without its `RoundEnd`, has these replies and leaves state `t`.
pub record IsRound (loads : Bool) (gives : ℤ → LoadAnswer → Type 0) (s : Stand) (requests : List Request) (replies : List Reply) (t : Stand) : Type 0 where
  pub works : List Work
  pub calls : List Call
  pub answers : List (Option Answer)
  pub gathered : Gathers s.classes requests works calls t.classes
  pub done : IsDone loads gives s.entries calls answers t.entries
  pub told : replies ≡ map (work_reply answers) works

-- The requests of a round and its `RoundEnd`.
abbrev pub ended : List Request → List Request
ended requests = requests ++ RoundEnd ∷ []

abbrev pub all_told : List Reply → List Reply
all_told replies = replies ++ reply.RoundEnd ∷ []

-- `Answers` holds if these are the replies to the requests of whole rounds, which leave this state.
pub data Answers (loads : Bool) (gives : ℤ → LoadAnswer → Type 0) : List Request → List Reply → Stand → Type 0 where
  none : Answers loads gives [] [] first_stand
  round : (requests : List Request) (replies : List Reply) (s t : Stand) (more : List Request) (others : List Reply) → Answers loads gives requests replies s → IsRound loads gives s more others t
      → Answers loads gives (requests ++ ended more) (replies ++ all_told others) t

-- `Serves` holds if `input` consists of whole rounds of this protocol, `output` is the answer to them, and `s` is the state that they leave.
pub record Serves (p : Protocol) (loads : Bool) (gives : ℤ → LoadAnswer → Type 0) (input output : List ℕ) (s : Stand) : Type 0 where
  pub requests : List Request
  pub replies : List Reply
  pub each : AllByRecursion (IsRequest p) requests
  pub read : input ≡ requests_text requests
  pub written : output ≡ replies_text replies
  pub answers : Answers loads gives requests replies s

-- `IsServed` holds if `input` consists of whole rounds of this protocol, and `output` is the answer to them.
pub record IsServed (p : Protocol) (loads : Bool) (gives : ℤ → LoadAnswer → Type 0) (input output : List ℕ) : Type 0 where
  pub left : Stand
  pub serves : Serves p loads gives input output left

-- ---- a stream that ends early

-- `AreOpen` holds if these requests are of a round that has not ended.
abbrev pub AreOpen : Protocol → List Request → Type 0
AreOpen p requests = AllByRecursion (λ r. IsRequest p r × (r ≢ RoundEnd)) requests

-- `Stops` holds if a round isn't read up to its end because of this fault, with the bytes read after its last request.
pub data Stops (p : Protocol) (requests : List Request) : List ℕ → ServeFault → Type 0 where
  too_long : (extra : List ℕ) → IsFaulty p extra frames.TooLong → Stops p requests extra fault.TooLong
  cut : (extra : List ℕ) → IsFaulty p extra frames.Truncated → Stops p requests extra fault.Truncated
  input_ended : requests ≢ [] → Stops p requests [] fault.Truncated
  malformed : (extra : List ℕ) → IsFaulty p extra frames.Malformed → Stops p requests extra fault.Malformed
  reader : (extra : List ℕ) → IsPart extra → Stops p requests extra fault.Read
  frame_memory : (extra : List ℕ) → IsBegun extra → Stops p requests extra fault.NoMemory
  memory : Stops p requests [] fault.NoMemory

-- `Fails` holds if a round ends early with this fault, after it read `taken` and wrote `given`.
pub data Fails (p : Protocol) (loads : Bool) (gives : ℤ → LoadAnswer → Type 0) (s : Stand) (taken given : List ℕ) : ServeFault → Type 0 where
  unread : (requests : List Request) (extra : List ℕ) (f : ServeFault) → AreOpen p requests → taken ≡ requests_text requests ++ extra → given ≡ []
      → Stops p requests extra f → Fails p loads gives s taken given f
  no_memory : (requests : List Request) → AreOpen p requests → taken ≡ requests_text (ended requests) → given ≡ [] → Fails p loads gives s taken given fault.NoMemory
  writer : (requests : List Request) (replies : List Reply) (t : Stand) (missing : List ℕ) → AreOpen p requests → taken ≡ requests_text (ended requests)
      → IsRound loads gives s requests replies t → replies_text (all_told replies) ≡ given ++ missing → Fails p loads gives s taken given fault.Write

-- `IsCutShort` holds if whole rounds were served, and the next one ended early with this fault.
pub record IsCutShort (p : Protocol) (loads : Bool) (gives : ℤ → LoadAnswer → Type 0) (input output : List ℕ) (f : ServeFault) : Type 0 where
  pub front : List ℕ
  pub back : List ℕ
  pub input_is : input ≡ front ++ back
  pub told : List ℕ
  pub part : List ℕ
  pub output_is : output ≡ told ++ part
  pub left : Stand
  pub serves : Serves p loads gives front told left
  pub fails : Fails p loads gives left back part f

-- `EndsEarly` holds if a stream isn't served up to its end. With `BadCount` nothing is read or written.
abbrev pub EndsEarly : Protocol → Bool → (ℤ → LoadAnswer → Type 0) → List ℕ → List ℕ → ServeFault → Type 0
EndsEarly p loads gives input output fault.BadCount = (input ≡ []) × (output ≡ [])
EndsEarly p loads gives input output f = IsCutShort p loads gives input output f
