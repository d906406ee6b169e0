-- The frames of the protocol: a frame is a length field and the text of a request or a reply. All numbers are big-endian.
use Rattle.std.specs.Prelude.{◌≡◌, ℕ, ◌<◌, ◌≤◌, ◌^◌, ℤ, FitsSigned, Bool, true, false, List, [], ◌∷◌, ◌++◌, length, Option, Some, None}
use Rattle.std.specs.List.{AllByRecursion}
use Rattle.std.specs.Int.{w32, w64, cast_unsigned}
use Rattle.byteorder.specs.Endian.{big_bytes}
use Rattle.jtypes.specs.declared.types.Arg.{Arg}
use Rattle.jtypes.specs.declared.types.Arg.TheVariants as arg
use Rattle.jtypes.specs.declared.types.Outcome.{Outcome}
use Rattle.jtypes.specs.declared.types.JavaFault.{JavaFault}
use Rattle.jtypes.specs.declared.types.JavaFault.TheVariants.{Thrown}
use Rattle.jtypes.specs.declared.types.Outcome.TheVariants.{Returned, Threw}
use Rattle.jtypes.specs.Refusals.{number, detail, fault_number, exception_number}
use Rattle.wire.specs.Requests.{Request, Define, Put, Get, Remove, Contains, Invoke, InvokeAll, Forget}
use Rattle.wire.specs.Requests as request
use Rattle.wire.specs.declared.protocol.Protocol.{Protocol}
use Rattle.wire.specs.declared.protocol.Protocol.TheVariants.{One, Two}
use Rattle.wire.specs.declared.reply.Denial.{Denial}
use Rattle.wire.specs.declared.reply.Denial.TheVariants.{UnknownClass, JournalFull, NoMemory, TooManyClasses, TooManyJobs}
use Rattle.wire.specs.declared.reply.JobOutcome.{JobOutcome}
use Rattle.wire.specs.declared.reply.JobOutcome.TheVariants.{Ended}
use Rattle.wire.specs.declared.reply.JobOutcome.TheVariants as job
use Rattle.wire.specs.declared.reply.Reply.{Reply}
use Rattle.wire.specs.declared.reply.Reply.TheVariants.{Defined, Refused, Done, Value, Flag, Result, Results}
use Rattle.wire.specs.declared.reply.Reply.TheVariants as reply

-- ---- texts

abbrev pub long_text : ℤ → List ℕ
long_text n = big_bytes 8 (cast_unsigned w64 n)

abbrev pub int_text : ℤ → List ℕ
int_text n = big_bytes 4 (cast_unsigned w32 n)

abbrev pub arg_text : Arg → List ℕ
arg_text arg.Null = 0 ∷ []
arg_text (arg.Long n) = 1 ∷ long_text n
arg_text (arg.Integer n) = 2 ∷ int_text n
arg_text (arg.Boolean false) = 3 ∷ []
arg_text (arg.Boolean true) = 4 ∷ []

-- The concatenated texts of the elements of a list.
abbrev pub texts : {A : Type 0} → (A → List ℕ) → List A → List ℕ
texts f [] = []
texts f (x ∷ xs) = f x ++ texts f xs

abbrev pub args_text : List Arg → List ℕ
args_text args = length args ∷ texts arg_text args

-- The text of a request: its kind and its body.
abbrev pub request_text : Request → List ℕ
request_text (Define bytes) = 1 ∷ bytes
request_text (Put key value) = 2 ∷ long_text key ++ long_text value
request_text (Get key) = 3 ∷ long_text key
request_text (Remove key) = 4 ∷ long_text key
request_text (Contains key) = 5 ∷ long_text key
request_text (Invoke class key args) = 6 ∷ big_bytes 4 class ++ long_text key ++ args_text args
request_text (InvokeAll class keys args) = 7 ∷ big_bytes 4 class ++ big_bytes 2 (length keys) ++ texts long_text keys ++ args_text args
request_text request.RoundEnd = 8 ∷ []
request_text request.Version = 9 ∷ []
request_text (Forget class) = 10 ∷ big_bytes 4 class

abbrev pub denial_number : Denial → ℕ
denial_number UnknownClass = 1
denial_number JournalFull = 2
denial_number NoMemory = 3
denial_number TooManyClasses = 4
denial_number TooManyJobs = 5

-- The text of a fault. An exception that the processor throws itself has the index of its own text, in two bytes.
abbrev pub fault_text : JavaFault → List ℕ
fault_text (Thrown e text) = 3 ∷ exception_number e ∷ big_bytes 2 text
fault_text fault = 1 ∷ fault_number fault ∷ []

abbrev pub outcome_text : Outcome → List ℕ
outcome_text (Returned a) = 0 ∷ arg_text a
outcome_text (Threw fault) = fault_text fault

abbrev pub job_outcome_text : JobOutcome → List ℕ
job_outcome_text (Ended o) = outcome_text o
job_outcome_text (job.Denied d) = 2 ∷ denial_number d ∷ []

-- The text of a key and its outcome.
abbrev pub job_text : ℤ × JobOutcome → List ℕ
job_text j = long_text j.0 ++ job_outcome_text j.1

abbrev pub value_text : Option ℤ → List ℕ
value_text None = 0 ∷ []
value_text (Some n) = 1 ∷ long_text n

abbrev pub flag_text : Bool → List ℕ
flag_text false = 0 ∷ []
flag_text true = 1 ∷ []

-- The text of `Results`: the kind, the number of outcomes, and the outcomes.
abbrev pub results_text : List (ℤ × JobOutcome) → List ℕ
results_text jobs = 7 ∷ big_bytes 2 (length jobs) ++ texts job_text jobs

-- The text of a reply: its kind and its body.
abbrev pub reply_text : Reply → List ℕ
reply_text (Defined class steps words) = 1 ∷ big_bytes 4 class ++ big_bytes 4 steps ++ big_bytes 4 words
reply_text (Refused refusal) = 2 ∷ number refusal ∷ big_bytes 4 (detail refusal)
reply_text Done = 3 ∷ []
reply_text (Value v) = 4 ∷ value_text v
reply_text (Flag b) = 5 ∷ flag_text b
reply_text (Result o) = 6 ∷ outcome_text o
reply_text (Results jobs) = results_text jobs
reply_text (reply.Denied d) = 8 ∷ denial_number d ∷ []
reply_text reply.RoundEnd = 9 ∷ []
reply_text (reply.Version protocol) = 10 ∷ big_bytes 4 protocol

-- ---- frames

-- The length of the longest text of a request, in bytes.
abbrev pub longest : ℕ
longest = 131_072

-- The frame of a text: its length in four bytes, then the text.
abbrev pub frame : List ℕ → List ℕ
frame text = big_bytes 4 (length text) ++ text

abbrev pub request_frame : Request → List ℕ
request_frame r = frame (request_text r)

abbrev pub reply_frame : Reply → List ℕ
reply_frame r = frame (reply_text r)

-- `AreBytes` holds if each element is below 256.
abbrev pub AreBytes : List ℕ → Type 0
AreBytes xs = AllByRecursion (λ b. b < 256) xs

-- `IsArg` holds if the number of an argument is in the range of its type.
abbrev pub IsArg : Arg → Type 0
IsArg arg.Null = Unit {0}
IsArg (arg.Long n) = FitsSigned w64 n
IsArg (arg.Integer n) = FitsSigned w32 n
IsArg (arg.Boolean b) = Unit {0}

pub record AreArgs (args : List Arg) : Type 0 where
  pub few : length args ≤ 8
  pub each : AllByRecursion IsArg args

-- `IsInRange` holds if each number of a request is in the range of its type, and the lists are no longer than their counts allow.
abbrev pub IsInRange : Request → Type 0
IsInRange (Define bytes) = AreBytes bytes
IsInRange (Put key value) = FitsSigned w64 key × FitsSigned w64 value
IsInRange (Get key) = FitsSigned w64 key
IsInRange (Remove key) = FitsSigned w64 key
IsInRange (Contains key) = FitsSigned w64 key
IsInRange (Invoke class key args) = (class < 2 ^ 32) × FitsSigned w64 key × AreArgs args
IsInRange (InvokeAll class keys args) = (class < 2 ^ 32) × (length keys < 2 ^ 16) × AllByRecursion (FitsSigned w64) keys × AreArgs args
IsInRange request.RoundEnd = Unit {0}
IsInRange request.Version = Unit {0}
IsInRange (Forget class) = class < 2 ^ 32

-- `IsText` holds if `text` is the text of `r`, and `r` is in range.
pub record IsText (text : List ℕ) (r : Request) : Type 0 where
  pub is : text ≡ request_text r
  pub in_range : IsInRange r

-- `IsNoRequest` holds if no request of any protocol has this text.
abbrev pub IsNoRequest : List ℕ → Type 0
IsNoRequest text = (r : Request) → IsText text r → ⊥

-- ---- protocols

abbrev pub IsTwo : Protocol → Type 0
IsTwo One = ⊥
IsTwo Two = Unit {0}

-- `Knows` holds if the protocol has requests of this kind. Protocol 1 has the kinds 1 to 8, and protocol 2 has all.
abbrev pub Knows : Protocol → Request → Type 0
Knows p (Define bytes) = Unit {0}
Knows p (Put key value) = Unit {0}
Knows p (Get key) = Unit {0}
Knows p (Remove key) = Unit {0}
Knows p (Contains key) = Unit {0}
Knows p (Invoke class key args) = Unit {0}
Knows p (InvokeAll class keys args) = Unit {0}
Knows p request.RoundEnd = Unit {0}
Knows p request.Version = IsTwo p
Knows p (Forget class) = IsTwo p

-- `IsNoneOf` holds if no request of this protocol has this text.
abbrev pub IsNoneOf : Protocol → List ℕ → Type 0
IsNoneOf p text = (r : Request) → IsText text r → Knows p r → ⊥

-- `IsRequest` holds if `r` has a frame in this protocol: the protocol has its kind, it is in range, and its text is not too long.
pub record IsRequest (p : Protocol) (r : Request) : Type 0 where
  pub known : Knows p r
  pub in_range : IsInRange r
  pub short : length (request_text r) ≤ longest

-- The maximum number of outcomes in a reply.
abbrev pub most_outcomes : ℕ
most_outcomes = 4096

-- `IsReply` holds if the reply has a frame.
abbrev pub IsReply : Reply → Type 0
IsReply (Results jobs) = length jobs ≤ most_outcomes
IsReply _ = Unit {0}

-- ---- the front of a byte sequence

pub data ReadFault : Type 0 where
  TooLong : ReadFault
  Truncated : ReadFault
  Malformed : ReadFault

-- The front of a byte sequence: the end, a whole frame and the bytes after it, or a fault.
pub data Front : Type 0 where
  AtEnd : Front
  Whole : Request → (rest : List ℕ) → Front
  Faulty : ReadFault → Front

-- `IsRead` holds if the bytes are the frame of `r` in this protocol, followed by `rest`.
pub record IsRead (p : Protocol) (bytes : List ℕ) (r : Request) (rest : List ℕ) : Type 0 where
  pub parts : bytes ≡ request_frame r ++ rest
  pub request : IsRequest p r

-- `IsFaulty` holds if the bytes begin with no frame of the protocol, for this reason. A frame that is cut is `Truncated`, whatever its body.
pub data IsFaulty (p : Protocol) (bytes : List ℕ) : ReadFault → Type 0 where
  cut_length : 0 < length bytes → length bytes < 4 → IsFaulty p bytes Truncated
  too_long : (n : ℕ) (rest : List ℕ) → bytes ≡ big_bytes 4 n ++ rest → n < 2 ^ 32 → longest < n → IsFaulty p bytes TooLong
  empty : (rest : List ℕ) → bytes ≡ big_bytes 4 0 ++ rest → IsFaulty p bytes Malformed
  cut_body : (n : ℕ) (rest : List ℕ) → bytes ≡ big_bytes 4 n ++ rest → 1 ≤ n → n ≤ longest → length rest < n → IsFaulty p bytes Truncated
  no_request : (text rest : List ℕ) → bytes ≡ frame text ++ rest → 1 ≤ length text → length text ≤ longest → IsNoneOf p text → IsFaulty p bytes Malformed

-- `IsPart` holds if the bytes end inside the length field or inside the text of a frame.
pub data IsPart (bytes : List ℕ) : Type 0 where
  of_length : length bytes < 4 → IsPart bytes
  of_text : (n : ℕ) (rest : List ℕ) → bytes ≡ big_bytes 4 n ++ rest → n ≤ longest → length rest < n → IsPart bytes

-- `IsBegun` holds if the bytes are a length field and at most as many bytes of text.
pub record IsBegun (bytes : List ℕ) : Type 0 where
  pub length_is : ℕ
  pub rest : List ℕ
  pub parts : bytes ≡ big_bytes 4 length_is ++ rest
  pub short : length_is ≤ longest
  pub within : length rest ≤ length_is

abbrev pub IsFront : Protocol → List ℕ → Front → Type 0
IsFront p bytes AtEnd = bytes ≡ []
IsFront p bytes (Whole r rest) = IsRead p bytes r rest
IsFront p bytes (Faulty f) = IsFaulty p bytes f
