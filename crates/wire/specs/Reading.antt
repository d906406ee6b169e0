-- The results of reads, by the bytes consumed and the bytes left in the input.
use Rattle.std.specs.Prelude.{◌≡◌, ◌≢◌, ◌⊎◌, ℕ, ℤ, ◌<◌, ◌≤◌, ◌^◌, List, [], ◌++◌, length, Option, Some, None, Result, Ok, Err}
use Rattle.std.specs.Io.KnownBytes.{IsAtEnd, Consumes}
use Rattle.byteorder.specs.Endian.{big_bytes}
use Rattle.jtypes.specs.declared.refusal.Refusal.{Refusal}
use Rattle.jtypes.specs.declared.refusal.Refusal.TheVariants as refusal
use Rattle.jtypes.specs.declared.types.Arg.{Arg}
use Rattle.wire.specs.Requests.{Request, Invoke}
use Rattle.wire.specs.declared.request.Invocation.{Invocation}
use Rattle.wire.specs.declared.fault.WireFault.{WireFault}
use Rattle.wire.specs.declared.fault.WireFault.TheVariants as fault
use Rattle.wire.specs.declared.protocol.Protocol.{Protocol}
use Rattle.wire.specs.Counting.{Counting, HasRisen, StaysCounted}
use Rattle.wire.specs.Frames.{Knows, IsText, IsNoRequest, IsRead, IsFaulty, IsPart, IsBegun, TooLong, Truncated, Malformed, Front, AtEnd, Whole, Faulty}

abbrev pub wire_fault_number : WireFault → ℕ
wire_fault_number fault.TooLong = 1
wire_fault_number fault.Truncated = 2
wire_fault_number fault.Malformed = 3
wire_fault_number fault.Read = 4
wire_fault_number fault.NoMemory = 5

-- `Took` holds if the reader consumed these bytes.
abbrev pub Took : {R : Type 0} → (R → Option (List ℕ)) → Counting R → Counting R → List ℕ → Type 0
Took remaining old new bytes = Consumes (remaining old.inner) (remaining new.inner) bytes

-- `TookSome` holds if the reader consumed some bytes, and `P` holds of the input left and of these bytes.
abbrev pub TookSome : {R : Type 0} → (R → Option (List ℕ)) → Counting R → Counting R → (Option (List ℕ) → List ℕ → Type 0) → Type 0
TookSome remaining old new P = (bytes : List ℕ) × Took remaining old new bytes × P (remaining new.inner) bytes

-- `FaultCounts` holds if a `Read` fault raised the failure count, or it is saturated, and any other fault left both counts unchanged.
abbrev pub FaultCounts : {R : Type 0} → WireFault → Counting R → Counting R → Type 0
FaultCounts fault.Read old new = HasRisen old.failures new.failures
FaultCounts _ old new = StaysCounted old new

abbrev pub ReadCounts : {R A : Type 0} → Result A WireFault → Counting R → Counting R → Type 0
ReadCounts (Ok x) old new = StaysCounted old new
ReadCounts (Err e) old new = FaultCounts e old new

-- `IsCut` holds if a read of `n` bytes can fail with this fault after it consumed `bytes`.
abbrev pub IsCut : ℕ → Option (List ℕ) → List ℕ → WireFault → Type 0
IsCut n left bytes fault.Truncated = IsAtEnd left × (length bytes < n)
IsCut n left bytes fault.Read = length bytes < n
IsCut n left bytes _ = ⊥

-- `IsCutOrLacks` is `IsCut`, with `NoMemory` as one more fault.
abbrev pub IsCutOrLacks : ℕ → Option (List ℕ) → List ℕ → WireFault → Type 0
IsCutOrLacks n left bytes fault.NoMemory = length bytes ≤ n
IsCutOrLacks n left bytes e = IsCut n left bytes e

-- `IsPassed` holds if skipping the `n` bytes of a malformed text can end with this fault after it consumed `bytes`.
abbrev pub IsPassed : ℕ → Option (List ℕ) → List ℕ → WireFault → Type 0
IsPassed n left bytes fault.Malformed = length bytes ≡ n
IsPassed n left bytes e = IsCut n left bytes e

-- `BeginsNoInvocation` holds if the bytes begin with no frame of an `Invoke`, in any protocol.
abbrev pub BeginsNoInvocation : List ℕ → Type 0
BeginsNoInvocation bytes = (p : Protocol) (class : ℕ) (key : ℤ) (args : List Arg) (rest : List ℕ) → IsRead p bytes (Invoke class key args) rest → ⊥

-- `InvocationIs` holds if the result is the `Invoke` of the text, with these arguments, or none if the text has none.
abbrev pub InvocationIs : List ℕ → List Arg → Option Invocation → Type 0
InvocationIs text args (Some i) = IsText text (Invoke i.class i.key args)
InvocationIs text args None = (class : ℕ) (key : ℤ) (others : List Arg) → IsText text (Invoke class key others) → ⊥

-- `IsFaultOf` holds if the fault is `NoMemory` for the refusal `NoMemory`, and `Malformed` for any other.
abbrev pub IsFaultOf : Refusal → WireFault → Type 0
IsFaultOf e f = ((e ≡ refusal.NoMemory) × (f ≡ fault.NoMemory)) ⊎ ((e ≢ refusal.NoMemory) × (f ≡ fault.Malformed))

-- `Parses` holds if the result is the request of the text, `Malformed` if no request has this text, or `NoMemory`.
abbrev pub Parses : List ℕ → Result Request WireFault → Type 0
Parses text (Ok r) = IsText text r
Parses text (Err fault.Malformed) = IsNoRequest text
Parses text (Err fault.NoMemory) = Unit {0}
Parses text (Err _) = ⊥

-- `Completes` holds if the result is that of a read of `n` more bytes of a text, of which `before` is already read.
abbrev pub Completes : List ℕ → ℕ → Option (List ℕ) → List ℕ → Result Request WireFault → Type 0
Completes before n left bytes (Ok r) = IsText (before ++ bytes) r × (length bytes ≡ n)
Completes before n left bytes (Err fault.Malformed) = IsNoRequest (before ++ bytes) × (length bytes ≡ n)
Completes before n left bytes (Err e) = IsCutOrLacks n left bytes e

-- `HeadGives` holds if the result is the length field of a frame, or none at the end of the input.
abbrev pub HeadGives : Option (List ℕ) → (List ℕ → Type 0) → Option ℕ → Type 0
HeadGives left Gave (Some n) = Gave (big_bytes 4 n) × (n < 2 ^ 32)
HeadGives left Gave None = Gave [] × IsAtEnd left

-- `ReadGives` holds if the result is that of a read of one frame of this protocol that consumed `bytes`.
abbrev pub ReadGives : Protocol → Option (List ℕ) → List ℕ → Result (Option Request) WireFault → Type 0
ReadGives p left bytes (Ok (Some r)) = IsRead p bytes r []
ReadGives p left bytes (Ok None) = (bytes ≡ []) × IsAtEnd left
ReadGives p left bytes (Err fault.TooLong) = IsFaulty p bytes TooLong
ReadGives p left bytes (Err fault.Truncated) = IsFaulty p bytes Truncated × IsAtEnd left
ReadGives p left bytes (Err fault.Malformed) = IsFaulty p bytes Malformed
ReadGives p left bytes (Err fault.Read) = IsPart bytes
ReadGives p left bytes (Err fault.NoMemory) = IsBegun bytes

-- `Admits` holds if the result is the request that was read, or `Malformed` if the protocol doesn't have it.
abbrev pub Admits : Protocol → Request → Result (Option Request) WireFault → Type 0
Admits p r (Ok (Some q)) = (q ≡ r) × Knows p r
Admits p r (Ok None) = ⊥
Admits p r (Err fault.Malformed) = Knows p r → ⊥
Admits p r (Err _) = ⊥

abbrev pub found : Result Request WireFault → Result (Option Request) WireFault
found (Ok r) = Ok (Some r)
found (Err e) = Err e

-- `Tells` holds if the result agrees with the front `f`. After `Read` and `NoMemory` it says nothing.
abbrev pub Tells : Front → Result (Option Request) WireFault → Type 0
Tells f (Ok None) = f ≡ AtEnd
Tells f (Ok (Some r)) = (rest : List ℕ) × (f ≡ Whole r rest)
Tells f (Err fault.TooLong) = f ≡ Faulty TooLong
Tells f (Err fault.Truncated) = f ≡ Faulty Truncated
Tells f (Err fault.Malformed) = f ≡ Faulty Malformed
Tells f (Err fault.Read) = Unit {0}
Tells f (Err fault.NoMemory) = Unit {0}
