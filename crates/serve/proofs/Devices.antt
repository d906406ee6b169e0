-- Failures of readers and writers over consecutive calls.
use Rattle.std.proofs.Common.{◌≡◌, ℕ, List, Option, Err, ◌∙◌, subst, inl, inr}
use Rattle.std.specs.Io.KnownBytes.{IsAtEnd}
use Rattle.wire.specs.declared.fault.WireFault.{WireFault}
use Rattle.wire.specs.declared.fault.WireFault.TheVariants as wire
use Rattle.wire.specs.declared.protocol.Protocol.{Protocol}
use Rattle.wire.specs.Counting.{Counting, HasRisen, StaysCounted, HasFailed}
use Rattle.wire.specs.Reading.{FaultCounts, ReadGives}
use Rattle.serve.specs.declared.fault.ServeFault.{ServeFault}
use Rattle.serve.specs.declared.fault.ServeFault.TheVariants as fault
use Rattle.serve.specs.Devices.{IsReadFailure, IsWriteFailure}
use Rattle.serve.specs.Kept.{fault_of_wire}

pub stays_on : {T : Type 0} (a b c : Counting T) → StaysCounted a b → StaysCounted b c → StaysCounted a c
stays_on a b c h k = (k.0 ∙ h.0, k.1 ∙ h.1)

-- A count that is unchanged by one step and rises in the next has risen over both.
risen_later : (a b c : ℕ) → b ≡ a → HasRisen b c → HasRisen a c
risen_later a b c e h = subst (λ n. HasRisen n c) e h

pub wire_counts : {R : Type 0} (e : WireFault) (a b c : Counting R) → StaysCounted a b → FaultCounts e b c → IsReadFailure (fault_of_wire e) a c
wire_counts wire.TooLong a b c h k = stays_on a b c h k
wire_counts wire.Truncated a b c h k = stays_on a b c h k
wire_counts wire.Malformed a b c h k = stays_on a b c h k
wire_counts wire.Read a b c h k = risen_later a.failures b.failures c.failures h.0 k
wire_counts wire.NoMemory a b c h k = stays_on a b c h k

pub read_fails_later : {R : Type 0} (e : ServeFault) (a b c : Counting R) → StaysCounted a b → IsReadFailure e b c → IsReadFailure e a c
read_fails_later fault.TooLong a b c h k = stays_on a b c h k
read_fails_later fault.Truncated a b c h k = stays_on a b c h k
read_fails_later fault.Malformed a b c h k = stays_on a b c h k
read_fails_later fault.Read a b c h k = risen_later a.failures b.failures c.failures h.0 k
read_fails_later fault.NoMemory a b c h k = stays_on a b c h k
read_fails_later fault.Write a b c h k = stays_on a b c h k
read_fails_later fault.BadCount a b c h k = stays_on a b c h k

pub failed_later : {W : Type 0} (a b c : Counting W) → StaysCounted a b → HasFailed b c → HasFailed a c
failed_later a b c h (inl k) = inl (risen_later a.failures b.failures c.failures h.0 k)
failed_later a b c h (inr k) = inr (risen_later a.idle b.idle c.idle h.1 k)

pub write_fails_later : {W : Type 0} (e : ServeFault) (a b c : Counting W) → StaysCounted a b → IsWriteFailure e b c → IsWriteFailure e a c
write_fails_later fault.TooLong a b c h k = stays_on a b c h k
write_fails_later fault.Truncated a b c h k = stays_on a b c h k
write_fails_later fault.Malformed a b c h k = stays_on a b c h k
write_fails_later fault.Read a b c h k = stays_on a b c h k
write_fails_later fault.NoMemory a b c h k = stays_on a b c h k
write_fails_later fault.Write a b c h k = failed_later a b c h k
write_fails_later fault.BadCount a b c h k = stays_on a b c h k

-- If a frame is `Truncated`, the input is at its end.
pub ends : (p : Protocol) (e : WireFault) (left : Option (List ℕ)) (bytes : List ℕ) → ReadGives p left bytes (Err e) → fault_of_wire e ≡ fault.Truncated → IsAtEnd left
ends p wire.TooLong left bytes gives is = absurd cc
ends p wire.Truncated left bytes gives is = gives.1
ends p wire.Malformed left bytes gives is = absurd cc
ends p wire.Read left bytes gives is = absurd cc
ends p wire.NoMemory left bytes gives is = absurd cc
