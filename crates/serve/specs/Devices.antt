-- The bytes that a call reads and writes, and the counts of failed calls.
use Rattle.std.specs.Prelude.{ℕ, List, Option, Result, Ok, Err}
use Rattle.std.specs.Io.KnownBytes.{Consumes, Appends}
use Rattle.wire.specs.Counting.{Counting, HasRisen, HasFailed, StaysCounted}
use Rattle.serve.specs.declared.fault.ServeFault.{ServeFault}
use Rattle.serve.specs.declared.fault.ServeFault.TheVariants as fault

-- `TookAndGave` holds if bytes were read from the reader and bytes were written to the writer, and `P` holds of them.
abbrev pub TookAndGave : Option (List ℕ) → Option (List ℕ) → Option (List ℕ) → Option (List ℕ) → (List ℕ → List ℕ → Type 0) → Type 0
TookAndGave left left_now held held_now P = (taken : List ℕ) × (given : List ℕ) × Consumes left left_now taken × Appends held held_now given × P taken given

-- `IsReadFailure` holds if a `Read` fault raised the failure count, or it is saturated, and any other fault left both counts unchanged.
abbrev pub IsReadFailure : {R : Type 0} → ServeFault → Counting R → Counting R → Type 0
IsReadFailure fault.Read old new = HasRisen old.failures new.failures
IsReadFailure _ old new = StaysCounted old new

abbrev pub ReadsAreCounted : {A R : Type 0} → Result A ServeFault → Counting R → Counting R → Type 0
ReadsAreCounted (Ok x) old new = StaysCounted old new
ReadsAreCounted (Err f) old new = IsReadFailure f old new

-- `IsWriteFailure` holds if a `Write` fault raised one of the two counts, or one is saturated,
-- and any other fault left both counts unchanged.
abbrev pub IsWriteFailure : {W : Type 0} → ServeFault → Counting W → Counting W → Type 0
IsWriteFailure fault.Write old new = HasFailed old new
IsWriteFailure _ old new = StaysCounted old new

abbrev pub WritesAreCounted : {A W : Type 0} → Result A ServeFault → Counting W → Counting W → Type 0
WritesAreCounted (Ok x) old new = StaysCounted old new
WritesAreCounted (Err f) old new = IsWriteFailure f old new
