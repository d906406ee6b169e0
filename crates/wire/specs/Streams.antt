-- The bytes that a call writes.
use Rattle.std.specs.Prelude.{◌≡◌, ℕ, List, ◌++◌, Option}
use Rattle.std.specs.Io.KnownBytes.{Appends}
use Rattle.wire.specs.Counting.{Counting, StaysCounted, HasFailed}

-- `AppendsPart` holds if a prefix of the bytes was appended.
abbrev pub AppendsPart : Option (List ℕ) → Option (List ℕ) → List ℕ → Type 0
AppendsPart old new bytes = (front : List ℕ) × (back : List ℕ) × (bytes ≡ front ++ back) × Appends old new front

-- `Wrote` holds if all the bytes were appended, and no call failed.
pub record Wrote {T : Type 0} (contents : T → Option (List ℕ)) (old new : Counting T) (bytes : List ℕ) : Type 0 where
  pub appended : Appends (contents old.inner) (contents new.inner) bytes
  pub kept : StaysCounted old new

-- `WrotePart` holds if a prefix of the bytes was appended, and a call failed.
pub record WrotePart {T : Type 0} (contents : T → Option (List ℕ)) (old new : Counting T) (bytes : List ℕ) : Type 0 where
  pub part : AppendsPart (contents old.inner) (contents new.inner) bytes
  pub failed : HasFailed old new
