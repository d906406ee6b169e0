-- Cycles of own calls.
use Rattle.std.specs.Prelude.{◌≡◌, ℕ, suc, ◌<◌, nat_lt, List, length, get_or, Some, slice_get, if◌then◌else◌}
use Rattle.decode.specs.declared.instruction.Placed.{Placed}
use Rattle.typecheck.specs.Typing.{Method, Class, instruction_at, call_of, own_of}
use Rattle.typecheck.specs.Calls.{AreRising, callee_in}
use Rattle.typecheck.specs.declared.typed.Typed.{Typed}
use Rattle.explain.specs.declared.circle.OwnCall.{OwnCall}

-- The index after `i`, which is 0 after the last of `n`.
abbrev pub next_of : ℕ → ℕ → ℕ
next_of n i = if nat_lt (suc i) n then suc i else 0

-- `Calls` holds if the instruction of method `j` at this pc is a call of own method `k`.
abbrev pub Calls : Class → (j place k : ℕ) → Type 0
Calls c j place k = (m : Method) × (p : Placed) × (slice_get c.methods j ≡ Some m) × (instruction_at m place ≡ Some p) × (call_of c.view p.instruction ≡ Some k)

-- `IsCircle` holds if each call reaches the method of the next one, the last one that of the first, and there is a call.
pub record IsCircle (c : Class) (calls : List OwnCall) : Type 0 where
  pub some : 0 < length calls
  pub each : (i : ℕ) (d : OwnCall) → i < length calls → Calls c (get_or calls i d).method (get_or calls i d).place (get_or calls (next_of (length calls) i) d).method

-- ---- the same for lists of typed methods

abbrev pub IsRowAmong : List Typed → Typed → ℕ → Type 0
IsRowAmong rows row number = (i : ℕ) × (i < length rows) × (row ≡ get_or rows i row) × (row.number ≡ number)

abbrev pub IsCallAmong : List Typed → (j place k : ℕ) → Type 0
IsCallAmong rows j place k = (row : Typed) × IsRowAmong rows row j × (AreRising row.calls.items → own_of (callee_in row.calls.items place) ≡ Some k)

pub record IsCircleAmong (rows : List Typed) (calls : List OwnCall) : Type 0 where
  pub some : 0 < length calls
  pub each : (i : ℕ) (d : OwnCall) → i < length calls → IsCallAmong rows (get_or calls i d).method (get_or calls i d).place (get_or calls (next_of (length calls) i) d).method
