-- Refusals of a code, by the pc of the instruction to which they apply.
use Rattle.std.specs.Prelude.{◌≡◌, ◌≢◌, ℕ, ◌<◌, List, ◌++◌, length, Some, Result, Ok, Err, ◌⊎◌}
use Rattle.std.specs.Global.{Vec}
use Rattle.jtypes.specs.declared.refusal.Refusal.{Refusal}
use Rattle.jtypes.specs.declared.refusal.Refusal.TheVariants.{BadTarget, BackwardBranch, NoMemory}
use Rattle.jtypes.specs.Layout.{Stands}
use Rattle.jtypes.specs.Profile.{Profile, Third}
use Rattle.constpool.specs.Lookup.{Slot}
use Rattle.decode.specs.declared.instruction.Placed.{Placed}
use Rattle.decode.specs.declared.fault.Fault.{Fault}
use Rattle.decode.specs.Code.{one, IsSequence, StopsWith}
use Rattle.decode.specs.Places.{at_place, HasBadTarget, HasBackwardTarget}

-- `StopsAt` holds if the read of the instructions stops with this refusal at the instruction at this pc
abbrev pub StopsAt : Profile → List Slot → List ℕ → ℕ → Refusal → Type 0
StopsAt profile pool bytes place r =
    (ps : List Placed) × (front : List ℕ) × (back : List ℕ) × (bytes ≡ front ++ back) × IsSequence profile pool 0 front ps × (0 < length back) × Stands (one profile pool (length front)) back r × (length front ≡ place)

-- `BranchStandsAt` holds if a refusal of branch targets applies to the instruction at this pc of a code that was read to its end
abbrev pub BranchStandsAt : List Placed → ℕ → Refusal → Type 0
BranchStandsAt code place BadTarget = (p : Placed) × (at_place code place ≡ Some p) × HasBadTarget code p
BranchStandsAt code place BackwardBranch = (p : Placed) × (at_place code place ≡ Some p) × HasBackwardTarget p
BranchStandsAt code place _ = ⊥

-- `CodeStandsAt` holds if a refusal applies to the instruction at this pc, without a check of called methods and cast types
abbrev pub CodeStandsAt : Profile → List Slot → List ℕ → ℕ → Refusal → Type 0
CodeStandsAt profile pool bytes place r =
    StopsAt profile pool bytes place r ⊎ ((code : List Placed) × IsSequence profile pool 0 bytes code × BranchStandsAt code place r)

-- the result of the read of a sequence of instructions
abbrev pub Reads : List Slot → List ℕ → Result (Vec Placed) Fault → Type 0
Reads pool bytes (Ok placed) = IsSequence Third pool 0 bytes placed.items × ((r : Refusal) → StopsWith Third pool bytes r → ⊥)
Reads pool bytes (Err f) = f.refusal ≢ NoMemory → StopsAt Third pool bytes f.place f.refusal
