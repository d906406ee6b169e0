-- The results of the functions that read a code.
use Rattle.std.specs.Prelude.{ℤ, IsTrue, slice_get, ◌≡◌, ◌<◌, ◌^◌, ℕ, List, [], ◌∷◌, Option, Some, None}
use Rattle.jtypes.specs.declared.refusal.Refusal.{Refusal}
use Rattle.jtypes.specs.declared.refusal.Refusal.TheVariants.{BadTarget, BackwardBranch}
use Rattle.decode.specs.declared.instruction.Placed.{Placed}
use Rattle.decode.specs.Places.{cases_of, has_rising_keys, IsBadTarget, IsBackward, HasBadTarget, HasBackwardTarget}

-- `RisesFrom` holds if the first instruction is at this pc, each other one at the end of the one before it, and all pcs fit in 64 bits
abbrev pub RisesFrom : ℕ → List Placed → Type 0
RisesFrom place [] = Unit {0}
RisesFrom place (p ∷ ps) = (p.place ≡ place) × (p.place < p.next) × (p.next < 2 ^ 64) × RisesFrom p.next ps

-- `HaveRisingKeys` holds if the keys of each `lookupswitch` are strictly increasing
abbrev pub HaveRisingKeys : List Placed → Type 0
HaveRisingKeys [] = Unit {0}
HaveRisingKeys (p ∷ ps) = IsTrue (has_rising_keys p.instruction) × HaveRisingKeys ps

-- the result of the check of one branch target of the instruction at a pc
abbrev pub IsRefusalAt : List Placed → ℕ → ℤ → Option Refusal → Type 0
IsRefusalAt code place target None = (IsBadTarget code target → ⊥) × (IsBackward place target → ⊥)
IsRefusalAt code place target (Some BadTarget) = IsBadTarget code target
IsRefusalAt code place target (Some BackwardBranch) = IsBackward place target
IsRefusalAt code place target (Some _) = ⊥

-- the result of the check of the case targets of a switch
abbrev pub IsCasesRefusal : List Placed → Placed → Option Refusal → Type 0
IsCasesRefusal code p None = (k : ℕ) (target : ℤ) → slice_get (cases_of p.instruction) k ≡ Some target → IsRefusalAt code p.place target None
IsCasesRefusal code p (Some r) = (k : ℕ) × (target : ℤ) × (slice_get (cases_of p.instruction) k ≡ Some target) × IsRefusalAt code p.place target (Some r)

-- the result of the check of all branch targets of an instruction
abbrev pub IsTargetRefusal : List Placed → Placed → Option Refusal → Type 0
IsTargetRefusal code p None = (HasBadTarget code p → ⊥) × (HasBackwardTarget p → ⊥)
IsTargetRefusal code p (Some BadTarget) = HasBadTarget code p
IsTargetRefusal code p (Some BackwardBranch) = HasBackwardTarget p
IsTargetRefusal code p (Some _) = ⊥
