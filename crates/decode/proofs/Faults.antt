-- Refusals of a code by pc.
use Rattle.std.proofs.Common.{◌≡◌, ◌≢◌, ℕ, suc, ◌+◌, ◌-◌, ◌<◌, Bool, true, false, cond, List, [], ◌∷◌, length, get_or, Some, refl, sym, ap, ◌∙◌, subst, arith, inl, inr}
use Rattle.std.specs.Prelude.{◌==◌}
use Rattle.std.proofs.lemmas.List.{length-append}
use Rattle.jtypes.specs.declared.refusal.Refusal.{Refusal}
use Rattle.jtypes.specs.declared.refusal.Refusal.TheVariants.{BadTarget, BackwardBranch, NoMemory}
use Rattle.jtypes.specs.Layout.{Stands}
use Rattle.jtypes.specs.Profile.{Profile, Third}
use Rattle.constpool.specs.Lookup.{Slot}
use Rattle.decode.specs.declared.instruction.Placed.{Placed}
use Rattle.decode.specs.Code.{one, IsSequence}
use Rattle.decode.specs.Places.{at_place, BranchStands, CodeStands}
use Rattle.decode.specs.Reading.{RisesFrom, IsTargetRefusal}
use Rattle.decode.specs.Faults.{StopsAt, BranchStandsAt, CodeStandsAt}
use Rattle.decode.proofs.Runs.{Run, run_found}
use Rattle.decode.proofs.Search.{at_there}

-- the lookup at the pc of an instruction gives that instruction
pub stands_at : (code items : List Placed) (k : ℕ) (p : Placed) → items ≡ code → RisesFrom 0 code → k < length items → p ≡ get_or items k p → at_place code p.place ≡ Some p
stands_at code items k p same rises l is = sym (at_there code code items p.place k p refl rises same l is refl)

-- the instruction at a pc is an element of the code
pub element : (code : List Placed) (q : ℕ) (p : Placed) → at_place code q ≡ Some p → (k : ℕ) × (k < length code) × (get_or code k p ≡ p)
element [] q p e = cc
element (x ∷ code) q p e = go (element code q p) (x.place == q) e
  where
    go : (at_place code q ≡ Some p → (k : ℕ) × (k < length code) × (get_or code k p ≡ p)) → (b : Bool) → cond b (Some x) (at_place code q) ≡ Some p → (k : ℕ) × (k < suc (length code)) × (get_or (x ∷ code) k p ≡ p)
    go later true f = let same : x ≡ p = cc f in (0, omega arith, same)
    go later false f = let r = later f in let l = r.1 in (suc r.0, omega (arith, l), r.2)

-- ---- the read that stops with a refusal

pub run_stops_at : (pool : List Slot) (bytes : List ℕ) (ps : List Placed) (rest : List ℕ) (place : ℕ) (r : Refusal) → Run pool (length bytes) bytes ps rest → 0 < length rest → place ≡ length bytes - length rest
    → Stands (one Third pool (length bytes - length rest)) rest r → StopsAt Third pool bytes place r
run_stops_at pool bytes ps rest place r run n at h =
    let i = run_found pool (length bytes) bytes ps rest (omega arith) run in
    let z : length bytes - length bytes ≡ 0 = omega arith in
    let s = subst (λ (m : ℕ). IsSequence Third pool m i.0 ps) z i.2 in
    let l : length bytes ≡ length i.0 + length rest = ap length i.1 ∙ length-append i.0 rest in
    let k : length bytes - length rest ≡ length i.0 = omega arith in
    (ps, i.0, rest, i.1, s, n, subst (λ (m : ℕ). Stands (one Third pool m) rest r) k h, sym k ∙ sym at)

-- ---- branch targets

pub branch_at : (code : List Placed) (p : Placed) (r : Refusal) → at_place code p.place ≡ Some p → IsTargetRefusal code p (Some r) → BranchStandsAt code p.place r
branch_at code p BadTarget at h = (p, at, h)
branch_at code p BackwardBranch at h = (p, at, h)
branch_at code p r at h = absurd h

pub not_memory : (code : List Placed) (p : Placed) (r : Refusal) → IsTargetRefusal code p (Some r) → r ≢ NoMemory
not_memory code p r h e = subst (λ (x : Refusal). IsTargetRefusal code p (Some x)) e h

branch_stands : (code : List Placed) (place : ℕ) (r : Refusal) → BranchStandsAt code place r → BranchStands code r
branch_stands code place BadTarget (p, at, h) = let k = element code place p at in (k.0, p, k.1, k.2, h)
branch_stands code place BackwardBranch (p, at, h) = let k = element code place p at in (k.0, p, k.1, k.2, h)
branch_stands code place r h = absurd h

-- a refusal that applies at a pc applies to the code
pub code_stands : (profile : Profile) (pool : List Slot) (bytes : List ℕ) (place : ℕ) (r : Refusal) → CodeStandsAt profile pool bytes place r → CodeStands profile pool bytes r
code_stands profile pool bytes place r (inl s) = inl (s.0, s.1, s.2, s.3, s.4, s.5, s.6)
code_stands profile pool bytes place r (inr (code, s, b)) = inr (code, s, branch_stands code place r b)
