-- The branch targets of a code.
use Rattle.std.proofs.Common.{Bor, ◌≡◌, ℕ, ℤ, pos, ◌<◌, ◌^◌, List, [], ◌∷◌, length, None, Some, subst, ap, ◌∙◌, refl, arith, get_or, Bool, true, false, eqb, zero, suc, negsuc, ◌≤ℤ◌, FitsSigned, to_z, of_z, rules}
use Rattle.std.proofs.lemmas.Bool.{eqb-true, eq-eqb, false≢true}
use Rattle.std.proofs.lemmas.Int.{to_z-of_z}
use Rattle.std.specs.Prelude.{Any, is_some, Option}
use Rattle.std.specs.Option.{option_copied}
use Rattle.std.specs.Int.{w64, w128, FitsUnsigned}
use Rattle.std.proofs.Math.IntN.{nat_abs}
use Rattle.std.specs.List.{AllWithin}
use Rattle.jtypes.specs.declared.refusal.Refusal.{Refusal}
use Rattle.jtypes.specs.declared.refusal.Refusal.TheVariants.{BadTarget, BackwardBranch}
use Rattle.decode.specs.declared.instruction.Placed.{Placed}
use Rattle.std.specs.Prelude.{slice_get}
use Rattle.std.proofs.Common.{inl, inr}
use Rattle.decode.specs.declared.instruction.Instruction.{Instruction}
use Rattle.decode.specs.declared.instruction.Instruction.TheVariants as instruction
use Rattle.decode.specs.Places.{at_place, target_of, cases_of, IsTarget, BranchStands}
use Rattle.decode.specs.Reading.{RisesFrom, IsRefusalAt, IsCasesRefusal, IsTargetRefusal}
use Rattle.decode.proofs.Search.{below_places}

-- if no branch target is refused, no refusal of branch targets applies
pub none_stands : (code : List Placed) → AllWithin (λ p. IsTargetRefusal code p None) code 0 (length code) → (r : Refusal) → BranchStands code r → ⊥
none_stands code h BadTarget (k, x, lt, e, b) = let f = subst (λ (p : Placed). IsTargetRefusal code p None) e (h k x (omega arith) lt) in f.0 b
none_stands code h BackwardBranch (k, x, lt, e, b) = let f = subst (λ (p : Placed). IsTargetRefusal code p None) e (h k x (omega arith) lt) in f.1 b
none_stands code h _ b = absurd b

-- `IsStart` holds if the target is the pc of some instruction
abbrev pub IsStart : List Placed → ℤ → Type 0
IsStart code target = Any (λ p. pos p.place ≡ target) code

pub start_found : (code : List Placed) (n : ℕ) → is_some (at_place code n) ≡ true → IsStart code (pos n)
start_found [] n h = absurd (false≢true h)
start_found (x ∷ xs) n h = go (eqb x.place n) refl (start_found xs n)
  where
    go : (b : Bool) → eqb x.place n ≡ b → (is_some (at_place xs n) ≡ true → IsStart xs (pos n)) → IsStart (x ∷ xs) (pos n)
    go true e later = (0, x, omega arith, refl, ap (λ (k : ℕ). pos k) (eqb-true _ _ e))
    go false e later =
        let rest : is_some (at_place xs n) ≡ true = rw e at h in
        let f = later rest in
        (suc f.0, f.1, omega (arith, f.2), f.3, f.4)

start_at : (code : List Placed) (n k : ℕ) (x : Placed) → k < length code → get_or code k x ≡ x → x.place ≡ n → is_some (at_place code n) ≡ true
start_at [] n k x lt e p = absurd (omega arith)
start_at (y ∷ ys) n zero x lt e p =
    let same : y.place ≡ n = ap (λ (q : Placed). q.place) e ∙ p in
    rw (eq-eqb y.place n same) refl
start_at (y ∷ ys) n (suc k) x lt e p = go (eqb y.place n) refl (start_at ys n k x (omega arith) e p)
  where
    go : (b : Bool) → eqb y.place n ≡ b → is_some (at_place ys n) ≡ true → is_some (at_place (y ∷ ys) n) ≡ true
    go true s later = rw s refl
    go false s later = rw s later

pub start_is_some : (code : List Placed) (n : ℕ) → IsStart code (pos n) → is_some (at_place code n) ≡ true
start_is_some code n (k, x, lt, e, p) = let same : x.place ≡ n = cc in start_at code n k x lt e same

from_abs : (z : ℤ) (n : ℕ) → pos 0 ≤ℤ z → n ≡ nat_abs z → pos n ≡ z
from_abs (pos k) n le e = ap (λ (m : ℕ). pos m) e
from_abs (negsuc k) n le e = absurd (omega arith)

-- a target that isn't negative equals the pc to which it is converted
pub place_from_target : (target : ℤ) (n : ℕ) → FitsSigned w128 target → pos 0 ≤ℤ to_z w128 (of_z w128 target) → n ≡ nat_abs (to_z w128 (of_z w128 target)) → pos n ≡ target
place_from_target target n fits le e = let same = to_z-of_z w128 target fits in from_abs target n (rw same at le) (rw same at e)

-- an option of a reference has a value exactly if its copy has one
pub some_copied : (o : Option (Bor Placed)) → is_some o ≡ is_some (option_copied o)
some_copied None = refl
some_copied (Some x) = refl

-- the pc of each instruction fits in 64 bits
pub start_fits : (code : List Placed) (target : ℤ) → RisesFrom 0 code → IsStart code target → (n : ℕ) × (pos n ≡ target) × (n < 2 ^ 64)
start_fits code target h (k, x, lt, e, p) =
    let b = below_places 0 code h k x lt in
    let place : (get_or code k x).place ≡ x.place = ap (λ (q : Placed). q.place) e in
    (x.place, p, omega (arith, b.1, b.2))

pub start_fits_place : (code : List Placed) (target : ℤ) → FitsSigned w128 target → RisesFrom 0 code → IsStart code target → FitsUnsigned w64 (to_z w128 (of_z w128 target))
start_fits_place code target fits h s =
    let (n, e, less) = start_fits code target h s in
    let same = to_z-of_z w128 target fits in
    rw same (rw (← e) (search (rules, less)))

-- ---- the targets of one instruction

pub refuses : (code : List Placed) (p : Placed) (z : ℤ) (r : Refusal) → IsTarget p.instruction z → IsRefusalAt code p.place z (Some r) → IsTargetRefusal code p (Some r)
refuses code p z BadTarget t h = (z, t, h)
refuses code p z BackwardBranch t h = (z, t, h)
refuses code p z _ t h = h

pub case_refuses : (code : List Placed) (p : Placed) (r : Refusal) → IsCasesRefusal code p (Some r) → IsTargetRefusal code p (Some r)
case_refuses code p r (k, z, e, h) = refuses code p z r (inr (k, e)) h

-- an instruction without `target_of` has no case targets
has_target : (i : Instruction) → target_of i ≡ None → (k : ℕ) (z : ℤ) → slice_get (cases_of i) k ≡ Some z → ⊥
has_target (instruction.Switch default cases) e k z h = cc e
has_target _ e k z h = cc h

-- an instruction without `target_of` has no branch targets
pub no_target : (i : Instruction) (z : ℤ) → target_of i ≡ None → IsTarget i z → ⊥
no_target i z e (inl f) = cc (f, e)
no_target i z e (inr (k, f)) = has_target i e k z f

pub no_target_refuses : (code : List Placed) (p : Placed) → target_of p.instruction ≡ None → IsTargetRefusal code p None
no_target_refuses code p e = (λ b. no_target p.instruction b.0 e b.1, λ b. no_target p.instruction b.0 e b.1)

pub no_case_refuses : (code : List Placed) (p : Placed) (target : ℤ) → target_of p.instruction ≡ Some target → IsRefusalAt code p.place target None → IsCasesRefusal code p None → IsTargetRefusal code p None
no_case_refuses code p target e h cases = (λ b. (each b.0 b.1).0 b.2, λ b. (each b.0 b.1).1 b.2)
  where
    each : (z : ℤ) → IsTarget p.instruction z → IsRefusalAt code p.place z None
    each z (inl f) = let same : target ≡ z = cc (e, f) in subst (λ (y : ℤ). IsRefusalAt code p.place y None) same h
    each z (inr (k, f)) = cases k z f

pub case_there : (xs : List ℤ) (i : ℕ) → i < length xs → (z : ℤ) × (slice_get xs i ≡ Some z)
case_there [] i l = absurd (omega arith)
case_there (x ∷ xs) zero l = (x, refl)
case_there (x ∷ xs) (suc i) l = case_there xs i (omega arith)
