-- All targets of an instruction.
use Rattle.std.proofs.Common.{◌≡◌, ℕ, zero, suc, Bool, true, false, ◌||◌, List, [], ◌∷◌, length, Option, Some, None, refl, sym, ap, ◌∙◌, arith, drop, ◌⊎◌, inl, inr}
use Rattle.std.specs.Prelude.{slice_get, ℤ, pos, negsuc}
use Rattle.std.proofs.lemmas.Bool.{false≢true}
use Rattle.decode.specs.declared.instruction.Instruction.{Instruction}
use Rattle.decode.specs.declared.instruction.Instruction.TheVariants as instruction
use Rattle.decode.specs.Places.{target_of, cases_of, IsTarget}
use Rattle.frames.specs.Frames.{Frame}
use Rattle.typecheck.specs.Typing.{Method, declared_at}
use Rattle.std.proofs.lemmas.List.{drop_all}
use Rattle.std.specs.Prelude.{is_some, Ok}
use Rattle.std.proofs.Common.{not, ◌+◌, ◌≤◌}
use Rattle.decode.specs.declared.instruction.Placed.{Placed}
use Rattle.frames.specs.declared.table.Declared.{Declared}
use Rattle.typecheck.specs.Seen.{target_row, target_frame, lacks_cases_row, branched_cases, met, flows}
use Rattle.typecheck.specs.Pass.{misfits, misfits_target, misfits_cases, misfits_targets}

one_of : (x y : Bool) → (x || y) ≡ true → (x ≡ true) ⊎ (y ≡ true)
one_of true y e = inl refl
one_of false y e = inr e

first_holds : (x y : Bool) → x ≡ true → (x || y) ≡ true
first_holds true y e = refl
first_holds false y e = absurd (false≢true e)

second_holds : (x y : Bool) → y ≡ true → (x || y) ≡ true
second_holds true y e = refl
second_holds false y e = e

neither_holds : (x y : Bool) → (x || y) ≡ false → (x ≡ false) × (y ≡ false)
neither_holds true y e = absurd (false≢true (sym e))
neither_holds false y e = (refl, e)

-- an instruction without a target has no cases
pub no_cases : (i : Instruction) → target_of i ≡ None → cases_of i ≡ []
no_cases (instruction.Switch default cases) e = cc e
no_cases _ e = refl

-- the targets from index `k` on are the one at `k` and those from `k + 1` on
pub drop_at : (xs : List ℤ) (k : ℕ) (z : ℤ) → slice_get xs k ≡ Some z → drop k xs ≡ z ∷ drop (suc k) xs
drop_at [] k z e = cc e
drop_at (x ∷ xs) zero z e = let same : x ≡ z = cc e in ap (λ (y : ℤ). y ∷ xs) same
drop_at (x ∷ xs) (suc k) z e = drop_at xs k z e

pub drop_on : (xs : List ℤ) (k : ℕ) (z : ℤ) → slice_get xs k ≡ Some z → drop k xs ≡ z ∷ drop (k + 1) xs
drop_on xs k z e = let next : suc k ≡ k + 1 = omega arith in drop_at xs k z e ∙ ap (λ (n : ℕ). z ∷ drop n xs) next

-- the test from case `k` on is that of case `k` or that from `k + 1` on
pub row_step : (ds : List Declared) (zs : List ℤ) (k : ℕ) (z : ℤ) (b : Bool) → slice_get zs k ≡ Some z → b ≡ not (is_some (target_row ds z)) → lacks_cases_row ds (drop k zs) ≡ (b || lacks_cases_row ds (drop (k + 1) zs))
row_step ds zs k z b e h = ap (lacks_cases_row ds) (drop_on zs k z e) ∙ ap (λ c. c || lacks_cases_row ds (drop (k + 1) zs)) (sym h)

pub case_step : (ds : List (ℕ × Frame)) (p : Placed) (g : Frame) (zs : List ℤ) (k : ℕ) (z : ℤ) → slice_get zs k ≡ Some z → branched_cases ds p g (drop k zs) ≡ met p g (target_frame ds z) (branched_cases ds p g (drop (k + 1) zs))
case_step ds p g zs k z e = ap (branched_cases ds p g) (drop_on zs k z e)

pub cases_done : (ds : List (ℕ × Frame)) (p : Placed) (g : Frame) (zs : List ℤ) (k : ℕ) → length zs ≤ k → branched_cases ds p g (drop k zs) ≡ Ok (flows p g)
cases_done ds p g zs k l = ap (branched_cases ds p g) (drop_all k zs l)

module _ (m : Method) (g : Frame) where
  misfit_target : (o : Option ℤ) → misfits_target m g o ≡ true → (q : ℕ) × (o ≡ Some (pos q)) × (misfits g (declared_at m q) ≡ true)
  misfit_target None b = cc b
  misfit_target (Some (pos q)) b = (q, refl, b)
  misfit_target (Some (negsuc n)) b = cc b

  misfit_case : (zs : List ℤ) → misfits_cases m g zs ≡ true → (k : ℕ) × (q : ℕ) × (slice_get zs k ≡ Some (pos q)) × (misfits g (declared_at m q) ≡ true)
  misfit_case [] b = cc b
  misfit_case (z ∷ zs) b = go (one_of (misfits_target m g (Some z)) (misfits_cases m g zs) b) (λ h. misfit_case zs h)
    where
      go : (misfits_target m g (Some z) ≡ true) ⊎ (misfits_cases m g zs ≡ true) → (misfits_cases m g zs ≡ true → (k : ℕ) × (q : ℕ) × (slice_get zs k ≡ Some (pos q)) × (misfits g (declared_at m q) ≡ true)) → (k : ℕ) × (q : ℕ) × (slice_get (z ∷ zs) k ≡ Some (pos q)) × (misfits g (declared_at m q) ≡ true)
      go (inl h) later = let t = misfit_target (Some z) h in (0, t.0, t.1, t.2)
      go (inr h) later = let t = later h in (suc t.0, t.1, t.2, t.3)

  -- a frame that doesn't fit all targets misfits at some target
  pub misfit_is : (i : Instruction) → misfits_targets m g i ≡ true → (q : ℕ) × IsTarget i (pos q) × (misfits g (declared_at m q) ≡ true)
  misfit_is i b = go (one_of (misfits_target m g (target_of i)) (misfits_cases m g (cases_of i)) b)
    where
      go : (misfits_target m g (target_of i) ≡ true) ⊎ (misfits_cases m g (cases_of i) ≡ true) → (q : ℕ) × IsTarget i (pos q) × (misfits g (declared_at m q) ≡ true)
      go (inl h) = let t = misfit_target (target_of i) h in (t.0, inl t.1, t.2)
      go (inr h) = let t = misfit_case (cases_of i) h in (t.1, inr (t.0, t.2), t.3)

  case_misfits : (zs : List ℤ) (k : ℕ) (z : ℤ) → slice_get zs k ≡ Some z → misfits_target m g (Some z) ≡ true → misfits_cases m g zs ≡ true
  case_misfits [] k z e h = cc e
  case_misfits (y ∷ zs) zero z e h =
      let same : Some z ≡ Some y = sym e in
      first_holds _ _ (ap (misfits_target m g) (sym same) ∙ h)
  case_misfits (y ∷ zs) (suc k) z e h = second_holds _ _ (case_misfits zs k z e h)

  pub is_misfit : (i : Instruction) (z : ℤ) → IsTarget i z → misfits_target m g (Some z) ≡ true → misfits_targets m g i ≡ true
  is_misfit i z (inl e) h = first_holds _ _ (ap (misfits_target m g) e ∙ h)
  is_misfit i z (inr (k, e)) h = second_holds _ _ (case_misfits (cases_of i) k z e h)

  -- a frame that misfits at no target fits at each
  pub fits_each : (i : Instruction) (z : ℤ) → misfits_targets m g i ≡ false → IsTarget i z → misfits_target m g (Some z) ≡ false
  fits_each i z n t = go (misfits_target m g (Some z)) refl
    where
      go : (b : Bool) → misfits_target m g (Some z) ≡ b → misfits_target m g (Some z) ≡ false
      go true h = absurd (false≢true (sym n ∙ is_misfit i z t h))
      go false h = h
