-- Whether some branch of a class leads back, by the targets of its instructions.
use Rattle.std.proofs.Common.{◌≡◌, ℕ, zero, suc, ◌<◌, ◌≤◌, Bool, true, false, ◌||◌, List, [], ◌∷◌, Option, Some, None, refl, sym, ap, ◌∙◌, subst, arith, ◌⊎◌, inl, inr}
use Rattle.std.specs.Prelude.{slice_get, ℤ, pos, negsuc, ◌≤ℤ◌, T, ◌==◌, cond, Any}
use Rattle.std.proofs.lemmas.Bool.{eqb-true, false≢true, cases_lt, le-leb}
use Rattle.decode.specs.declared.instruction.Placed.{Placed}
use Rattle.decode.specs.Places.{at_place, target_of, cases_of, IsTarget, HasBackwardTarget}
use Rattle.typecheck.specs.Typing.{Method, instruction_at}
use Rattle.verdict.proofs.Methods.{any_from}
use Rattle.unrolled.specs.Rules.{is_back, any_back, back_target, leads_back, has_loops}

or_cases : (a b : Bool) → (a || b) ≡ true → (a ≡ true) ⊎ (b ≡ true)
or_cases true b e = inl refl
or_cases false b e = inr e

or_left : (a b : Bool) → a ≡ true → (a || b) ≡ true
or_left true b e = refl
or_left false b e = cc

or_right : (a b : Bool) → b ≡ true → (a || b) ≡ true
or_right true b e = refl
or_right false b e = e

-- ---- a code that leads back has a backward target

back_is : (place : ℕ) (z : ℤ) → is_back place z ≡ true → z ≤ℤ pos place
back_is place (pos q) h = record { le = subst T (sym h) tt }
back_is place (negsuc n) h = cc

target_found : (place : ℕ) (o : Option ℤ) → back_target place o ≡ true → (z : ℤ) × (o ≡ Some z) × (is_back place z ≡ true)
target_found place None h = cc
target_found place (Some z) h = (z, refl, h)

case_found : (place : ℕ) (zs : List ℤ) → any_back place zs ≡ true → (k : ℕ) × (z : ℤ) × (slice_get zs k ≡ Some z) × (is_back place z ≡ true)
case_found place [] h = cc
case_found place (z ∷ zs) h = go (case_found place zs) (or_cases (is_back place z) (any_back place zs) h)
  where
    go : (any_back place zs ≡ true → (k : ℕ) × (y : ℤ) × (slice_get zs k ≡ Some y) × (is_back place y ≡ true)) → (is_back place z ≡ true) ⊎ (any_back place zs ≡ true)
        → (k : ℕ) × (y : ℤ) × (slice_get (z ∷ zs) k ≡ Some y) × (is_back place y ≡ true)
    go later (inl e) = (0, z, refl, e)
    go later (inr e) = let r = later e in (suc r.0, r.1, r.2, r.3)

abbrev goes_back : Placed → Bool
goes_back p = back_target p.place (target_of p.instruction) || any_back p.place (cases_of p.instruction)

one_found : (p : Placed) → goes_back p ≡ true → HasBackwardTarget p
one_found p h = go (or_cases (back_target p.place (target_of p.instruction)) (any_back p.place (cases_of p.instruction)) h)
  where
    go : (back_target p.place (target_of p.instruction) ≡ true) ⊎ (any_back p.place (cases_of p.instruction) ≡ true) → HasBackwardTarget p
    go (inl e) = let t = target_found p.place (target_of p.instruction) e in (t.0, inl t.1, back_is p.place t.0 t.2)
    go (inr e) = let t = case_found p.place (cases_of p.instruction) e in (t.1, inr (t.0, t.2), back_is p.place t.1 t.3)

found_at : (code : List Placed) → leads_back code ≡ true → (k : ℕ) × (p : Placed) × (slice_get code k ≡ Some p) × HasBackwardTarget p
found_at [] h = cc
found_at (p ∷ code) h = go (found_at code) (or_cases (goes_back p) (leads_back code) h)
  where
    go : (leads_back code ≡ true → (k : ℕ) × (x : Placed) × (slice_get code k ≡ Some x) × HasBackwardTarget x) → (goes_back p ≡ true) ⊎ (leads_back code ≡ true)
        → (k : ℕ) × (x : Placed) × (slice_get (p ∷ code) k ≡ Some x) × HasBackwardTarget x
    go later (inl e) = (0, p, refl, one_found p e)
    go later (inr e) = let r = later e in (suc r.0, r.1, r.2, r.3)

pub back_found : (code : List Placed) → leads_back code ≡ true → Any HasBackwardTarget code
back_found code h = let r = found_at code h in any_from HasBackwardTarget code r.0 r.1 r.2 r.3

-- ---- and the other way round

any_back_by : (place : ℕ) (zs : List ℤ) (k : ℕ) (z : ℤ) → slice_get zs k ≡ Some z → is_back place z ≡ true → any_back place zs ≡ true
any_back_by place [] k z e h = cc
any_back_by place (y ∷ zs) zero z e h = let same : y ≡ z = cc e in or_left (is_back place y) (any_back place zs) (ap (is_back place) same ∙ h)
any_back_by place (y ∷ zs) (suc k) z e h = or_right (is_back place y) (any_back place zs) (any_back_by place zs k z e h)

goes_back_by : (p : Placed) (q : ℕ) → IsTarget p.instruction (pos q) → q ≤ p.place → goes_back p ≡ true
goes_back_by p q (inl e) low = or_left (back_target p.place (target_of p.instruction)) (any_back p.place (cases_of p.instruction)) (ap (back_target p.place) e ∙ le-leb q p.place low)
goes_back_by p q (inr t) low = or_right (back_target p.place (target_of p.instruction)) (any_back p.place (cases_of p.instruction)) (any_back_by p.place (cases_of p.instruction) t.0 (pos q) t.1 (le-leb q p.place low))

pub leads_back_by : (code : List Placed) (k : ℕ) (p : Placed) (q : ℕ) → slice_get code k ≡ Some p → IsTarget p.instruction (pos q) → q ≤ p.place → leads_back code ≡ true
leads_back_by [] k p q e to low = cc
leads_back_by (x ∷ code) zero p q e to low = let same : x ≡ p = cc e in or_left (goes_back x) (leads_back code) (ap goes_back same ∙ goes_back_by p q to low)
leads_back_by (x ∷ code) (suc k) p q e to low = or_right (goes_back x) (leads_back code) (leads_back_by code k p q e to low)

-- ---- classes

pub no_loops : (methods : List Method) → ((j : ℕ) (m : Method) → slice_get methods j ≡ Some m → leads_back m.code ≡ false) → has_loops methods ≡ false
no_loops [] each = refl
no_loops (m ∷ methods) each = ap (λ b. b || has_loops methods) (each 0 m refl) ∙ no_loops methods (λ j n e. each (suc j) n e)

pub loops_by : (methods : List Method) (j : ℕ) (m : Method) → slice_get methods j ≡ Some m → leads_back m.code ≡ true → has_loops methods ≡ true
loops_by [] j m e h = cc
loops_by (n ∷ methods) zero m e h = let same : n ≡ m = cc e in or_left (leads_back n.code) (has_loops methods) (ap (λ (x : Method). leads_back x.code) same ∙ h)
loops_by (n ∷ methods) (suc j) m e h = or_right (leads_back n.code) (has_loops methods) (loops_by methods j m e h)

placed_at : (code : List Placed) (q : ℕ) (p : Placed) → at_place code q ≡ Some p → (k : ℕ) × (slice_get code k ≡ Some p) × (p.place ≡ q)
placed_at [] q p e = cc
placed_at (x ∷ code) q p e = go (placed_at code q p) (x.place == q) refl e
  where
    go : (at_place code q ≡ Some p → (k : ℕ) × (slice_get code k ≡ Some p) × (p.place ≡ q)) → (b : Bool) → (x.place == q) ≡ b → cond b (Some x) (at_place code q) ≡ Some p → (k : ℕ) × (slice_get (x ∷ code) k ≡ Some p) × (p.place ≡ q)
    go later true is f =
        let same : x ≡ p = cc f in
        (0, f, sym (ap (λ (y : Placed). y.place) same) ∙ eqb-true x.place q is)
    go later false is f = let r = later f in (suc r.0, r.1, r.2)

-- In a class without loops each branch leads forward.
pub leads_forward : (methods : List Method) (j : ℕ) (m : Method) → has_loops methods ≡ false → slice_get methods j ≡ Some m → (q r : ℕ) (p : Placed) → instruction_at m q ≡ Some p → IsTarget p.instruction (pos r) → q < r
leads_forward methods j m none known q r p e to = go (cases_lt q r)
  where
    go : (q < r) ⊎ (r ≤ q) → q < r
    go (inl l) = l
    go (inr l) =
        let x = placed_at m.code q p e in
        let low : r ≤ p.place = (let k = x.2 in omega (arith, l, k)) in
        absurd (false≢true (sym none ∙ loops_by methods j m known (leads_back_by m.code x.0 p r x.1 to low)))
