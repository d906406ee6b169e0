-- Each pc has a path, and a path costs at least its own activation.
use Rattle.std.proofs.Common.{◌≡◌, ℕ, zero, suc, ◌+◌, ◌<◌, ◌≤◌, max, Bool, true, false, List, [], ◌∷◌, Option, Some, None, refl, ap, subst, arith, ◌⊎◌, inl, inr}
use Rattle.std.specs.Prelude.{slice_get, ℤ, pos, ◌==◌, cond}
use Rattle.std.proofs.lemmas.Bool.{eqb-true}
use Rattle.jtypes.specs.declared.types.JType.{JType}
use Rattle.jtypes.specs.Values.{Arrays}
use Rattle.classfile.specs.View.{MethodView}
use Rattle.decode.specs.declared.instruction.Instruction.{Instruction}
use Rattle.decode.specs.declared.instruction.Instruction.TheVariants as instruction
use Rattle.decode.specs.declared.instruction.Placed.{Placed}
use Rattle.decode.specs.Places.{at_place, IsTarget, falls_through, is_return}
use Rattle.frames.specs.declared.members.Callee.{Callee}
use Rattle.frames.specs.declared.members.Reached.{Reached}
use Rattle.frames.specs.declared.members.Reached.TheVariants.{Library, Own}
use Rattle.frames.specs.Members.{callee_at}
use Rattle.frames.specs.Frames.{first_frame}
use Rattle.typecheck.specs.Typing.{Method, Class, instruction_at, own_number, own_of, call_of}
use Rattle.bounds.specs.Paths.{Cost, Path, StandsAt, own_slots, last_cost, after_one, after_call, ends, jumps, falls, calls}
use Rattle.verdict.specs.Checked.{IsMember}
use Rattle.soundness.specs.Room.{IsCheckedButForRoom}
use Rattle.verdict.specs.Machine.{Activation}
use Rattle.verdict.specs.Sound.{slots_of_method}
use Rattle.soundness.proofs.Callees.{CalleeFits, callee_fits}
use Rattle.soundness.proofs.GoodStates.{IsInside, has_frame, onward, enters_inside, enters_target, AllAwait, RestOf}

-- A pc after all instructions.
abbrev top_of : List Placed → ℕ
top_of [] = 0
top_of (x ∷ code) = max (suc x.place) (top_of code)

below_top : (code : List Placed) (q : ℕ) (p : Placed) → at_place code q ≡ Some p → q < top_of code
below_top [] q p e = cc
below_top (x ∷ code) q p e = go (below_top code q p) (x.place == q) refl e
  where
    go : (at_place code q ≡ Some p → q < top_of code) → (b : Bool) → (x.place == q) ≡ b → cond b (Some x) (at_place code q) ≡ Some p → q < max (suc x.place) (top_of code)
    go later true is f = let here : x.place ≡ q = eqb-true x.place q is in omega (arith, here)
    go later false is f = let r = later f in omega (arith, r)

ends_or_jumps : (i : Instruction) → falls_through i ≡ false → (is_return i ≡ true) ⊎ ((target : ℤ) × IsTarget i target)
ends_or_jumps (instruction.Goto target) h = inr (target, inl refl)
ends_or_jumps (instruction.Switch default cases) h = inr (default, inl refl)
ends_or_jumps (instruction.Return k) h = inl refl
ends_or_jumps instruction.ReturnVoid h = inl refl
ends_or_jumps (instruction.Throw x text) h = inl refl
ends_or_jumps _ h = cc

-- An own call has a callee in the class.
pub own_call : (c : Class) → IsCheckedButForRoom c → (i : Instruction) (k : ℕ) → call_of c.view i ≡ Some k → (w : MethodView) × (m : Method) × IsMember c k w m
own_call c ok (instruction.Invoke kind i) k e = go (callee_at c.view kind i) refl e
  where
    known : (callee : Callee) (r : Reached) → CalleeFits c callee r → own_number r ≡ Some k → (w : MethodView) × (m : Method) × IsMember c k w m
    known callee (Library n) f h = cc
    known callee (Own j) f h = let same : j ≡ k = cc in (f.view, f.method, subst (λ x. IsMember c x f.view f.method) same f.member)

    go : (o : Option Callee) → callee_at c.view kind i ≡ o → own_of o ≡ Some k → (w : MethodView) × (m : Method) × IsMember c k w m
    go None h f = cc
    go (Some callee) h f = known callee callee.reached (callee_fits c ok kind i callee h) f
own_call c ok _ k e = cc

abbrev HasPath : Class → ℕ → ℕ → Type 0
HasPath c j q = (k : Cost) × Path c j q k

-- An instruction has a path if its successors have paths.
path_at : (c : Class) (j q : ℕ) (m : Method) (p : Placed) → StandsAt c j q m p → (falls_through p.instruction ≡ true → HasPath c j p.next) → ((target : ℤ) → IsTarget p.instruction target → (r : ℕ) × (target ≡ pos r) × HasPath c j r) → ((k : ℕ) → call_of c.view p.instruction ≡ Some k → HasPath c k 0) → HasPath c j q
path_at c j q m p stands next target call = go (falls_through p.instruction) refl
  where
    through : falls_through p.instruction ≡ true → (o : Option ℕ) → call_of c.view p.instruction ≡ o → HasPath c j q
    through e None h = let r = next e in (after_one _ r.0, falls m p stands e h r.1)
    through e (Some k) h =
        let r = next e in
        let f = call k h in
        (after_call m f.0 r.0, calls m p k stands h f.1 r.1)

    stop : (is_return p.instruction ≡ true) ⊎ ((t : ℤ) × IsTarget p.instruction t) → HasPath c j q
    stop (inl e) = (last_cost m, ends m p stands e)
    stop (inr t) = let r = target t.0 t.1 in (after_one 0 r.2.0, jumps m p r.0 stands (subst (λ (z : ℤ). IsTarget p.instruction z) r.1 t.1) r.2.1)

    go : (b : Bool) → falls_through p.instruction ≡ b → HasPath c j q
    go true e = through e (call_of c.view p.instruction) refl
    go false e = stop (ends_or_jumps p.instruction e)

module _ (c : Class) (ok : IsCheckedButForRoom c) where
  -- Each pc of a method has a path if the callees have paths.
  paths_in : (j : ℕ) (w : MethodView) (m : Method) → IsMember c j w m → ((q k : ℕ) (p : Placed) → instruction_at m q ≡ Some p → call_of c.view p.instruction ≡ Some k → HasPath c k 0) → (left q : ℕ) → top_of m.code ≤ q + left → IsInside m q → HasPath c j q
  paths_in j w m member callees zero q long inside = let low = below_top m.code q inside.0 inside.1 in absurd (omega (arith, low))
  paths_in j w m member callees (suc left) q long inside =
      let typed = ok.typed j w m member in
      let frames = typed.0 in
      let typing = typed.1 in
      let formed = ok.formed j w m member in
      let p = inside.0 in
      let f = has_frame m.code frames q p typing.each_has_one inside.1 in
      let o = typing.outcome q p f.0 inside.1 f.1 in
      path_at c j q m p (record { method = member.method; instruction = inside.1 })
      (λ e. let far = (onward m.code 0 q p formed.consecutive inside.1).1 in paths_in j w m member callees left p.next (omega (arith, far)) (enters_inside c m frames p.next o.0 typing (o.2.falls e)))
      (λ t e. let d = o.2.branches t e in let to : IsTarget p.instruction (pos d.0) = subst (λ (z : ℤ). IsTarget p.instruction z) d.2 e in let later : q < d.0 = formed.forward q d.0 p inside.1 to in (d.0, d.2, paths_in j w m member callees left d.0 (omega (arith, later)) (enters_inside c m frames d.0 o.0 typing (enters_target m frames d.0 o.0 d.1 d.3 d.4))))
      (λ k e. callees q k p inside.1 e)

  -- A method has an instruction at pc 0.
  pub starts_inside : (j : ℕ) (w : MethodView) (m : Method) → IsMember c j w m → IsInside m 0
  starts_inside j w m member = let typed = ok.typed j w m member in enters_inside c m typed.0 0 (first_frame m.environment) typed.1 typed.1.first

  paths_below : (limit j : ℕ) (w : MethodView) (m : Method) → IsMember c j w m → ok.ordered.0 j < limit → (q : ℕ) → IsInside m q → HasPath c j q
  paths_below zero j w m member low q inside = absurd (omega arith)
  paths_below (suc limit) j w m member low q inside =
      paths_in j w m member (λ r k p code e. let lower : ok.ordered.0 k < ok.ordered.0 j = ok.ordered.1 j k (m, r, p, member.method, code, e) in let to = own_call c ok p.instruction k e in paths_below limit k to.0 to.1 to.2 (omega (arith, lower)) 0 (starts_inside k to.0 to.1 to.2)) (top_of m.code) q (omega arith) inside

  pub has_path : (j : ℕ) (w : MethodView) (m : Method) (q : ℕ) → IsMember c j w m → IsInside m q → HasPath c j q
  has_path j w m q member inside = paths_below (suc (ok.ordered.0 j)) j w m member (omega arith) q inside

  pub has_rest : (arrays : Arrays) (result : Option JType) (below : List Activation) → AllAwait c arrays result below → RestOf c below
  has_rest arrays result [] h = tt
  has_rest arrays result (a ∷ below) h =
      let w = h.0 in
      let p = has_path a.method w.view w.m a.place w.member w.inside in
      (p.0, p.1, has_rest arrays w.m.environment.signature.result below h.1)

-- ---- the minimum cost of a path

pub path_steps : {c : Class} {j q : ℕ} {k : Cost} → Path c j q k → 1 ≤ k.steps
path_steps (ends m p s e) = omega arith
path_steps (jumps m p r s e x) = omega arith
path_steps (falls m p s e f x) = omega arith
path_steps (calls m p callee s e x y) = omega arith

pub path_depth : {c : Class} {j q : ℕ} {k : Cost} → Path c j q k → 1 ≤ k.depth
path_depth (ends m p s e) = omega arith
path_depth (jumps m p r s e x) = path_depth x
path_depth (falls m p s e f x) = path_depth x
path_depth (calls m p callee s e x y) = let d = path_depth y in omega (arith, d)

pub path_slots : {c : Class} {j q : ℕ} {k : Cost} → Path c j q k → slots_of_method (slice_get c.methods j) ≤ k.slots
path_slots {c} {j} (ends m p s e) = let h : slots_of_method (slice_get c.methods j) ≡ own_slots m = ap slots_of_method s.method in omega (arith, h)
path_slots (jumps m p r s e x) = path_slots x
path_slots (falls m p s e f x) = path_slots x
path_slots (calls m p callee s e x y) = let d = path_slots y in omega (arith, d)
