-- Each edge leads to the next instruction or to a target.
use Rattle.std.proofs.Common.{◌≡◌, ℕ, zero, suc, Bool, true, false, List, [], ◌∷◌, Option, Some, None, refl, sym, ap, ◌∙◌, subst, ◌⊎◌, inl, inr}
use Rattle.std.specs.Prelude.{slice_get, map, ℤ, pos, negsuc, if◌then◌else◌}
use Rattle.classfile.specs.View.{ClassView}
use Rattle.jtypes.specs.declared.operations.Test.{Test}
use Rattle.decode.specs.declared.instruction.Instruction.{Instruction}
use Rattle.decode.specs.declared.instruction.Instruction.TheVariants as instruction
use Rattle.decode.specs.declared.instruction.Cases.{Cases}
use Rattle.decode.specs.declared.instruction.Placed.{Placed}
use Rattle.decode.specs.Places.{IsTarget, targets_in, falls_through, chosen}
use Rattle.transfer.specs.Forms.{rearranged}
use Rattle.unrolled.specs.Known.{Known, Wide, Narrow, Number, Count, Sized, Arguments, is_wide, forgotten}
use Rattle.unrolled.specs.Graph.{Node, Following, arrive, decided, tested_rest, at, to_target, to_targets, by_answer, by_key, if_matching, edges, successors}
use Rattle.unrolled.proofs.Lists.{first_one, later_one, in_parts, unmapped}
use Rattle.unrolled.proofs.Switches.{chosen_is_target}

abbrev pub Leads : Instruction → ℕ → ℕ → Type 0
Leads i next place = ((falls_through i ≡ true) × (place ≡ next)) ⊎ IsTarget i (pos place)

one_place : (z y : Node) (n : ℕ) → slice_get (z ∷ []) n ≡ Some y → y.place ≡ z.place
one_place z y zero e = let same : z ≡ y = cc e in ap (λ (w : Node). w.place) (sym same)
one_place z y (suc n) e = cc

target_place : (x y : Node) (z : ℤ) (ks : List Known) (n : ℕ) → slice_get (to_target x z ks) n ≡ Some y → z ≡ pos y.place
target_place x y (pos q) ks n e = ap (λ w. pos w) (sym (one_place (at x q ks) y n e))
target_place x y (negsuc q) ks n e = cc

targets_place : (x y : Node) (zs : List ℤ) (ks : List Known) (n : ℕ) → slice_get (to_targets x zs ks) n ≡ Some y → (k : ℕ) × (slice_get zs k ≡ Some (pos y.place))
targets_place x y [] ks n e = cc
targets_place x y (z ∷ zs) ks n e = go (λ k f. targets_place x y zs ks k f) (in_parts (to_target x z ks) (to_targets x zs ks) n y e)
  where
    go : ((k : ℕ) → slice_get (to_targets x zs ks) k ≡ Some y → (i : ℕ) × (slice_get zs i ≡ Some (pos y.place))) → ((k : ℕ) × (slice_get (to_target x z ks) k ≡ Some y)) ⊎ ((k : ℕ) × (slice_get (to_targets x zs ks) k ≡ Some y)) → (i : ℕ) × (slice_get (z ∷ zs) i ≡ Some (pos y.place))
    go later (inl (k, f)) = (0, ap (λ w. Some w) (target_place x y z ks k f))
    go later (inr (k, f)) = let r = later k f in (suc r.0, r.1)

any_target : (x y : Node) (default : ℤ) (cases : Cases) (ks : List Known) (n : ℕ) → slice_get (to_targets x (default ∷ targets_in cases) ks) n ≡ Some y → IsTarget (instruction.Switch default cases) (pos y.place)
any_target x y default cases ks n e = go (targets_place x y (default ∷ targets_in cases) ks n e)
  where
    go : (k : ℕ) × (slice_get (default ∷ targets_in cases) k ≡ Some (pos y.place)) → IsTarget (instruction.Switch default cases) (pos y.place)
    go (zero, f) = inl f
    go (suc k, f) = inr (k, f)

key_target : (x y : Node) (default : ℤ) (cases : Cases) (ks : List Known) (n : ℕ) → slice_get (by_key x default cases ks) n ≡ Some y → IsTarget (instruction.Switch default cases) (pos y.place)
key_target x y default cases [] n e = any_target x y default cases [] n e
key_target x y default cases (Wide ∷ ks) n e = any_target x y default cases ks n e
key_target x y default cases (Narrow ∷ ks) n e = any_target x y default cases ks n e
key_target x y default cases (Count ∷ ks) n e = any_target x y default cases ks n e
key_target x y default cases (Sized z ∷ ks) n e = any_target x y default cases ks n e
key_target x y default cases (Arguments ∷ ks) n e = any_target x y default cases ks n e
key_target x y default cases (Number z ∷ ks) n e = subst (λ (w : ℤ). IsTarget (instruction.Switch default cases) w) (target_place x y (chosen default cases z) ks n e) (chosen_is_target default cases z)

answer_leads : (x y : Node) (next : ℕ) (t : Test) (target : ℤ) (ks : List Known) (o : Option Bool) (n : ℕ) → slice_get (by_answer x next target ks o) n ≡ Some y → Leads (instruction.Branch t target) next y.place
answer_leads x y next t target ks (Some true) n e = inr (inl (ap (λ w. Some w) (target_place x y target ks n e)))
answer_leads x y next t target ks (Some false) n e = inl (refl, one_place (at x next ks) y n e)
answer_leads x y next t target ks None zero e = inl (refl, one_place (at x next ks) y 0 e)
answer_leads x y next t target ks None (suc n) e = inr (inl (ap (λ w. Some w) (target_place x y target ks n e)))

formed_place : (x y : Node) (next : ℕ) (o : Option (List Known)) (n : ℕ) → slice_get (if_matching x next o) n ≡ Some y → y.place ≡ next
formed_place x y next None n e = one_place (at x next x.operands) y n e
formed_place x y next (Some ks) n e = one_place (at x next ks) y n e

edge_leads : (v : ClassView) (f : Following) (x y : Node) (next : ℕ) (i : Instruction) (n : ℕ) → slice_get (edges v f x next i) n ≡ Some y → Leads i next y.place
edge_leads v f x y next instruction.Nop n e = inl (refl, one_place _ y n e)
edge_leads v f x y next (instruction.Push p) n e = inl (refl, one_place _ y n e)
edge_leads v f x y next (instruction.Load k q) n e = inl (refl, one_place _ y n e)
edge_leads v f x y next (instruction.Store k q) n e = inl (refl, one_place _ y n e)
edge_leads v f x y next (instruction.Increment q by) n e = inl (refl, one_place _ y n e)
edge_leads v f x y next (instruction.Operate o) n e = inl (refl, one_place _ y n e)
edge_leads v f x y next (instruction.Rearrange r) n e = inl (refl, formed_place x y next (rearranged is_wide r x.operands) n e)
edge_leads v f x y next (instruction.Branch t target) n e = answer_leads x y next t target (tested_rest t x.operands) (decided t x.operands) n e
edge_leads v f x y next (instruction.Goto target) n e = inr (inl (ap (λ w. Some w) (target_place x y target x.operands n e)))
edge_leads v f x y next (instruction.Switch default cases) n e = inr (key_target x y default cases x.operands n e)
edge_leads v f x y next (instruction.Return k) n e = cc
edge_leads v f x y next instruction.ReturnVoid n e = cc
edge_leads v f x y next (instruction.Throw t text) n e = cc
edge_leads v f x y next (instruction.Invoke k i) n e = inl (refl, one_place _ y n e)
edge_leads v f x y next (instruction.NewArray k) n e = inl (refl, one_place _ y n e)
edge_leads v f x y next (instruction.ArrayLoad k) n e = inl (refl, one_place _ y n e)
edge_leads v f x y next (instruction.ArrayStore k) n e = inl (refl, one_place _ y n e)
edge_leads v f x y next instruction.ReferenceLoad n e = inl (refl, one_place _ y n e)
edge_leads v f x y next instruction.ArrayLength n e = inl (refl, one_place _ y n e)
edge_leads v f x y next (instruction.CheckCast i) n e = inl (refl, one_place _ y n e)
edge_leads v f x y next (instruction.InstanceOf i) n e = inl (refl, one_place _ y n e)

pub arrive_place : (f : Following) (x : Node) → (arrive f x).place ≡ x.place
arrive_place f x = go f.values
  where
    go : (b : Bool) → (if b then x else record { place = x.place; locals = []; operands = map forgotten x.operands }).place ≡ x.place
    go true = refl
    go false = refl

pub way_leads : (v : ClassView) (f : Following) (p : Placed) (x y : Node) (n : ℕ) → slice_get (successors v f p x) n ≡ Some y → Leads p.instruction p.next y.place
way_leads v f p x y n e =
    let r = unmapped (arrive f) (edges v f x p.next p.instruction) n y e in
    subst (Leads p.instruction p.next) (sym (arrive_place f r.0) ∙ ap (λ (w : Node). w.place) r.2) (edge_leads v f x r.0 p.next p.instruction n r.1)

-- ---- the edges that there are

pub targets_found : (x : Node) (zs : List ℤ) (k q : ℕ) (ks : List Known) → slice_get zs k ≡ Some (pos q) → (n : ℕ) × (slice_get (to_targets x zs ks) n ≡ Some (at x q ks))
targets_found x [] k q ks e = cc
targets_found x (z ∷ zs) zero q ks e = let same : z ≡ pos q = cc e in (0, first_one (to_target x z ks) (to_targets x zs ks) 0 (at x q ks) (ap (λ y. slice_get (to_target x y ks) 0) same))
targets_found x (z ∷ zs) (suc k) q ks e = let r = targets_found x zs k q ks e in later_one (to_target x z ks) (to_targets x zs ks) r.0 (at x q ks) r.1

pub formed_edge : (x : Node) (next : ℕ) (o : Option (List Known)) → (y : Node) × (slice_get (if_matching x next o) 0 ≡ Some y) × (y.place ≡ next)
formed_edge x next None = (at x next x.operands, refl, refl)
formed_edge x next (Some ks) = (at x next ks, refl, refl)

pub first_of_formed : (x : Node) (next : ℕ) (o : Option (List Known)) → (y : Node) × (slice_get (if_matching x next o) 0 ≡ Some y)
first_of_formed x next o = let q = formed_edge x next o in (q.0, q.1)
