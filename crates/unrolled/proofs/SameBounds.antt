-- Where no values are followed, paths over nodes are the paths over pcs.
use Rattle.std.proofs.Common.{◌≡◌, ℕ, suc, true, false, List, [], ◌∷◌, Some, None, refl, sym, ap, ◌∙◌, subst, inl, inr}
use Rattle.std.specs.Prelude.{slice_get, map, drop, ℤ, pos, if◌then◌else◌}
use Rattle.classfile.specs.View.{ClassView}
use Rattle.jtypes.specs.declared.operations.Test.{Test}
use Rattle.jtypes.specs.declared.operations.Test.TheVariants.{WithZero, OfInts, IsNull, IsNonNull}
use Rattle.decode.specs.declared.instruction.Instruction.{Instruction}
use Rattle.decode.specs.declared.instruction.Instruction.TheVariants as instruction
use Rattle.decode.specs.declared.instruction.Cases.{Cases}
use Rattle.decode.specs.declared.instruction.Placed.{Placed}
use Rattle.decode.specs.Places.{IsTarget, targets_in, falls_through}
use Rattle.transfer.specs.Forms.{rearranged}
use Rattle.typecheck.specs.Typing.{Method, Class, call_of}
use Rattle.bounds.specs.Paths.{Cost, Bounds, IsWithin, StandsAt, last_cost, after_one, after_call, words_at}
use Rattle.bounds.specs.Paths as places
use Rattle.unrolled.specs.Known.{Known, Wide, Narrow, Number, Count, Sized, Arguments, is_wide, forgotten}
use Rattle.unrolled.specs.Graph.{Node, Following, arrive, decided, tested_rest, at, to_target, by_answer, by_key, edges, successors, entered, arguments_by}
use Rattle.unrolled.specs.Paths as nodes
use Rattle.unrolled.specs.Rules.{Rules, rules_of}
use Rattle.unrolled.specs.Paths.{callee_node, start_node}
use Rattle.unrolled.specs.SameBounds.{BoundsAreSame, BoundsAreKept}
use Rattle.unrolled.proofs.Lists.{map_one}
use Rattle.unrolled.proofs.Edges.{Leads, arrive_place, way_leads, targets_found, formed_edge}

-- ---- instructions with targets, and calls

no_words : (m : Method) (place : ℕ) (i : Instruction) (z : ℤ) → IsTarget i z → words_at m place i ≡ 0
no_words m place (instruction.NewArray k) z (inl e) = cc
no_words m place (instruction.NewArray k) z (inr (n, e)) = cc
no_words m place _ z e = refl

call_target : (v : ClassView) (i : Instruction) (k : ℕ) (z : ℤ) → call_of v i ≡ Some k → IsTarget i z → ⊥
call_target v (instruction.Invoke a b) k z e (inl f) = cc
call_target v (instruction.Invoke a b) k z e (inr (n, f)) = cc
call_target v _ k z e f = cc

target_calls : (v : ClassView) (i : Instruction) (z : ℤ) → IsTarget i z → call_of v i ≡ None
target_calls v (instruction.Invoke a b) z (inl e) = cc
target_calls v (instruction.Invoke a b) z (inr (n, e)) = cc
target_calls v _ z e = refl

-- ---- paths over nodes are paths over pcs, whatever is followed

module _ (c : Class) (rules : Rules) where
  start_place : (k : ℕ) (n : Method) (ks : List Known) → (entered (rules k) n ks).place ≡ 0
  start_place k n ks = arrive_place (rules k) _

  goes_on_places : (j : ℕ) (x y : Node) (k : Cost) (m : Method) (p : Placed) → StandsAt c j x.place m p → call_of c.view p.instruction ≡ None → places.Path c j y.place k → Leads p.instruction p.next y.place → places.Path c j x.place (after_one (words_at m x.place p.instruction) k)
  goes_on_places j x y k m p s e later (inl (f, at_next)) = places.falls m p s f e (subst (λ q. places.Path c j q k) at_next later)
  goes_on_places j x y k m p s e later (inr t) = subst (λ n. places.Path c j x.place (after_one n k)) (sym (no_words m x.place p.instruction (pos y.place) t)) (places.jumps m p y.place s t later)

  calls_places : (j callee : ℕ) (x y z : Node) (d k : Cost) (m : Method) (p : Placed) → StandsAt c j x.place m p → call_of c.view p.instruction ≡ Some callee → z.place ≡ 0 → places.Path c callee z.place d → places.Path c j y.place k → Leads p.instruction p.next y.place → places.Path c j x.place (after_call m d k)
  calls_places j callee x y z d k m p s e at_start inner later (inl (f, at_next)) = places.calls m p callee s e (subst (λ q. places.Path c callee q d) at_start inner) (subst (λ q. places.Path c j q k) at_next later)
  calls_places j callee x y z d k m p s e at_start inner later (inr t) = absurd (call_target c.view p.instruction callee (pos y.place) e t)

  pub to_places : {j : ℕ} {x : Node} {k : Cost} → nodes.Path c rules j x k → places.Path c j x.place k
  to_places (nodes.ends m p s e) = places.ends m p s e
  to_places {j} {x} (nodes.leads {k = k} m p i y s e w path) = goes_on_places j x y k m p s e (to_places path) (way_leads c.view (rules j) p x y i w)
  to_places {j} {x} (nodes.calls {e = d} {k = k} m p callee n i y s e known w inner path) = calls_places j callee x y (callee_node c rules callee n p x) d k m p s e (start_place callee n (arguments_by c.view p.instruction x.operands)) (to_places inner) (to_places path) (way_leads c.view (rules j) p x y i w)

-- ---- and the other way round where no values are followed

abbrev IsPlain : List Known → Type 0
IsPlain [] = Unit {0}
IsPlain (k ∷ ks) = (forgotten k ≡ k) × IsPlain ks

plain_map : (ks : List Known) → IsPlain (map forgotten ks)
plain_map [] = tt
plain_map (Wide ∷ ks) = (refl, plain_map ks)
plain_map (Narrow ∷ ks) = (refl, plain_map ks)
plain_map (Number y ∷ ks) = (refl, plain_map ks)
plain_map (Count ∷ ks) = (refl, plain_map ks)
plain_map (Sized y ∷ ks) = (refl, plain_map ks)
plain_map (Arguments ∷ ks) = (refl, plain_map ks)

arrive_plain : (f : Following) (x : Node) → f.values ≡ false → IsPlain (arrive f x).operands
arrive_plain f x e = subst (λ b. IsPlain (if b then x else record { place = x.place; locals = []; operands = map forgotten x.operands }).operands) (sym e) (plain_map x.operands)

undecided : (t : Test) (ks : List Known) → IsPlain ks → decided t ks ≡ None
undecided (WithZero c) [] h = refl
undecided (OfInts c) [] h = refl
undecided (OfInts c) (l ∷ []) h = refl
undecided IsNull [] h = refl
undecided IsNonNull [] h = refl
undecided (WithZero c) (Wide ∷ ks) h = refl
undecided (OfInts c) (l ∷ Wide ∷ ks) h = refl
undecided IsNull (Wide ∷ ks) h = refl
undecided IsNonNull (Wide ∷ ks) h = refl
undecided (WithZero c) (Narrow ∷ ks) h = refl
undecided (OfInts c) (l ∷ Narrow ∷ ks) h = refl
undecided IsNull (Narrow ∷ ks) h = refl
undecided IsNonNull (Narrow ∷ ks) h = refl
undecided (WithZero c) ((Number y) ∷ ks) h = let bad : Narrow ≡ (Number y) = h.0 in cc
undecided (OfInts c) (l ∷ (Number y) ∷ ks) h = let bad : Narrow ≡ (Number y) = h.1.0 in cc
undecided IsNull ((Number y) ∷ ks) h = refl
undecided IsNonNull ((Number y) ∷ ks) h = refl
undecided (WithZero c) (Count ∷ ks) h = let bad : Narrow ≡ Count = h.0 in cc
undecided (OfInts c) (l ∷ Count ∷ ks) h = let bad : Narrow ≡ Count = h.1.0 in cc
undecided IsNull (Count ∷ ks) h = refl
undecided IsNonNull (Count ∷ ks) h = refl
undecided (WithZero c) ((Sized y) ∷ ks) h = let bad : Narrow ≡ (Sized y) = h.0 in cc
undecided (OfInts c) (l ∷ (Sized y) ∷ ks) h = let bad : Narrow ≡ (Sized y) = h.1.0 in cc
undecided IsNull ((Sized y) ∷ ks) h = let bad : Narrow ≡ (Sized y) = h.0 in cc
undecided IsNonNull ((Sized y) ∷ ks) h = let bad : Narrow ≡ (Sized y) = h.0 in cc
undecided (WithZero c) (Arguments ∷ ks) h = let bad : Narrow ≡ Arguments = h.0 in cc
undecided (OfInts c) (l ∷ Arguments ∷ ks) h = let bad : Narrow ≡ Arguments = h.1.0 in cc
undecided IsNull (Arguments ∷ ks) h = let bad : Narrow ≡ Arguments = h.0 in cc
undecided IsNonNull (Arguments ∷ ks) h = let bad : Narrow ≡ Arguments = h.0 in cc

record Goes (v : ClassView) (f : Following) (x : Node) (next : ℕ) (i : Instruction) (place : ℕ) : Type 0 where
  number : ℕ
  to : Node
  is : slice_get (edges v f x next i) number ≡ Some to
  there : to.place ≡ place

first_edge : (v : ClassView) (f : Following) (x : Node) (next : ℕ) (i : Instruction) (y : Node) → slice_get (edges v f x next i) 0 ≡ Some y → y.place ≡ next → Goes v f x next i next
first_edge v f x next i y e h = record { number = 0; to = y; is = e; there = h }

fall_edge : (v : ClassView) (f : Following) (x : Node) (next : ℕ) (i : Instruction) → IsPlain x.operands → falls_through i ≡ true → Goes v f x next i next
fall_edge v f x next instruction.Nop h e = first_edge v f x next _ _ refl refl
fall_edge v f x next (instruction.Push p) h e = first_edge v f x next _ _ refl refl
fall_edge v f x next (instruction.Load k q) h e = first_edge v f x next _ _ refl refl
fall_edge v f x next (instruction.Store k q) h e = first_edge v f x next _ _ refl refl
fall_edge v f x next (instruction.Increment q by) h e = first_edge v f x next _ _ refl refl
fall_edge v f x next (instruction.Operate o) h e = first_edge v f x next _ _ refl refl
fall_edge v f x next (instruction.Rearrange r) h e = let q = formed_edge x next (rearranged is_wide r x.operands) in first_edge v f x next (instruction.Rearrange r) q.0 q.1 q.2
fall_edge v f x next (instruction.Branch t target) h e = first_edge v f x next (instruction.Branch t target) (at x next (tested_rest t x.operands)) (ap (λ o. slice_get (by_answer x next target (tested_rest t x.operands) o) 0) (undecided t x.operands h)) refl
fall_edge v f x next (instruction.Goto target) h e = cc
fall_edge v f x next (instruction.Switch default cases) h e = cc
fall_edge v f x next (instruction.Return k) h e = cc
fall_edge v f x next instruction.ReturnVoid h e = cc
fall_edge v f x next (instruction.Throw t text) h e = cc
fall_edge v f x next (instruction.Invoke k i) h e = first_edge v f x next _ _ refl refl
fall_edge v f x next (instruction.NewArray k) h e = first_edge v f x next _ _ refl refl
fall_edge v f x next (instruction.ArrayLoad k) h e = first_edge v f x next _ _ refl refl
fall_edge v f x next (instruction.ArrayStore k) h e = first_edge v f x next _ _ refl refl
fall_edge v f x next instruction.ReferenceLoad h e = first_edge v f x next _ _ refl refl
fall_edge v f x next instruction.ArrayLength h e = first_edge v f x next _ _ refl refl
fall_edge v f x next (instruction.CheckCast i) h e = first_edge v f x next _ _ refl refl
fall_edge v f x next (instruction.InstanceOf i) h e = first_edge v f x next _ _ refl refl

key_edge : (x : Node) (default : ℤ) (cases : Cases) (ks : List Known) (k q : ℕ) → IsPlain ks → slice_get (default ∷ targets_in cases) k ≡ Some (pos q) → (n : ℕ) × (slice_get (by_key x default cases ks) n ≡ Some (at x q (drop 1 ks)))
key_edge x default cases [] k q h e = targets_found x (default ∷ targets_in cases) k q [] e
key_edge x default cases (Wide ∷ ks) k q h e = targets_found x (default ∷ targets_in cases) k q ks e
key_edge x default cases (Narrow ∷ ks) k q h e = targets_found x (default ∷ targets_in cases) k q ks e
key_edge x default cases (Count ∷ ks) k q h e = targets_found x (default ∷ targets_in cases) k q ks e
key_edge x default cases (Sized y ∷ ks) k q h e = targets_found x (default ∷ targets_in cases) k q ks e
key_edge x default cases (Arguments ∷ ks) k q h e = targets_found x (default ∷ targets_in cases) k q ks e
key_edge x default cases (Number y ∷ ks) k q h e = let bad : Narrow ≡ Number y = h.0 in cc

switch_edge : (v : ClassView) (f : Following) (x : Node) (next : ℕ) (default : ℤ) (cases : Cases) (q : ℕ) → IsPlain x.operands → (k : ℕ) → slice_get (default ∷ targets_in cases) k ≡ Some (pos q) → Goes v f x next (instruction.Switch default cases) q
switch_edge v f x next default cases q h k e = let r = key_edge x default cases x.operands k q h e in record { number = r.0; to = at x q (drop 1 x.operands); is = r.1; there = refl }

target_edge : (v : ClassView) (f : Following) (x : Node) (next : ℕ) (i : Instruction) (q : ℕ) → IsPlain x.operands → IsTarget i (pos q) → Goes v f x next i q
target_edge v f x next (instruction.Branch t target) q h (inl e) =
    let same : target ≡ pos q = cc e in
    record { number = 1; to = at x q (tested_rest t x.operands); is = ap (λ o. slice_get (by_answer x next target (tested_rest t x.operands) o) 1) (undecided t x.operands h) ∙ ap (λ z. slice_get (to_target x z (tested_rest t x.operands)) 0) same; there = refl }
target_edge v f x next (instruction.Branch t target) q h (inr (n, e)) = cc
target_edge v f x next (instruction.Goto target) q h (inl e) = let same : target ≡ pos q = cc e in record { number = 0; to = at x q x.operands; is = ap (λ z. slice_get (to_target x z x.operands) 0) same; there = refl }
target_edge v f x next (instruction.Goto target) q h (inr (n, e)) = cc
target_edge v f x next (instruction.Switch default cases) q h (inl e) = switch_edge v f x next default cases q h 0 e
target_edge v f x next (instruction.Switch default cases) q h (inr (n, e)) = switch_edge v f x next default cases q h (suc n) e
target_edge v f x next _ q h (inl e) = cc
target_edge v f x next _ q h (inr (n, e)) = cc

call_falls : (v : ClassView) (i : Instruction) (k : ℕ) → call_of v i ≡ Some k → falls_through i ≡ true
call_falls v (instruction.Invoke a b) k e = refl
call_falls v _ k e = cc

module _ (c : Class) (rules : Rules) (plain : (k : ℕ) → (rules k).values ≡ false) where
  record WayTo (j : ℕ) (x : Node) (p : Placed) (place : ℕ) : Type 0 where
    number : ℕ
    to : Node
    is : slice_get (successors c.view (rules j) p x) number ≡ Some to
    there : to.place ≡ place
    bare : IsPlain to.operands

  way_to : (j : ℕ) (x : Node) (p : Placed) (place : ℕ) → Goes c.view (rules j) x p.next p.instruction place → WayTo j x p place
  way_to j x p place g = record {
    number = g.number;
    to = arrive (rules j) g.to;
    is = map_one (arrive (rules j)) (edges c.view (rules j) x p.next p.instruction) g.number g.to g.is;
    there = arrive_place (rules j) g.to ∙ g.there;
    bare = arrive_plain (rules j) g.to (plain j);
  }

  method_of : {j q : ℕ} {k : Cost} → places.Path c j q k → (n : Method) × (slice_get c.methods j ≡ Some n)
  method_of (places.ends m p s e) = (m, s.method)
  method_of (places.jumps m p r s t path) = (m, s.method)
  method_of (places.falls m p s e f path) = (m, s.method)
  method_of (places.calls m p callee s e inner path) = (m, s.method)

  from_places : {j q : ℕ} {k : Cost} → places.Path c j q k → (x : Node) → x.place ≡ q → IsPlain x.operands → nodes.Path c rules j x k
  from_places {j} {q} (places.ends m p s e) x at h = nodes.ends m p (subst (λ z. StandsAt c j z m p) (sym at) s) e
  from_places {j} {q} (places.jumps {k = k} m p r s t path) x at h =
      let w = way_to j x p r (target_edge c.view (rules j) x p.next p.instruction r h t) in
      subst (λ n. nodes.Path c rules j x (after_one n k)) (no_words m x.place p.instruction (pos r) t) (nodes.leads m p w.number w.to (subst (λ z. StandsAt c j z m p) (sym at) s) (target_calls c.view p.instruction (pos r) t) w.is (from_places path w.to w.there w.bare))
  from_places {j} {q} (places.falls {k = k} m p s e f path) x at h =
      let w = way_to j x p p.next (fall_edge c.view (rules j) x p.next p.instruction h e) in
      subst (λ z. nodes.Path c rules j x (after_one (words_at m z p.instruction) k)) at (nodes.leads m p w.number w.to (subst (λ z. StandsAt c j z m p) (sym at) s) f w.is (from_places path w.to w.there w.bare))
  from_places {j} {q} (places.calls m p callee s e inner path) x at h =
      let w = way_to j x p p.next (fall_edge c.view (rules j) x p.next p.instruction h (call_falls c.view p.instruction callee e)) in
      let n = method_of inner in
      nodes.calls m p callee n.0 w.number w.to (subst (λ z. StandsAt c j z m p) (sym at) s) e n.1 w.is (from_places inner (callee_node c rules callee n.0 p x) (start_place c rules callee n.0 (arguments_by c.view p.instruction x.operands)) (arrive_plain (rules callee) _ (plain callee))) (from_places path w.to w.there w.bare)

pub bounds_are_same : BoundsAreSame
bounds_are_same c rules j m b plain known = (there, back)
  where
    start : Node
    start = start_node rules j m

    at_start : start.place ≡ 0
    at_start = arrive_place (rules j) _

    bare : IsPlain start.operands
    bare = arrive_plain (rules j) _ (plain j)

    on : {k : Cost} → nodes.Path c rules j start k → places.Path c j 0 k
    on {k} path = subst (λ q. places.Path c j q k) at_start (to_places c rules path)

    off : {k : Cost} → places.Path c j 0 k → nodes.Path c rules j start k
    off path = from_places c rules plain path start at_start bare

    there : nodes.AreBounds c rules j start b → places.AreBounds c j b
    there h = record {
      none_exceeds = λ k path. h.none_exceeds k (off path);
      steps = (h.steps.0, on h.steps.1, h.steps.2);
      words = (h.words.0, on h.words.1, h.words.2);
      slots = (h.slots.0, on h.slots.1, h.slots.2);
      depth = (h.depth.0, on h.depth.1, h.depth.2);
    }

    back : places.AreBounds c j b → nodes.AreBounds c rules j start b
    back h = record {
      none_exceeds = λ k path. h.none_exceeds k (on path);
      steps = (h.steps.0, off h.steps.1, h.steps.2);
      words = (h.words.0, off h.words.1, h.words.2);
      slots = (h.slots.0, off h.slots.1, h.slots.2);
      depth = (h.depth.0, off h.depth.1, h.depth.2);
    }

pub bounds_are_kept : BoundsAreKept
bounds_are_kept c j m b forward known = bounds_are_same c (rules_of c) j m b (λ k. forward) known
