-- Where branches lead forward, a class is covered.
use Rattle.std.proofs.Common.{◌≡◌, ℕ, zero, suc, ◌+◌, ◌-◌, ◌<◌, ◌≤◌, max, Bool, true, false, ◌&&◌, List, [], ◌∷◌, Option, Some, None, refl, ap, ◌∙◌, arith, ◌⊎◌, inl, inr}
use Rattle.std.specs.Prelude.{slice_get, ℤ, pos, IsSome, is_some, ◌==◌, cond}
use Rattle.std.proofs.lemmas.Bool.{and_parts, and_from, eqb-true}
use Rattle.classfile.specs.View.{ClassView}
use Rattle.decode.specs.declared.instruction.Instruction.{Instruction}
use Rattle.decode.specs.declared.instruction.Instruction.TheVariants as instruction
use Rattle.decode.specs.declared.instruction.Cases.{Cases}
use Rattle.decode.specs.declared.instruction.Placed.{Placed}
use Rattle.decode.specs.Places.{at_place, IsTarget, targets_in, falls_through, is_return, chosen}
use Rattle.transfer.specs.Forms.{rearranged}
use Rattle.typecheck.specs.Typing.{Method, Class, instruction_at, call_of}
use Rattle.bounds.specs.Paths.{StandsAt}
use Rattle.bounds.specs.Table.{LeadsOn}
use Rattle.unrolled.specs.Known.{Known, Wide, Narrow, Number, Count, Sized, Arguments, is_wide}
use Rattle.unrolled.specs.Graph.{Node, Following, arrive, decided, tested_rest, at, to_target, to_targets, by_answer, by_key, edges}
use Rattle.unrolled.specs.Rules.{Rules}
use Rattle.unrolled.specs.Paths.{callee_node, start_node}
use Rattle.unrolled.specs.Forward.{HasCover, ForwardIsCovered}
use Rattle.unrolled.proofs.Lists.{map_one}
use Rattle.unrolled.proofs.Edges.{arrive_place, way_leads, first_of_formed}
use Rattle.unrolled.proofs.Switches.{chosen_is_target}

-- ---- an instruction that is no return has an edge

abbrev HasEdge : List Node → Type 0
HasEdge ys = (y : Node) × (slice_get ys 0 ≡ Some y)

target_edge : (x : Node) (z : ℤ) (ks : List Known) → ((r : ℕ) × (z ≡ pos r)) → HasEdge (to_target x z ks)
target_edge x z ks (r, e) = (at x r ks, ap (λ y. slice_get (to_target x y ks) 0) e)

targets_edge : (x : Node) (z : ℤ) (zs : List ℤ) (ks : List Known) → ((r : ℕ) × (z ≡ pos r)) → HasEdge (to_targets x (z ∷ zs) ks)
targets_edge x z zs ks (r, e) = (at x r ks, ap (λ y. slice_get (to_targets x (y ∷ zs) ks) 0) e)

answer_edge : (x : Node) (next : ℕ) (target : ℤ) (ks : List Known) (o : Option Bool) → ((r : ℕ) × (target ≡ pos r)) → HasEdge (by_answer x next target ks o)
answer_edge x next target ks (Some true) h = target_edge x target ks h
answer_edge x next target ks (Some false) h = (at x next ks, refl)
answer_edge x next target ks None h = (at x next ks, refl)

abbrev AllPos : Instruction → Type 0
AllPos i = (z : ℤ) → IsTarget i z → (r : ℕ) × (z ≡ pos r)

key_edge : (x : Node) (default : ℤ) (cases : Cases) (ks : List Known) → AllPos (instruction.Switch default cases) → HasEdge (by_key x default cases ks)
key_edge x default cases [] h = targets_edge x default (targets_in cases) [] (h default (inl refl))
key_edge x default cases (Wide ∷ ks) h = targets_edge x default (targets_in cases) ks (h default (inl refl))
key_edge x default cases (Narrow ∷ ks) h = targets_edge x default (targets_in cases) ks (h default (inl refl))
key_edge x default cases (Count ∷ ks) h = targets_edge x default (targets_in cases) ks (h default (inl refl))
key_edge x default cases (Sized y ∷ ks) h = targets_edge x default (targets_in cases) ks (h default (inl refl))
key_edge x default cases (Arguments ∷ ks) h = targets_edge x default (targets_in cases) ks (h default (inl refl))
key_edge x default cases (Number y ∷ ks) h = target_edge x (chosen default cases y) ks (h (chosen default cases y) (chosen_is_target default cases y))

some_edge : (v : ClassView) (f : Following) (x : Node) (next : ℕ) (i : Instruction) → AllPos i → is_return i ≡ false → HasEdge (edges v f x next i)
some_edge v f x next instruction.Nop h e = (_, refl)
some_edge v f x next (instruction.Push p) h e = (_, refl)
some_edge v f x next (instruction.Load k q) h e = (_, refl)
some_edge v f x next (instruction.Store k q) h e = (_, refl)
some_edge v f x next (instruction.Increment q by) h e = (_, refl)
some_edge v f x next (instruction.Operate o) h e = (_, refl)
some_edge v f x next (instruction.Rearrange r) h e = first_of_formed x next (rearranged is_wide r x.operands)
some_edge v f x next (instruction.Branch t target) h e = answer_edge x next target (tested_rest t x.operands) (decided t x.operands) (h target (inl refl))
some_edge v f x next (instruction.Goto target) h e = target_edge x target x.operands (h target (inl refl))
some_edge v f x next (instruction.Switch default cases) h e = key_edge x default cases x.operands h
some_edge v f x next (instruction.Return k) h e = cc
some_edge v f x next instruction.ReturnVoid h e = cc
some_edge v f x next (instruction.Throw t text) h e = cc
some_edge v f x next (instruction.Invoke k i) h e = (_, refl)
some_edge v f x next (instruction.NewArray k) h e = (_, refl)
some_edge v f x next (instruction.ArrayLoad k) h e = (_, refl)
some_edge v f x next (instruction.ArrayStore k) h e = (_, refl)
some_edge v f x next instruction.ReferenceLoad h e = (_, refl)
some_edge v f x next instruction.ArrayLength h e = (_, refl)
some_edge v f x next (instruction.CheckCast i) h e = (_, refl)
some_edge v f x next (instruction.InstanceOf i) h e = (_, refl)

-- ---- a number above all pcs

abbrev top_of : List Placed → ℕ
top_of [] = 0
top_of (x ∷ code) = max (suc x.place) (top_of code)

below_top : (code : List Placed) (q : ℕ) (p : Placed) → at_place code q ≡ Some p → q < top_of code
below_top [] q p e = cc
below_top (x ∷ code) q p e = go (below_top code q p) (x.place == q) refl e
  where
    go : (at_place code q ≡ Some p → q < top_of code) → (b : Bool) → (x.place == q) ≡ b → cond b (Some x) (at_place code q) ≡ Some p → q < max (suc x.place) (top_of code)
    go later true is f = let same : x.place ≡ q = eqb-true x.place q is in omega (arith, same)
    go later false is f = let r = later f in omega (arith, r)

abbrev tops : List Method → ℕ
tops [] = 0
tops (m ∷ methods) = max (top_of m.code) (tops methods)

below_tops : (methods : List Method) (j : ℕ) (m : Method) → slice_get methods j ≡ Some m → top_of m.code ≤ tops methods
below_tops [] j m e = cc
below_tops (n ∷ methods) zero m e = let same : n ≡ m = cc e in let it : top_of n.code ≡ top_of m.code = ap (λ (x : Method). top_of x.code) same in omega (arith, it)
below_tops (n ∷ methods) (suc j) m e = let l = below_tops methods j m e in omega (arith, l)

abbrev times : ℕ → ℕ → ℕ
times zero w = 0
times (suc n) w = w + times n w

times_less : (a b w : ℕ) → a < b → times a w + w ≤ times b w
times_less a zero w l = absurd (omega (arith, l))
times_less zero (suc b) w l = omega arith
times_less (suc a) (suc b) w l = let r = times_less a b w (omega (arith, l)) in omega (arith, r)

-- ---- the cover

module _ (c : Class) (rules : Rules) (set : ℕ → Bool) (on : LeadsOn c set) where
  abbrev code_at : Option Method → ℕ → Bool
  code_at None q = false
  code_at (Some m) q = is_some (instruction_at m q)

  abbrev inside : ℕ → Node → Bool
  inside j x = set j && code_at (slice_get c.methods j) x.place

  abbrev room : ℕ
  room = tops c.methods

  abbrev rank : ℕ → Node → ℕ
  rank j x = times (on.ranks.0 j) room + (room - suc x.place)

  record Stands (j : ℕ) (x : Node) : Type 0 where
    member : set j ≡ true
    m : Method
    p : Placed
    at : StandsAt c j x.place m p

  stands_of : (j : ℕ) (x : Node) → inside j x ≡ true → Stands j x
  stands_of j x h = let p = and_parts (set j) (code_at (slice_get c.methods j) x.place) h in go p.0 (slice_get c.methods j) refl p.1
    where
      at_code : set j ≡ true → (m : Method) → slice_get c.methods j ≡ Some m → (o : Option Placed) → instruction_at m x.place ≡ o → is_some o ≡ true → Stands j x
      at_code h m f None g e = cc
      at_code h m f (Some p) g e = record { member = h; m = m; p = p; at = record { method = f; instruction = g } }

      go : set j ≡ true → (o : Option Method) → slice_get c.methods j ≡ o → code_at o x.place ≡ true → Stands j x
      go h None f e = cc
      go h (Some m) f e = at_code h m f (instruction_at m x.place) refl e

  is_inside : (j q : ℕ) (x : Node) (m : Method) → set j ≡ true → slice_get c.methods j ≡ Some m → IsSome (instruction_at m q) → x.place ≡ q → inside j x ≡ true
  is_inside j q x m h f e place = and_from (set j) (code_at (slice_get c.methods j) x.place) h (ap (λ o. code_at o x.place) f ∙ ap (λ z. is_some (instruction_at m z)) place ∙ e)

  low : (j : ℕ) (x : Node) → inside j x ≡ true → x.place < room
  low j x h = let s = stands_of j x h in let a = below_top s.m.code x.place s.p s.at.instruction in let b = below_tops c.methods j s.m s.at.method in omega (arith, a, b)

  further : (j : ℕ) (x y : Node) → inside j y ≡ true → x.place < y.place → rank j y < rank j x
  further j x y h l = let t = low j y h in omega (arith, t, l)

  closed_by : (j : ℕ) (x y : Node) (m : Method) (p : Placed) → set j ≡ true → StandsAt c j x.place m p → ((falls_through p.instruction ≡ true) × (y.place ≡ p.next)) ⊎ IsTarget p.instruction (pos y.place) → (inside j y ≡ true) × (rank j y < rank j x)
  closed_by j x y m p h s (inl (e, f)) =
      let n = on.next j x.place m p h s e in
      let there = is_inside j p.next y m h s.method n.1 f in
      let far = n.0 in
      (there, further j x y there (omega (arith, far, f)))
  closed_by j x y m p h s (inr t) =
      let n = on.target j x.place m p (pos y.place) h s t in
      let same : y.place ≡ n.0 = cc n.1 in
      let there = is_inside j n.0 y m h s.method n.3 same in
      let far = n.2 in
      (there, further j x y there (omega (arith, far, same)))

  callee_place : (k : ℕ) (n : Method) (p : Placed) (x : Node) → (callee_node c rules k n p x).place ≡ 0
  callee_place k n p x = arrive_place (rules k) _

  called : (j k : ℕ) (x : Node) (m : Method) (p : Placed) → inside j x ≡ true → StandsAt c j x.place m p → call_of c.view p.instruction ≡ Some k → (n : Method) × (slice_get c.methods k ≡ Some n) × (inside k (callee_node c rules k n p x) ≡ true) × (rank k (callee_node c rules k n p x) < rank j x)
  called j k x m p h s e =
      let member = (stands_of j x h).member in
      let to = on.callee j x.place k m p member s e in
      let n = to.1.0 in
      let y = callee_node c rules k n p x in
      let place = callee_place k n p x in
      let there = is_inside k 0 y n to.0 to.1.1 to.1.2 place in
      let lower : on.ranks.0 k < on.ranks.0 j = on.ranks.1 j k (m, x.place, p, s.method, s.instruction, e) in
      let far = times_less (on.ranks.0 k) (on.ranks.0 j) room lower in
      let some = low k y there in
      (n, to.1.1, there, omega (arith, far, some, place))

  pub forward_cover : HasCover c rules set
  forward_cover = record {
    inside = inside;
    rank = rank;
    cover = record {
      stands = λ j x h. let s = stands_of j x h in (s.m, s.p, s.at);
      leads = λ j x m p h s e.
          let member = (stands_of j x h).member in
          let y = some_edge c.view (rules j) x p.next p.instruction (λ z t. let n = on.target j x.place m p z member s t in (n.0, n.1)) e in
          (arrive (rules j) y.0, map_one (arrive (rules j)) (edges c.view (rules j) x p.next p.instruction) 0 y.0 y.1);
      closed = λ j x y m p i h s w. closed_by j x y m p (stands_of j x h).member s (way_leads c.view (rules j) p x y i w);
      calls = λ j k x m p h s e. called j k x m p h s e;
    };
    starts = λ j m h f e. is_inside j 0 (start_node rules j m) m h f e (arrive_place (rules j) _);
  }

pub forward_is_covered : ForwardIsCovered
forward_is_covered c rules set on = forward_cover c rules set on
