-- The costs that the code computes are a table's, saturated.
use Rattle.std.proofs.Common.{◌≡◌, ℕ, ◌+◌, Bool, true, false, List, [], ◌∷◌, ◌++◌, map, Option, Some, None, inl, inr, refl, sym, ap, ◌∙◌, subst, arith}
use Rattle.std.specs.Prelude.{slice_get, is_some, if◌then◌else◌}
use Rattle.jtypes.specs.Values.{words_of}
use Rattle.classfile.specs.View.{ClassView}
use Rattle.decode.specs.declared.instruction.Instruction.{Instruction}
use Rattle.decode.specs.declared.instruction.Instruction.TheVariants as instruction
use Rattle.decode.specs.declared.instruction.Placed.{Placed}
use Rattle.decode.specs.Places.{at_place, is_return, pushed_before}
use Rattle.frames.specs.declared.frame.Environment.{Environment}
use Rattle.typecheck.specs.Typing.{Method, Class, call_of, own_of}
use Rattle.typecheck.specs.Calls.{callee_in}
use Rattle.typecheck.specs.declared.typed.Typed.{Typed}
use Rattle.bounds.specs.Paths.{Cost, own_slots, words_at, last_cost, after_one, after_call, length_of}
use Rattle.bounds.specs.Table.{greater}
use Rattle.bounds.specs.Cells.{Cell, cut, capped, no_path, either, one_before, call_before, slots_of, last_cell, words_by, cell_at}
use Rattle.unrolled.specs.Graph.{Node, Following, arrive, edges, successors}
use Rattle.unrolled.specs.Rules.{rules_of}
use Rattle.unrolled.specs.Paths.{callee_node}
use Rattle.unrolled.specs.Certificates.{Point, is_in, leads_on}
use Rattle.unrolled.specs.Tables.{Costs, IsTable, greatest_of, greatest_among}
use Rattle.loop_bounds.specs.Methods.{IsMethodOf}
use Rattle.loop_bounds.specs.Nexts.{at_node, start_in, own_start, HasCallee, AreNexts}
use Rattle.loop_bounds.specs.Graphs.{AreLinked, IsExpanded}
use Rattle.loop_bounds.specs.Tables.{greatest_cell, call_cell, cell_by, AreCellsOf}
use Rattle.loop_bounds.proofs.Rules.{by_call}

-- ---- instructions

-- a return has no successor and calls no own method
ends_all : (v : ClassView) (f : Following) (x : Node) (next : ℕ) (i : Instruction) → is_return i ≡ true → (edges v f x next i ≡ []) × (call_of v i ≡ None)
ends_all v f x next instruction.Nop e = absurd cc
ends_all v f x next (instruction.Push p) e = absurd cc
ends_all v f x next (instruction.Load k n) e = absurd cc
ends_all v f x next (instruction.Store k n) e = absurd cc
ends_all v f x next (instruction.Increment n by) e = absurd cc
ends_all v f x next (instruction.Operate o) e = absurd cc
ends_all v f x next (instruction.Rearrange r) e = absurd cc
ends_all v f x next (instruction.Branch t z) e = absurd cc
ends_all v f x next (instruction.Goto z) e = absurd cc
ends_all v f x next (instruction.Switch z cases) e = absurd cc
ends_all v f x next (instruction.Return k) e = (refl, refl)
ends_all v f x next instruction.ReturnVoid e = (refl, refl)
ends_all v f x next (instruction.Throw t text) e = (refl, refl)
ends_all v f x next (instruction.Invoke k i) e = absurd cc
ends_all v f x next (instruction.NewArray k) e = absurd cc
ends_all v f x next (instruction.ArrayLoad k) e = absurd cc
ends_all v f x next (instruction.ArrayStore k) e = absurd cc
ends_all v f x next instruction.ReferenceLoad e = absurd cc
ends_all v f x next instruction.ArrayLength e = absurd cc
ends_all v f x next (instruction.CheckCast i) e = absurd cc
ends_all v f x next (instruction.InstanceOf i) e = absurd cc

words_are : (row : Typed) (m : Method) (place : ℕ) (i : Instruction) → m.code ≡ row.code → words_by row place i ≡ cut (words_at m place i)
words_are row m place instruction.Nop e = refl
words_are row m place (instruction.Push p) e = refl
words_are row m place (instruction.Load k n) e = refl
words_are row m place (instruction.Store k n) e = refl
words_are row m place (instruction.Increment n by) e = refl
words_are row m place (instruction.Operate o) e = refl
words_are row m place (instruction.Rearrange r) e = refl
words_are row m place (instruction.Branch t z) e = refl
words_are row m place (instruction.Goto z) e = refl
words_are row m place (instruction.Switch z cases) e = refl
words_are row m place (instruction.Return k) e = refl
words_are row m place instruction.ReturnVoid e = refl
words_are row m place (instruction.Throw t text) e = refl
words_are row m place (instruction.Invoke k i) e = refl
words_are row m place (instruction.NewArray k) e = ap (λ (code : List Placed). cut (words_of (length_of (pushed_before code place)))) (sym e)
words_are row m place (instruction.ArrayLoad k) e = refl
words_are row m place (instruction.ArrayStore k) e = refl
words_are row m place instruction.ReferenceLoad e = refl
words_are row m place instruction.ArrayLength e = refl
words_are row m place (instruction.CheckCast i) e = refl
words_are row m place (instruction.InstanceOf i) e = refl

-- ---- costs

abbrev cell : ℕ → ℕ → ℕ → ℕ → Cell
cell s w x d = record { steps = s; words = w; slots = x; depth = d }

same_cell : (a b : Cell) → a.steps ≡ b.steps → a.words ≡ b.words → a.slots ≡ b.slots → a.depth ≡ b.depth → a ≡ b
same_cell a b s w x d = ap (λ n. cell n a.words a.slots a.depth) s ∙ ap (λ n. cell b.steps n a.slots a.depth) w ∙ ap (λ n. cell b.steps b.words n a.depth) x ∙ ap (λ n. cell b.steps b.words b.slots n) d

abbrev cost : ℕ → ℕ → ℕ → ℕ → Cost
cost s w x d = record { steps = s; words = w; slots = x; depth = d }

same_cost : (a b : Cost) → a.steps ≡ b.steps → a.words ≡ b.words → a.slots ≡ b.slots → a.depth ≡ b.depth → a ≡ b
same_cost a b s w x d = ap (λ n. cost n a.words a.slots a.depth) s ∙ ap (λ n. cost b.steps n a.slots a.depth) w ∙ ap (λ n. cost b.steps b.words n a.depth) x ∙ ap (λ n. cost b.steps b.words b.slots n) d

one_is : (w v : ℕ) (x : Cell) (k : Cost) → w ≡ cut v → x ≡ capped k → one_before w x ≡ capped (after_one v k)
one_is w v x k e h =
    let s : x.steps ≡ cut k.steps = ap (λ (y : Cell). y.steps) h in
    let u : x.words ≡ cut k.words = ap (λ (y : Cell). y.words) h in
    same_cell (one_before w x) (capped (after_one v k)) (omega (arith, s)) (omega (arith, e, u)) (ap (λ (y : Cell). y.slots) h) (ap (λ (y : Cell). y.depth) h)

either_is : (x y : Cell) (k l : Cost) → x ≡ capped k → y ≡ capped l → either x y ≡ capped (greater k l)
either_is x y k l e h =
    let s : x.steps ≡ cut k.steps = ap (λ (z : Cell). z.steps) e in
    let w : x.words ≡ cut k.words = ap (λ (z : Cell). z.words) e in
    let u : x.slots ≡ cut k.slots = ap (λ (z : Cell). z.slots) e in
    let d : x.depth ≡ cut k.depth = ap (λ (z : Cell). z.depth) e in
    let s' : y.steps ≡ cut l.steps = ap (λ (z : Cell). z.steps) h in
    let w' : y.words ≡ cut l.words = ap (λ (z : Cell). z.words) h in
    let u' : y.slots ≡ cut l.slots = ap (λ (z : Cell). z.slots) h in
    let d' : y.depth ≡ cut l.depth = ap (λ (z : Cell). z.depth) h in
    same_cell (either x y) (capped (greater k l)) (omega (arith, s, s')) (omega (arith, w, w')) (omega (arith, u, u')) (omega (arith, d, d'))

alone_is : (x : Cell) (k : Cost) → x ≡ capped k → either x no_path ≡ capped k
alone_is x k e = same_cell (either x no_path) x (omega arith) (omega arith) (omega arith) (omega arith) ∙ e

call_is : (row : Typed) (m : Method) (x y : Cell) (e k : Cost) → own_slots m ≡ slots_of row → x ≡ capped e → y ≡ capped k → call_before (slots_of row) x y ≡ capped (after_call m e k)
call_is row m x y e k own h g =
    let s : x.steps ≡ cut e.steps = ap (λ (z : Cell). z.steps) h in
    let w : x.words ≡ cut e.words = ap (λ (z : Cell). z.words) h in
    let u : x.slots ≡ cut e.slots = ap (λ (z : Cell). z.slots) h in
    let d : x.depth ≡ cut e.depth = ap (λ (z : Cell). z.depth) h in
    let s' : y.steps ≡ cut k.steps = ap (λ (z : Cell). z.steps) g in
    let w' : y.words ≡ cut k.words = ap (λ (z : Cell). z.words) g in
    let u' : y.slots ≡ cut k.slots = ap (λ (z : Cell). z.slots) g in
    let d' : y.depth ≡ cut k.depth = ap (λ (z : Cell). z.depth) g in
    same_cell (call_before (slots_of row) x y) (capped (after_call m e k)) (omega (arith, s, s')) (omega (arith, w, w')) (omega (arith, own, u, u')) (omega (arith, d, d'))

-- ---- the maximum over successors

one_greater : (w : ℕ) (a b : Cost) → greater (after_one w a) (after_one w b) ≡ after_one w (greater a b)
one_greater w a b = same_cost (greater (after_one w a) (after_one w b)) (after_one w (greater a b)) (omega arith) (omega arith) refl refl

call_greater : (m : Method) (e a b : Cost) → greater (after_call m e a) (after_call m e b) ≡ after_call m e (greater a b)
call_greater m e a b = same_cost (greater (after_call m e a) (after_call m e b)) (after_call m e (greater a b)) (omega arith) (omega arith) (omega arith) (omega arith)

one_of : (f : Node → Cost) (w : ℕ) (x : Node) (xs : List Node) → greatest_of (λ y. after_one w (f y)) x xs ≡ after_one w (greatest_of f x xs)
one_of f w x [] = refl
one_of f w x (y ∷ xs) = ap (greater (after_one w (f x))) (one_of f w y xs) ∙ one_greater w (f x) (greatest_of f y xs)

call_among : (f : Node → Cost) (m : Method) (e : Cost) (x : Node) (xs : List Node) → greatest_of (λ y. after_call m e (f y)) x xs ≡ after_call m e (greatest_of f x xs)
call_among f m e x [] = refl
call_among f m e x (y ∷ xs) = ap (greater (after_call m e (f x))) (call_among f m e y xs) ∙ call_greater m e (f x) (greatest_of f y xs)

greatest_is : (t : Costs) (ps : List Point) (cells : List Cell) (j : ℕ) (ns : List ℕ) (y : Node) (ys : List Node) → AreLinked ps ns (map (at_node j) (y ∷ ys)) → AreCellsOf t ps cells ns
    → greatest_cell cells ns ≡ capped (greatest_of (t j) y ys)
greatest_is t ps cells j [] y ys e are = absurd cc
greatest_is t ps cells j (n ∷ []) y [] e are = let one : slice_get ps n ≡ Some (at_node j y) = cc in alone_is (cell_at cells n) (t j y) (are n (at_node j y) (inl refl) one)
greatest_is t ps cells j (n ∷ []) y (z ∷ ys) e are = absurd cc
greatest_is t ps cells j (n ∷ m ∷ ns) y [] e are = absurd cc
greatest_is t ps cells j (n ∷ m ∷ ns) y (z ∷ ys) e are =
    let one : slice_get ps n ≡ Some (at_node j y) = cc in
    let rest : AreLinked ps (m ∷ ns) (map (at_node j) (z ∷ ys)) = cc in
    either_is (cell_at cells n) (greatest_cell cells (m ∷ ns)) (t j y) (greatest_of (t j) z ys) (are n (at_node j y) (inl refl) one) (greatest_is t ps cells j (m ∷ ns) z ys rest (λ q k h. are q k (inr h)))

-- ---- the cost of a point

module _ (c : Class) (marks : List Point) (t : Costs) (table : IsTable c (rules_of c) (λ j y. is_in (record { method = j; node = y }) marks) t)
    (k : Point) (inside : is_in k marks ≡ true) (ys : List Point) (are : AreNexts c (rules_of c) k ys)
    (row : Typed) (slots : own_slots are.method ≡ slots_of row) (code : are.method.code ≡ row.code) where
  abbrev nodes : List Node
  nodes = successors c.view (rules_of c k.method) are.placed k.node

  abbrev words : ℕ
  words = words_at are.method k.node.place are.placed.instruction

  return_cost : is_return are.placed.instruction ≡ true → last_cell row ≡ capped (t k.method k.node)
  return_cost e =
      let both = ends_all c.view (rules_of c k.method) k.node are.placed.next are.placed.instruction e in
      let none : nodes ≡ [] = ap (map (arrive (rules_of c k.method))) both.0 in
      let is : t k.method k.node ≡ last_cost are.method =
      table.plain k.method k.node are.method are.placed inside are.stands both.1
      ∙ ap (λ (l : List Node). greatest_among (λ y. after_one words (t k.method y)) (last_cost are.method) l) none in
      same_cell (last_cell row) (capped (last_cost are.method)) refl refl (ap cut (sym slots)) refl ∙ ap capped (sym is)

  -- a node that is no return has a successor
  some_node : (l : List Node) → is_return are.placed.instruction ≡ false → leads_on (is_return are.placed.instruction) l ≡ true → (y : Node) × (rest : List Node) × (l ≡ y ∷ rest)
  some_node [] e on = let f : leads_on false [] ≡ true = subst (λ b. leads_on b [] ≡ true) e on in absurd cc
  some_node (y ∷ rest) e on = (y, rest, refl)

  plain_cost : (ps : List Point) (cells : List Cell) (ns : List ℕ) → is_return are.placed.instruction ≡ false → call_of c.view are.placed.instruction ≡ None → AreLinked ps ns ys → AreCellsOf t ps cells ns
      → one_before (words_by row k.node.place are.placed.instruction) (greatest_cell cells ns) ≡ capped (t k.method k.node)
  plain_cost ps cells ns e none linked cell =
      let some = some_node nodes e are.on in
      let all : ys ≡ map (at_node k.method) (some.0 ∷ some.1) =
      are.are ∙ ap (λ o. own_start c (rules_of c) are.placed k.node o ++ map (at_node k.method) nodes) none ∙ ap (map (at_node k.method)) some.2 in
      let most : greatest_cell cells ns ≡ capped (greatest_of (t k.method) some.0 some.1) =
      greatest_is t ps cells k.method ns some.0 some.1 (subst (AreLinked ps ns) all linked) cell in
      let is : t k.method k.node ≡ after_one words (greatest_of (t k.method) some.0 some.1) =
      table.plain k.method k.node are.method are.placed inside are.stands none
      ∙ ap (λ (l : List Node). greatest_among (λ y. after_one words (t k.method y)) (last_cost are.method) l) some.2
      ∙ one_of (t k.method) words some.0 some.1 in
      one_is (words_by row k.node.place are.placed.instruction) words (greatest_cell cells ns) (greatest_of (t k.method) some.0 some.1)
      (words_are row are.method k.node.place are.placed.instruction code) most ∙ ap capped (sym is)

  called_cost : (ps : List Point) (cells : List Cell) (ns : List ℕ) (q : ℕ) (n : Method) → is_return are.placed.instruction ≡ false → call_of c.view are.placed.instruction ≡ Some q → slice_get c.methods q ≡ Some n
      → AreLinked ps ns ys → AreCellsOf t ps cells ns → call_cell row cells ns ≡ capped (t k.method k.node)
  called_cost ps cells ns q n e calls method linked cell =
      let some = some_node nodes e are.on in
      let x : Node = callee_node c (rules_of c) q n are.placed k.node in
      let all : ys ≡ at_node q x ∷ map (at_node k.method) (some.0 ∷ some.1) =
      are.are ∙ ap (λ o. own_start c (rules_of c) are.placed k.node o ++ map (at_node k.method) nodes) calls
      ∙ ap (λ o. start_in c (rules_of c) are.placed k.node q o ++ map (at_node k.method) nodes) method
      ∙ ap (λ (l : List Node). at_node q x ∷ map (at_node k.method) l) some.2 in
      let is : t k.method k.node ≡ after_call are.method (t q x) (greatest_of (t k.method) some.0 some.1) =
      table.called k.method q k.node are.method n are.placed inside are.stands calls method
      ∙ ap (λ (l : List Node). greatest_among (λ y. after_call are.method (t q x) (t k.method y)) (last_cost are.method) l) some.2
      ∙ call_among (t k.method) are.method (t q x) some.0 some.1 in
      by_numbers x some.0 some.1 ns (subst (AreLinked ps ns) all linked) cell ∙ ap capped (sym is)
    where
      by_numbers : (x y : Node) (rest : List Node) (ns : List ℕ) → AreLinked ps ns (at_node q x ∷ map (at_node k.method) (y ∷ rest)) → AreCellsOf t ps cells ns
          → call_cell row cells ns ≡ capped (after_call are.method (t q x) (greatest_of (t k.method) y rest))
      by_numbers x y rest [] l cell = absurd cc
      by_numbers x y rest (i ∷ ns) l cell =
          let first : slice_get ps i ≡ Some (at_node q x) = cc in
          let others : AreLinked ps ns (map (at_node k.method) (y ∷ rest)) = cc in
          call_is row are.method (cell_at cells i) (greatest_cell cells ns) (t q x) (greatest_of (t k.method) y rest) slots (cell i (at_node q x) (inl refl) first)
          (greatest_is t ps cells k.method ns y rest others (λ a b h. cell a b (inr h)))

  abbrev chosen : List Cell → List ℕ → Bool → Bool → Cell
  chosen cells ns b d = if b then last_cell row else if d then call_cell row cells ns else one_before (words_by row k.node.place are.placed.instruction) (greatest_cell cells ns)

  by_kind : (ps : List Point) (cells : List Cell) (ns : List ℕ) → AreLinked ps ns ys → AreCellsOf t ps cells ns → (b : Bool) → is_return are.placed.instruction ≡ b → (o : Option ℕ) → call_of c.view are.placed.instruction ≡ o
      → chosen cells ns b (is_some o) ≡ capped (t k.method k.node)
  by_kind ps cells ns linked cell true e o f = return_cost e
  by_kind ps cells ns linked cell false e None f = plain_cost ps cells ns e f linked cell
  by_kind ps cells ns linked cell false e (Some q) f = let n : HasCallee c (Some q) = subst (HasCallee c) f are.callee in called_cost ps cells ns q n.0 e f n.1 linked cell

  pub by_instruction : (ps : List Point) (cells : List Cell) (ns : List ℕ) → own_of (callee_in row.calls.items k.node.place) ≡ call_of c.view are.placed.instruction → AreLinked ps ns ys → AreCellsOf t ps cells ns
      → cell_by row k.node.place are.placed.instruction cells ns ≡ capped (t k.method k.node)
  by_instruction ps cells ns at linked cell =
      ap (λ (o : Option ℕ). chosen cells ns (is_return are.placed.instruction) (is_some o)) at
      ∙ by_kind ps cells ns linked cell (is_return are.placed.instruction) refl (call_of c.view are.placed.instruction) refl

-- a point that is expanded has an instruction
pub stands_there : (c : Class) (ps : List Point) (k : Point) (ns : List ℕ) (row : Typed) → IsMethodOf c row → row.number ≡ k.method → IsExpanded c (rules_of c) ps k ns → at_place row.code k.node.place ≡ None → ⊥
stands_there c ps k ns row of number (ys, are, linked) none =
    let here : slice_get c.methods k.method ≡ Some of.method.0 = ap (slice_get c.methods) (sym number) ∙ of.method.1 in
    let same : are.method ≡ of.method.0 = cc (are.stands.method, here) in
    let code : are.method.code ≡ row.code = ap (λ (m : Method). m.code) same ∙ of.method.3 in
    let placed : at_place row.code k.node.place ≡ Some are.placed = ap (λ (l : List Placed). at_place l k.node.place) (sym code) ∙ are.stands.instruction in
    let both : None ≡ Some are.placed = sym none ∙ placed in
    absurd cc

pub cell_is : (c : Class) (marks : List Point) (t : Costs) → IsTable c (rules_of c) (λ j y. is_in (record { method = j; node = y }) marks) t → (ps : List Point) (cells : List Cell) (k : Point) (ns : List ℕ) (row : Typed) (p : Placed)
    → is_in k marks ≡ true → IsMethodOf c row → row.number ≡ k.method → at_place row.code k.node.place ≡ Some p → IsExpanded c (rules_of c) ps k ns → AreCellsOf t ps cells ns
    → cell_by row k.node.place p.instruction cells ns ≡ capped (t k.method k.node)
cell_is c marks t table ps cells k ns row p inside of number at (ys, are, linked) cell =
    let here : slice_get c.methods k.method ≡ Some of.method.0 = ap (slice_get c.methods) (sym number) ∙ of.method.1 in
    let same : are.method ≡ of.method.0 = cc (are.stands.method, here) in
    let code : are.method.code ≡ row.code = ap (λ (m : Method). m.code) same ∙ of.method.3 in
    let slots : own_slots are.method ≡ slots_of row = ap own_slots same ∙ ap (λ (e : Environment). e.max_locals + e.max_stack) of.method.2 in
    let placed : at_place row.code k.node.place ≡ Some are.placed = ap (λ (l : List Placed). at_place l k.node.place) (sym code) ∙ are.stands.instruction in
    let one : p ≡ are.placed = cc (at, placed) in
    let own : own_of (callee_in row.calls.items k.node.place) ≡ call_of c.view are.placed.instruction =
    ap own_of (of.calls.reached k.node.place are.placed placed) ∙ sym (by_call c.view are.placed.instruction).own in
    ap (λ (q : Placed). cell_by row k.node.place q.instruction cells ns) one
    ∙ by_instruction c marks t table k inside ys are row slots code ps cells ns own linked cell
