-- The maximum costs of all paths over nodes, as a table with a cost for each node.
use Rattle.std.specs.Prelude.{◌≡◌, ℕ, Bool, true, List, [], ◌∷◌, Option, Some, None, slice_get}
use Rattle.decode.specs.declared.instruction.Placed.{Placed}
use Rattle.typecheck.specs.Typing.{Method, Class, call_of}
use Rattle.bounds.specs.Paths.{Cost, StandsAt, last_cost, after_one, after_call, words_at}
use Rattle.bounds.specs.Table.{greater, bounds_of}
use Rattle.unrolled.specs.Graph.{Node, successors}
use Rattle.unrolled.specs.Rules.{Rules}
use Rattle.unrolled.specs.Paths.{callee_node, AreBounds}
use Rattle.unrolled.specs.Cover.{IsCover}

-- the costs by method and node
abbrev pub Costs : Type 0
Costs = ℕ → Node → Cost

-- the maximum of the costs of some nodes
abbrev pub greatest_of : (Node → Cost) → Node → List Node → Cost
greatest_of t x [] = t x
greatest_of t x (y ∷ ys) = greater (t x) (greatest_of t y ys)

-- the maximum over the successors, or the cost of a return, which has none
abbrev pub greatest_among : (Node → Cost) → Cost → List Node → Cost
greatest_among t none [] = none
greatest_among t none (x ∷ xs) = greatest_of t x xs

-- the cost from a node on, by those of its successors and of the own method that it calls, if any
abbrev pub cost_from : Class → Rules → Costs → ℕ → Method → Placed → Node → Option (ℕ × Method) → Cost
cost_from c rules t j m p x None =
    greatest_among (λ y. after_one (words_at m x.place p.instruction) (t j y)) (last_cost m) (successors c.view (rules j) p x)
cost_from c rules t j m p x (Some (k, n)) =
    greatest_among (λ y. after_call m (t k (callee_node c rules k n p x)) (t j y)) (last_cost m) (successors c.view (rules j) p x)

-- `IsTable c rules inside t` holds if `t` satisfies one equation for each node of the set
pub record IsTable (c : Class) (rules : Rules) (inside : ℕ → Node → Bool) (t : Costs) : Type 0 where
  pub plain : (j : ℕ) (x : Node) (m : Method) (p : Placed) → inside j x ≡ true → StandsAt c j x.place m p → call_of c.view p.instruction ≡ None
      → t j x ≡ cost_from c rules t j m p x None
  pub called : (j k : ℕ) (x : Node) (m n : Method) (p : Placed) → inside j x ≡ true → StandsAt c j x.place m p → call_of c.view p.instruction ≡ Some k
      → slice_get c.methods k ≡ Some n → t j x ≡ cost_from c rules t j m p x (Some (k, n))

-- a cover has a table
abbrev pub EachHasTable : Type 0
EachHasTable = (c : Class) (rules : Rules) (inside : ℕ → Node → Bool) (rank : ℕ → Node → ℕ) → IsCover c rules inside rank → (t : Costs) × IsTable c rules inside t

-- the cost of a table at a node of a cover is the node's bounds
abbrev pub TablesAreBounds : Type 0
TablesAreBounds = (c : Class) (rules : Rules) (inside : ℕ → Node → Bool) (rank : ℕ → Node → ℕ) (t : Costs) → IsCover c rules inside rank → IsTable c rules inside t
    → (j : ℕ) (x : Node) → inside j x ≡ true → AreBounds c rules j x (bounds_of (t j x))
