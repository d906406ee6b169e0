-- Paths over nodes, and their costs.
use Rattle.std.specs.Prelude.{◌≡◌, ℕ, true, Some, None, slice_get}
use Rattle.decode.specs.declared.instruction.Placed.{Placed}
use Rattle.decode.specs.Places.{is_return}
use Rattle.typecheck.specs.Typing.{Method, Class, call_of}
use Rattle.bounds.specs.Paths.{Cost, Bounds, IsWithin, StandsAt, last_cost, after_one, after_call, words_at}
use Rattle.unrolled.specs.Graph.{Node, successors, entered, arguments_by, process_arguments}
use Rattle.unrolled.specs.Rules.{Rules}

-- the node at the start of an own method, by what is known of the operands of its call
abbrev pub callee_node : Class → Rules → (k : ℕ) → Method → Placed → Node → Node
callee_node c rules k n p x = entered (rules k) n (arguments_by c.view p.instruction x.operands)

-- the node at the start of `process`
abbrev pub start_node : Rules → ℕ → Method → Node
start_node rules j m = entered (rules j) m process_arguments

-- a path from a node of method `j` over edges to a return or a throw, with a path of the callee at each own call, and its cost
pub data Path (c : Class) (rules : Rules) : (j : ℕ) → Node → Cost → Type 0 where
  ends : {j : ℕ} {x : Node} (m : Method) (p : Placed) → StandsAt c j x.place m p → is_return p.instruction ≡ true → Path c rules j x (last_cost m)
  leads : {j : ℕ} {x : Node} {k : Cost} (m : Method) (p : Placed) (i : ℕ) (y : Node) → StandsAt c j x.place m p → call_of c.view p.instruction ≡ None
      → slice_get (successors c.view (rules j) p x) i ≡ Some y → Path c rules j y k → Path c rules j x (after_one (words_at m x.place p.instruction) k)
  calls : {j : ℕ} {x : Node} {e k : Cost} (m : Method) (p : Placed) (callee : ℕ) (n : Method) (i : ℕ) (y : Node) → StandsAt c j x.place m p
      → call_of c.view p.instruction ≡ Some callee → slice_get c.methods callee ≡ Some n → slice_get (successors c.view (rules j) p x) i ≡ Some y
      → Path c rules callee (callee_node c rules callee n p x) e → Path c rules j y k → Path c rules j x (after_call m e k)

-- `SomePathTakes c rules j x measure n` holds if some path from the node costs `n` in the measure
abbrev pub SomePathTakes : Class → Rules → ℕ → Node → (Cost → ℕ) → ℕ → Type 0
SomePathTakes c rules j x measure n = (k : Cost) × Path c rules j x k × (measure k ≡ n)

-- `AreBounds c rules j x b` holds if no path from the node exceeds `b`, and some path reaches it in each measure
pub record AreBounds (c : Class) (rules : Rules) (j : ℕ) (x : Node) (b : Bounds) : Type 0 where
  pub none_exceeds : (k : Cost) → Path c rules j x k → IsWithin k b
  pub steps : SomePathTakes c rules j x (λ k. k.steps) b.steps
  pub words : SomePathTakes c rules j x (λ k. k.words) b.words
  pub slots : SomePathTakes c rules j x (λ k. k.slots) b.slots
  pub depth : SomePathTakes c rules j x (λ k. k.depth) b.depth
