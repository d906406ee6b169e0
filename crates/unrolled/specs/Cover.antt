-- Covers: sets of nodes that no edge leaves, and in which none leads in a circle.
use Rattle.std.specs.Prelude.{◌≡◌, ℕ, ◌<◌, Bool, true, false, Some, slice_get}
use Rattle.decode.specs.declared.instruction.Placed.{Placed}
use Rattle.decode.specs.Places.{is_return}
use Rattle.typecheck.specs.Typing.{Method, Class, call_of}
use Rattle.bounds.specs.Paths.{StandsAt}
use Rattle.unrolled.specs.Graph.{Node, successors}
use Rattle.unrolled.specs.Rules.{Rules}
use Rattle.unrolled.specs.Paths.{callee_node}

-- `IsCover` holds if each node of the set has an instruction, only returns and throws have no successor, and each successor and each own callee's start is in the
-- set at a lower rank.
pub record IsCover (c : Class) (rules : Rules) (inside : ℕ → Node → Bool) (rank : ℕ → Node → ℕ) : Type 0 where
  pub stands : (j : ℕ) (x : Node) → inside j x ≡ true → (m : Method) × (p : Placed) × StandsAt c j x.place m p
  pub leads : (j : ℕ) (x : Node) (m : Method) (p : Placed) → inside j x ≡ true → StandsAt c j x.place m p → is_return p.instruction ≡ false
      → (y : Node) × (slice_get (successors c.view (rules j) p x) 0 ≡ Some y)
  pub closed : (j : ℕ) (x y : Node) (m : Method) (p : Placed) (i : ℕ) → inside j x ≡ true → StandsAt c j x.place m p
      → slice_get (successors c.view (rules j) p x) i ≡ Some y → (inside j y ≡ true) × (rank j y < rank j x)
  pub calls : (j k : ℕ) (x : Node) (m : Method) (p : Placed) → inside j x ≡ true → StandsAt c j x.place m p → call_of c.view p.instruction ≡ Some k
      → (n : Method) × (slice_get c.methods k ≡ Some n) × (inside k (callee_node c rules k n p x) ≡ true) × (rank k (callee_node c rules k n p x) < rank j x)
