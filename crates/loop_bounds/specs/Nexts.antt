-- The points after a point: the start of the own method that its instruction calls, and its successors.
use Rattle.std.specs.Prelude.{◌≡◌, ℕ, true, false, List, [], ◌∷◌, ◌++◌, map, Option, Some, None, slice_get}
use Rattle.decode.specs.declared.instruction.Placed.{Placed}
use Rattle.decode.specs.Places.{is_return}
use Rattle.typecheck.specs.Typing.{Method, Class, instruction_at, call_of}
use Rattle.bounds.specs.Paths.{StandsAt}
use Rattle.unrolled.specs.Graph.{Node, successors}
use Rattle.unrolled.specs.Rules.{Rules}
use Rattle.unrolled.specs.Paths.{callee_node}
use Rattle.unrolled.specs.Certificates.{Point, leads_on}
use Rattle.unrolled.specs.Circles.{Reached}

abbrev pub at_node : ℕ → Node → Point
at_node j x = record { method = j; node = x }

abbrev pub start_in : Class → Rules → Placed → Node → ℕ → Option Method → List Point
start_in c rules p x k None = []
start_in c rules p x k (Some n) = at_node k (callee_node c rules k n p x) ∷ []

-- the start of the own method that is called, if any
abbrev pub own_start : Class → Rules → Placed → Node → Option ℕ → List Point
own_start c rules p x None = []
own_start c rules p x (Some k) = start_in c rules p x k (slice_get c.methods k)

abbrev pub nexts_at : Class → Rules → Placed → Point → List Point
nexts_at c rules p k = own_start c rules p k.node (call_of c.view p.instruction) ++ map (at_node k.method) (successors c.view (rules k.method) p k.node)

-- whether the own method that is called exists
abbrev pub HasCallee : Class → Option ℕ → Type 0
HasCallee c None = Unit {0}
HasCallee c (Some k) = (n : Method) × (slice_get c.methods k ≡ Some n)

-- `AreNexts c rules k ys` holds if the point has an instruction, only a return has no successor, and the points after it are `ys`
pub record AreNexts (c : Class) (rules : Rules) (k : Point) (ys : List Point) : Type 0 where
  pub method : Method
  pub placed : Placed
  pub stands : StandsAt c k.method k.node.place method placed
  pub on : leads_on (is_return placed.instruction) (successors c.view (rules k.method) placed k.node) ≡ true
  pub callee : HasCallee c (call_of c.view placed.instruction)
  pub are : ys ≡ nexts_at c rules placed k

abbrev pub HasNoEdge : Class → Rules → Point → Option Placed → Type 0
HasNoEdge c rules k None = Unit {0}
HasNoEdge c rules k (Some p) = (is_return p.instruction ≡ false) × (successors c.view (rules k.method) p k.node ≡ [])

-- `IsDeadEnd c rules k` holds if the point has no instruction, or one that is no return and has no successor
abbrev pub IsDeadEnd : Class → Rules → Point → Type 0
IsDeadEnd c rules k = (m : Method) × (slice_get c.methods k.method ≡ Some m) × HasNoEdge c rules k (instruction_at m k.node.place)

-- `ReachesDeadEnd c rules start` holds if such a point is reached; a well-typed class reaches none
abbrev pub ReachesDeadEnd : Class → Rules → Point → Type 0
ReachesDeadEnd c rules start = (k : Point) × Reached c rules start k × IsDeadEnd c rules k
