-- Where no values are followed, the bounds over nodes are those over pcs.
use Rattle.std.specs.Prelude.{◌≡◌, ◌↔◌, ℕ, false, Some, slice_get}
use Rattle.typecheck.specs.Typing.{Method, Class}
use Rattle.bounds.specs.Paths.{Bounds}
use Rattle.bounds.specs.Paths as places
use Rattle.unrolled.specs.Rules.{Rules, has_loops, rules_of}
use Rattle.unrolled.specs.Paths.{start_node, AreBounds}

abbrev pub FollowsNone : Rules → Type 0
FollowsNone rules = (k : ℕ) → (rules k).values ≡ false

abbrev pub BoundsAreSame : Type 0
BoundsAreSame = (c : Class) (rules : Rules) (j : ℕ) (m : Method) (b : Bounds) → FollowsNone rules → slice_get c.methods j ≡ Some m
    → AreBounds c rules j (start_node rules j m) b ↔ places.AreBounds c j b

-- A class in which no branch leads back keeps its bounds.
abbrev pub BoundsAreKept : Type 0
BoundsAreKept = (c : Class) (j : ℕ) (m : Method) (b : Bounds) → has_loops c.methods ≡ false → slice_get c.methods j ≡ Some m
    → AreBounds c (rules_of c) j (start_node (rules_of c) j m) b ↔ places.AreBounds c j b
