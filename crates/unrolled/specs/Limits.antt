-- Classes whose nodes are few enough to list, and what that excludes.
use Rattle.std.specs.Prelude.{◌≡◌, ℕ, ◌≤◌, ◌<◌, true, List, length}
use Rattle.typecheck.specs.Typing.{Method, Class}
use Rattle.bounds.specs.Paths.{Bounds}
use Rattle.unrolled.specs.Rules.{has_loops, rules_of}
use Rattle.unrolled.specs.Paths.{start_node, AreBounds}
use Rattle.unrolled.specs.Certificates.{Point, is_in, covers}
use Rattle.unrolled.specs.Circles.{IsCircle, AreReached, values_in}

abbrev pub node_limit : ℕ
node_limit = 65_536

-- of the local variables and operands of all nodes together
abbrev pub value_limit : ℕ
value_limit = 4_194_304

abbrev pub start_point : Class → ℕ → Method → Point
start_point c j m = record { method = j; node = start_node (rules_of c) j m }

-- `IsUnrolled c j m ks` holds if the list is a certificate with the start of method `j`, which is `m`. It has limits only if some branch of the class
-- leads back.
pub record IsUnrolled (c : Class) (j : ℕ) (m : Method) (ks : List Point) : Type 0 where
  pub passes : covers c (rules_of c) ks ≡ true
  pub starts : is_in (start_point c j m) ks ≡ true
  pub nodes : has_loops c.methods ≡ true → length ks ≤ node_limit
  pub values : has_loops c.methods ≡ true → values_in ks ≤ value_limit

abbrev pub UnrolledHasBounds : Type 0
UnrolledHasBounds = (c : Class) (j : ℕ) (m : Method) (ks : List Point) → IsUnrolled c j m ks → (b : Bounds) × AreBounds c (rules_of c) j (start_node (rules_of c) j m) b

-- `IsTooLarge` holds if a class with loops reaches more nodes or more values than a limit
pub data IsTooLarge (c : Class) (j : ℕ) (m : Method) : Type 0 where
  by_nodes : (xs : List Point) → has_loops c.methods ≡ true → AreReached c (rules_of c) (start_point c j m) xs → node_limit < length xs → IsTooLarge c j m
  by_values : (xs : List Point) → has_loops c.methods ≡ true → AreReached c (rules_of c) (start_point c j m) xs → value_limit < values_in xs → IsTooLarge c j m

-- Nodes that lead in a circle and nodes beyond a limit each exclude a certificate.
abbrev pub UnrolledExcludes : Type 0
UnrolledExcludes = (c : Class) (j : ℕ) (m : Method) (ks : List Point) → IsUnrolled c j m ks → (IsCircle c (rules_of c) (start_point c j m) → ⊥) × (IsTooLarge c j m → ⊥)
