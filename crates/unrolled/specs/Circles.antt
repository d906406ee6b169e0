-- What a class with a certificate can't have: points that lead in a circle, or more reached points or values than the certificate lists.
use Rattle.std.specs.Prelude.{◌≡◌, ℕ, ◌+◌, ◌≤◌, true, List, [], ◌∷◌, length, Some, slice_get}
use Rattle.decode.specs.declared.instruction.Placed.{Placed}
use Rattle.typecheck.specs.Typing.{Method, Class, call_of}
use Rattle.bounds.specs.Paths.{StandsAt}
use Rattle.unrolled.specs.Graph.{Node, successors}
use Rattle.unrolled.specs.Rules.{Rules}
use Rattle.unrolled.specs.Paths.{callee_node}
use Rattle.unrolled.specs.Certificates.{Point, is_in, covers}

-- one edge, or the entry of an own method
pub data Next (c : Class) (rules : Rules) (k : Point) : Point → Type 0 where
  edge : (m : Method) (p : Placed) (i : ℕ) (y : Node) → StandsAt c k.method k.node.place m p → slice_get (successors c.view (rules k.method) p k.node) i ≡ Some y
      → Next c rules k (record { method = k.method; node = y })
  entry : (m n : Method) (p : Placed) (callee : ℕ) → StandsAt c k.method k.node.place m p → call_of c.view p.instruction ≡ Some callee → slice_get c.methods callee ≡ Some n
      → Next c rules k (record { method = callee; node = callee_node c rules callee n p k.node })

pub data Reached (c : Class) (rules : Rules) (k : Point) : Point → Type 0 where
  here : Reached c rules k k
  onward : {x y : Point} → Reached c rules k x → Next c rules x y → Reached c rules k y

-- `IsCircle` holds if from the start a point is reached that leads back to itself
pub record IsCircle (c : Class) (rules : Rules) (start : Point) : Type 0 where
  pub on : Point
  pub next : Point
  pub there : Reached c rules start on
  pub step : Next c rules on next
  pub back : Reached c rules next on

abbrev pub IsElsewhere : Point → List Point → Type 0
IsElsewhere k [] = Unit {0}
IsElsewhere k (x ∷ xs) = (k ≡ x → ⊥) × IsElsewhere k xs

-- `AreReached` holds if the points are reached from the start, and no two are equal
abbrev pub AreReached : Class → Rules → Point → List Point → Type 0
AreReached c rules start [] = Unit {0}
AreReached c rules start (x ∷ xs) = Reached c rules start x × IsElsewhere x xs × AreReached c rules start xs

-- the number of local variables and operands of all points
abbrev pub values_in : List Point → ℕ
values_in [] = 0
values_in (k ∷ ks) = (length k.node.locals + length k.node.operands) + values_in ks

abbrev pub CertificatesExclude : Type 0
CertificatesExclude =
    (c : Class) (rules : Rules) (start : Point) (ks : List Point) → covers c rules ks ≡ true → is_in start ks ≡ true
    → (IsCircle c rules start → ⊥) × ((xs : List Point) → AreReached c rules start xs → (length xs ≤ length ks) × (values_in xs ≤ values_in ks))
