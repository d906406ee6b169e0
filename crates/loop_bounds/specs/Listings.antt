-- The nodes of a class, listed in order and with their costs, and what the search answers.
use Rattle.std.specs.Prelude.{◌≡◌, ℕ, List, [], ◌∷◌, reverse, length, Option, Some, None, slice_get}
use Rattle.typecheck.specs.Typing.{Method, Class}
use Rattle.typecheck.specs.declared.typed.Typed.{Typed}
use Rattle.bounds.specs.Paths.{Cost}
use Rattle.bounds.specs.Table.{bounds_of}
use Rattle.bounds.specs.Cells.{Cell, capped, cell_at}
use Rattle.unrolled.specs.Rules.{rules_of}
use Rattle.unrolled.specs.Paths.{start_node, AreBounds}
use Rattle.unrolled.specs.Certificates.{Point}
use Rattle.unrolled.specs.Circles.{IsCircle}
use Rattle.unrolled.specs.Limits.{start_point, IsUnrolled, IsTooLarge}
use Rattle.search.specs.Orders.{Links, IsAmong, AreDistinct, AreBelow, IsOrder, IsCircleIn}
use Rattle.loop_bounds.specs.declared.listing.Listing as declared
use Rattle.loop_bounds.specs.declared.listing.Answer.{Answer}
use Rattle.loop_bounds.specs.declared.listing.Answer.TheVariants as answer
use Rattle.loop_bounds.specs.Nexts.{ReachesDeadEnd}
use Rattle.loop_bounds.specs.Found.{points_seen}
use Rattle.loop_bounds.specs.Tables.{AreCosts}

abbrev pub with_point : Option Point → List Point → List Point
with_point None ks = ks
with_point (Some k) ks = k ∷ ks

-- the points with these numbers
abbrev pub listed : List Point → List ℕ → List Point
listed ps [] = []
listed ps (n ∷ ns) = with_point (slice_get ps n) (listed ps ns)

-- the certificate: the points with the one that is done last first, so that each comes before those that it leads to
abbrev pub certificate : declared.Listing → List Point
certificate l = listed (points_seen l.points.items) (reverse l.order.items)

-- what the search for an order answers
pub record IsOrdered (g : Links) (order : List ℕ) : Type 0 where
  pub rises : IsOrder g (reverse order)
  pub below : AreBelow (length g) (reverse order)
  pub start : IsAmong (reverse order) 0
  pub distinct : AreDistinct (reverse order)

-- `HasCost c j m x` holds if `x` is the maximum of all paths from the start of method `j`, which is `m`, saturated at 32 bits
abbrev pub HasCost : Class → ℕ → Method → Cell → Type 0
HasCost c j m x = (k : Cost) × AreBounds c (rules_of c) j (start_node (rules_of c) j m) (bounds_of k) × (x ≡ capped k)

-- `IsAnswer c j m a` holds if the answer is about method `j`, which is `m`: a certificate with the method's start, and its cost;
-- a circle; more points or values than the limits; or a dead end, which a well-typed class doesn't have
abbrev pub IsAnswer : Class → ℕ → Method → Answer → Type 0
IsAnswer c j m (answer.Listed l) = IsUnrolled c j m (certificate l) × HasCost c j m (cell_at l.costs.items 0)
IsAnswer c j m answer.Circle = IsCircle c (rules_of c) (start_point c j m)
IsAnswer c j m answer.TooLarge = IsTooLarge c j m
IsAnswer c j m answer.DeadEnd = ReachesDeadEnd c (rules_of c) (start_point c j m)

-- the same of what is reached, given its graph: a circle of numbers; or an order of them, and the costs by number
abbrev pub IsConclusion : List Typed → List Point → Links → Answer → Type 0
IsConclusion rows ps g (answer.Listed l) = (points_seen l.points.items ≡ ps) × IsOrdered g l.order.items × AreCosts rows ps g (reverse l.order.items) l.costs.items
IsConclusion rows ps g answer.Circle = IsCircleIn g 0
IsConclusion rows ps g answer.TooLarge = ⊥
IsConclusion rows ps g answer.DeadEnd = ⊥
