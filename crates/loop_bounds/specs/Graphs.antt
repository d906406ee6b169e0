-- The graph of the points that are reached: each with the numbers of the points after it.
use Rattle.std.specs.Prelude.{◌≡◌, ℕ, ◌<◌, ◌≤◌, ◌⊎◌, Bool, true, List, map, length, Some, slice_get}
use Rattle.typecheck.specs.Typing.{Class}
use Rattle.typecheck.specs.declared.typed.Typed.{Typed}
use Rattle.unrolled.specs.Rules.{Rules, rules_of}
use Rattle.unrolled.specs.Certificates.{Point}
use Rattle.unrolled.specs.Circles.{AreReached, values_in}
use Rattle.unrolled.specs.Limits.{node_limit, value_limit}
use Rattle.search.specs.declared.node.Following.{Following}
use Rattle.search.specs.declared.point.Point as plain
use Rattle.search.specs.Followed.{AreFollowings}
use Rattle.search.specs.Orders.{Links, links_at, items_of, AreLinks}
use Rattle.search.specs.Points.{newest_first}
use Rattle.loop_bounds.specs.declared.found.Found.{Found}
use Rattle.loop_bounds.specs.declared.explore.Explored.{Explored}
use Rattle.loop_bounds.specs.declared.explore.Explored.TheVariants.{Whole, DeadEnd, TooLarge}
use Rattle.loop_bounds.specs.Methods.{AreMethodsOf}
use Rattle.loop_bounds.specs.Nexts.{AreNexts, ReachesDeadEnd}
use Rattle.loop_bounds.specs.Found.{points_seen, EachIsReached, EachHasMethod, IsFound}

-- `AreLinked ps l ys` holds if the numbers are those of the points `ys`
abbrev pub AreLinked : List Point → List ℕ → List Point → Type 0
AreLinked ps l ys = map (slice_get ps) l ≡ map (λ y. Some y) ys

-- `IsExpanded c rules ps k l` holds if `l` has the numbers of the points after `k`
abbrev pub IsExpanded : Class → Rules → List Point → Point → List ℕ → Type 0
IsExpanded c rules ps k l = (ys : List Point) × AreNexts c rules k ys × AreLinked ps l ys

-- the same for each of the first points, as many as there are links
abbrev pub AreExpanded : Class → Rules → List Point → Links → Type 0
AreExpanded c rules ps g = (i : ℕ) (k : Point) → i < length g → slice_get ps i ≡ Some k → IsExpanded c rules ps k (links_at g i)

-- `IsGraph c rules start points g` holds if the points are reached from the start and no two are equal, and the first ones, as many as there are
-- links, are expanded
pub record IsGraph (c : Class) (rules : Rules) (start : Point) (points : List plain.Point) (g : Links) : Type 0 where
  pub each : EachIsReached c rules start (points_seen points)
  pub apart : AreReached c rules start (newest_first points)
  pub expanded : AreExpanded c rules (points_seen points) g

-- the same for each class that the methods are of
abbrev pub AreGraphsOf : List Typed → List Following → Point → List plain.Point → Links → Type 0
AreGraphsOf rows fs start points g = (c : Class) → AreMethodsOf c rows → AreFollowings rows fs → IsGraph c (rules_of c) start points g

-- The state of the search.
pub record IsExploring (rows : List Typed) (fs : List Following) (start : Point) (found : Found) (g : Links) : Type 0 where
  pub sound : IsFound found
  pub methods : EachHasMethod rows (points_seen found.points.items)
  pub links : AreLinks (length found.points.items) g
  pub most : length g ≤ length found.points.items
  pub first : slice_get (points_seen found.points.items) 0 ≡ Some start
  pub graph : AreGraphsOf rows fs start found.points.items g

-- ---- the result

-- `IsWithin limited points` holds if there are no more points and values than the limits
pub record IsWithin (limited : Bool) (points : List plain.Point) : Type 0 where
  pub nodes : limited ≡ true → length points ≤ node_limit
  pub values : limited ≡ true → values_in (points_seen points) ≤ value_limit

pub record IsWhole (rows : List Typed) (fs : List Following) (limited : Bool) (start : Point) (points : List plain.Point) (g : Links) : Type 0 where
  pub methods : EachHasMethod rows (points_seen points)
  pub links : AreLinks (length g) g
  pub size : length g ≡ length points
  pub first : slice_get (points_seen points) 0 ≡ Some start
  pub within : IsWithin limited points
  pub graph : AreGraphsOf rows fs start points g

-- `ReachesMore c rules start` holds if more points or values than a limit are reached
abbrev pub ReachesMore : Class → Rules → Point → Type 0
ReachesMore c rules start = (xs : List Point) × AreReached c rules start xs × ((node_limit < length xs) ⊎ (value_limit < values_in xs))

abbrev pub ReachesDeadEndIn : List Typed → List Following → Point → Type 0
ReachesDeadEndIn rows fs start = (c : Class) → AreMethodsOf c rows → AreFollowings rows fs → ReachesDeadEnd c (rules_of c) start

abbrev pub IsExplored : List Typed → List Following → Bool → Point → Explored → Type 0
IsExplored rows fs limited start (Whole points links) = IsWhole rows fs limited start points.items (items_of links.items)
IsExplored rows fs limited start DeadEnd = ReachesDeadEndIn rows fs start
IsExplored rows fs limited start TooLarge = (limited ≡ true) × ((c : Class) → AreMethodsOf c rows → AreFollowings rows fs → ReachesMore c (rules_of c) start)
