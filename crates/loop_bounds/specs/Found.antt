-- The points that a search has found.
use Rattle.std.specs.Prelude.{◌≡◌, ℕ, ◌≤◌, min, List, map, Some, slice_get, length}
use Rattle.typecheck.specs.Typing.{Class}
use Rattle.typecheck.specs.declared.typed.Typed.{Typed}
use Rattle.unrolled.specs.Rules.{Rules}
use Rattle.unrolled.specs.Certificates.{Point}
use Rattle.unrolled.specs.Circles.{Reached, AreReached, values_in}
use Rattle.search.specs.declared.point.Point as plain
use Rattle.search.specs.Points.{point_seen, newest_first, AreNumbers}
use Rattle.loop_bounds.specs.declared.found.Found.{Found}
use Rattle.loop_bounds.specs.Methods.{HasNumber}

abbrev pub points_seen : List plain.Point → List Point
points_seen ps = map point_seen ps

-- `EachIsReached c rules start ps` holds if each of the points is reached
abbrev pub EachIsReached : Class → Rules → Point → List Point → Type 0
EachIsReached c rules start ps = (i : ℕ) (y : Point) → slice_get ps i ≡ Some y → Reached c rules start y

-- `EachHasMethod rows ps` holds if the method of each of the points is among the typed ones
abbrev pub EachHasMethod : List Typed → List Point → Type 0
EachHasMethod rows ps = (i : ℕ) (y : Point) → slice_get ps i ≡ Some y → HasNumber rows y.method

-- the greatest number of values that the search counts
abbrev pub greatest_count : ℕ
greatest_count = 18_446_744_073_709_551_615

-- `IsFound found` holds if each point has its index as its number, and the values are counted, saturated
pub record IsFound (found : Found) : Type 0 where
  pub numbers : AreNumbers found.numbers found.points.items
  pub values : found.values ≡ min (values_in (points_seen found.points.items)) greatest_count

-- `Grows old new ys` holds if points were added that are among `ys`
pub record Grows (old new : List plain.Point) (ys : List Point) : Type 0 where
  pub longer : length old ≤ length new
  pub kept : (i : ℕ) (y : Point) → slice_get (points_seen old) i ≡ Some y → slice_get (points_seen new) i ≡ Some y
  pub methods : (rows : List Typed) → EachHasMethod rows ys → EachHasMethod rows (points_seen old) → EachHasMethod rows (points_seen new)
  pub each : (c : Class) (rules : Rules) (start : Point) → EachIsReached c rules start ys → EachIsReached c rules start (points_seen old) → EachIsReached c rules start (points_seen new)
  pub apart : (c : Class) (rules : Rules) (start : Point) → EachIsReached c rules start ys → AreReached c rules start (newest_first old) → AreReached c rules start (newest_first new)
