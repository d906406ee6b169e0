-- Points of the code, and their numbers.
use Rattle.std.specs.Prelude.{◌≡◌, ℕ, List, map, reverse, slice_get, Option, Some, None}
use Rattle.std.specs.BTreeMap.{BTreeMap, get}
use Rattle.search.specs.declared.point.Point as plain
use Rattle.search.specs.contracts.point.PointOrd.TheImpl as point_ord
use Rattle.unrolled.specs.Certificates.{Point}
use Rattle.unrolled.specs.Circles.{IsElsewhere}
use Rattle.search.specs.Seen.{node_seen}

abbrev pub point_seen : plain.Point → Point
point_seen k = record { method = k.method; node = node_seen k.node }

-- the points with the one found last first
abbrev pub newest_first : List plain.Point → List Point
newest_first points = map point_seen (reverse points)

abbrev pub number_in : BTreeMap plain.Point ℕ → plain.Point → Option ℕ
number_in numbers k = get ((point_ord.ghosts).cmp) numbers k

abbrev pub IsNumber : plain.Point → List plain.Point → Option ℕ → Type 0
IsNumber k points None = IsElsewhere (point_seen k) (newest_first points)
IsNumber k points (Some n) = slice_get (map point_seen points) n ≡ Some (point_seen k)

-- `AreNumbers numbers points` holds if `numbers` has the index of each of the points, and no other point
abbrev pub AreNumbers : BTreeMap plain.Point ℕ → List plain.Point → Type 0
AreNumbers numbers points = (k : plain.Point) → IsNumber k points (number_in numbers k)
