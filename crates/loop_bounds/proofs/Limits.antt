-- The points with different numbers are no more than all points, and neither are their values.
use Rattle.std.proofs.Common.{◌≡◌, ℕ, zero, suc, ◌+◌, ◌≤◌, List, [], ◌∷◌, ◌++◌, length, map, reverse, get_or, Option, Some, None, inl, inr, refl, ap, ◌∙◌, arith}
use Rattle.std.specs.Prelude.{slice_get, slice_set}
use Rattle.std.proofs.lemmas.List.{get_or-set_other, reverse-append}
use Rattle.unrolled.specs.Certificates.{Point}
use Rattle.unrolled.specs.Circles.{values_in}
use Rattle.search.specs.declared.point.Point as plain
use Rattle.search.specs.Points.{point_seen, newest_first}
use Rattle.search.specs.Orders.{IsAmong, AreDistinct}
use Rattle.loop_bounds.specs.Found.{points_seen}
use Rattle.loop_bounds.specs.Listings.{with_point, listed}

abbrev total : List ℕ → ℕ
total [] = 0
total (w ∷ ws) = w + total ws

abbrev sum_at : List ℕ → List ℕ → ℕ
sum_at ws [] = 0
sum_at ws (n ∷ ns) = get_or ws n 0 + sum_at ws ns

cleared : (ws : List ℕ) (n : ℕ) → get_or ws n 0 + total (slice_set ws n 0) ≡ total ws
cleared [] zero = refl
cleared [] (suc n) = refl
cleared (w ∷ ws) zero = omega arith
cleared (w ∷ ws) (suc n) = let r = cleared ws n in omega (arith, r)

other : (ws : List ℕ) (n : ℕ) (ns : List ℕ) → (IsAmong ns n → ⊥) → sum_at (slice_set ws n 0) ns ≡ sum_at ws ns
other ws n [] new = refl
other ws n (m ∷ ns) new =
    let one : get_or (slice_set ws n 0) m 0 ≡ get_or ws m 0 = get_or-set_other ws n m 0 0 (λ e. new (inl e)) in
    let rest = other ws n ns (λ h. new (inr h)) in
    omega (arith, one, rest)

no_more : (ns ws : List ℕ) → AreDistinct ns → sum_at ws ns ≤ total ws
no_more [] ws d = omega arith
no_more (n ∷ ns) ws d =
    let r = no_more ns (slice_set ws n 0) d.1 in
    let same = other ws n ns d.0 in
    let all = cleared ws n in
    omega (arith, r, same, all)

abbrev weighed : (Point → ℕ) → Option Point → ℕ
weighed f None = 0
weighed f (Some k) = f k

weight_at : (f : Point → ℕ) (ps : List Point) (n : ℕ) → get_or (map f ps) n 0 ≡ weighed f (slice_get ps n)
weight_at f [] zero = refl
weight_at f [] (suc n) = refl
weight_at f (k ∷ ps) zero = refl
weight_at f (k ∷ ps) (suc n) = weight_at f ps n

one_weighed : (f : Point → ℕ) (o : Option Point) (ks : List Point) → total (map f (with_point o ks)) ≡ weighed f o + total (map f ks)
one_weighed f None ks = omega arith
one_weighed f (Some k) ks = refl

listed_total : (f : Point → ℕ) (ps : List Point) (ns : List ℕ) → total (map f (listed ps ns)) ≡ sum_at (map f ps) ns
listed_total f ps [] = refl
listed_total f ps (n ∷ ns) =
    let one = one_weighed f (slice_get ps n) (listed ps ns) in
    let at = weight_at f ps n in
    let rest = listed_total f ps ns in
    omega (arith, one, at, rest)

few_total : (f : Point → ℕ) (ps : List Point) (ns : List ℕ) → AreDistinct ns → total (map f (listed ps ns)) ≤ total (map f ps)
few_total f ps ns d = let r = no_more ns (map f ps) d in let same = listed_total f ps ns in omega (arith, r, same)

abbrev one : Point → ℕ
one k = 1

count_total : (ks : List Point) → total (map one ks) ≡ length ks
count_total [] = refl
count_total (k ∷ ks) = let r = count_total ks in omega (arith, r)

abbrev size : Point → ℕ
size k = length k.node.locals + length k.node.operands

values_total : (ks : List Point) → total (map size ks) ≡ values_in ks
values_total [] = refl
values_total (k ∷ ks) = ap (λ n. size k + n) (values_total ks)

pub few_listed : (ps : List Point) (ns : List ℕ) → AreDistinct ns → length (listed ps ns) ≤ length ps
few_listed ps ns d =
    let r = few_total one ps ns d in
    let a = count_total (listed ps ns) in
    let b = count_total ps in
    omega (arith, r, a, b)

pub few_values : (ps : List Point) (ns : List ℕ) → AreDistinct ns → values_in (listed ps ns) ≤ values_in ps
few_values ps ns d =
    let r = few_total size ps ns d in
    let a = values_total (listed ps ns) in
    let b = values_total ps in
    omega (arith, r, a, b)

-- ---- the points in the order in which they were found

pub values_more : (xs : List Point) (k : Point) → values_in (xs ++ k ∷ []) ≡ values_in xs + size k
values_more [] k = omega arith
values_more (x ∷ xs) k = let r = values_more xs k in omega (arith, r)

map_more : (xs : List plain.Point) (k : plain.Point) → map point_seen (xs ++ k ∷ []) ≡ map point_seen xs ++ point_seen k ∷ []
map_more [] k = refl
map_more (x ∷ xs) k = ap (λ l. point_seen x ∷ l) (map_more xs k)

pub newest_values : (ps : List plain.Point) → values_in (newest_first ps) ≡ values_in (points_seen ps)
newest_values [] = refl
newest_values (p ∷ ps) =
    let turned : newest_first (p ∷ ps) ≡ newest_first ps ++ point_seen p ∷ [] = ap (map point_seen) (reverse-append (p ∷ []) ps) ∙ map_more (reverse ps) p in
    let more = values_more (newest_first ps) (point_seen p) in
    let rest = newest_values ps in
    let all = ap values_in turned in
    omega (arith, more, rest, all)

count_more : (xs : List Point) (k : Point) → length (xs ++ k ∷ []) ≡ suc (length xs)
count_more [] k = refl
count_more (x ∷ xs) k = ap suc (count_more xs k)

pub newest_count : (ps : List plain.Point) → length (newest_first ps) ≡ length ps
newest_count [] = refl
newest_count (p ∷ ps) =
    let turned : newest_first (p ∷ ps) ≡ newest_first ps ++ point_seen p ∷ [] = ap (map point_seen) (reverse-append (p ∷ []) ps) ∙ map_more (reverse ps) p in
    ap length turned ∙ count_more (newest_first ps) (point_seen p) ∙ ap suc (newest_count ps)
