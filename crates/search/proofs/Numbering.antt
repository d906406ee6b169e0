-- The order of points compares them as equal exactly if they are equal as contracts see them.
use Rattle.std.proofs.Common.{◌≡◌, ℕ, zero, suc, ◌<◌, Bool, true, false, cond, List, [], ◌∷◌, ◌++◌, length, map, reverse, Option, Some, None, refl, sym, ap, ◌∙◌, subst, arith}
use Rattle.std.specs.Prelude.{slice_get}
use Rattle.std.specs.declared.cmp.Ordering.{Ordering}
use Rattle.std.specs.declared.cmp.Ordering.TheVariants.{Less, Equal, Greater}
use Rattle.std.specs.Ordering.{nat_cmp, int_cmp, ordering_then, is_eq}
use Rattle.std.specs.Cmp.Lexicographic.{slice_cmp}
use Rattle.std.specs.BTreeMap.{BTreeMap}
use Rattle.std.proofs.lemmas.Cmp.{tied_itself, nat_cmp_total, int_cmp_total}
use Rattle.std.proofs.lemmas.Map.Lookups.{exact_unsigned, exact_signed}
use Rattle.std.proofs.lemmas.List.{reverse-append}
use Rattle.search.specs.declared.known.Known as plain_known
use Rattle.search.specs.declared.known.Known.TheVariants as variant
use Rattle.search.specs.declared.node.Node as plain_node
use Rattle.search.specs.declared.point.Point as plain
use Rattle.search.specs.contracts.known.KnownOrd.TheImpl as known_ord
use Rattle.search.specs.contracts.point.PointOrd.TheImpl as point_ord
use Rattle.unrolled.specs.Known.{Known, Wide, Narrow, Number, Count, Sized, Arguments}
use Rattle.unrolled.specs.Graph.{Node}
use Rattle.unrolled.specs.Certificates.{Point}
use Rattle.unrolled.specs.Circles.{IsElsewhere}
use Rattle.search.specs.Seen.{known_seen, operands_seen, node_seen}
use Rattle.search.specs.Points.{point_seen, newest_first, number_in, IsNumber, AreNumbers}
use Rattle.search.proofs.Entering.{in_order, operands_forgotten}

abbrev known_cmp : plain_known.Known → plain_known.Known → Ordering
known_cmp a b = (known_ord.ghosts).cmp a b

abbrev point_cmp : plain.Point → plain.Point → Ordering
point_cmp a b = (point_ord.ghosts).cmp a b

both_equal : (o p : Ordering) → ordering_then o p ≡ Equal → (o ≡ Equal) × (p ≡ Equal)
both_equal Less p e = absurd cc
both_equal Equal p e = (refl, e)
both_equal Greater p e = absurd cc

then_equal : (o p : Ordering) → o ≡ Equal → p ≡ Equal → ordering_then o p ≡ Equal
then_equal o p e f = ap (λ x. ordering_then x p) e ∙ f

-- ---- single values

known_same : (a b : plain_known.Known) → known_cmp a b ≡ Equal → known_seen a ≡ known_seen b
known_same variant.Wide variant.Wide e = refl
known_same variant.Narrow variant.Narrow e = refl
known_same (variant.Number a) (variant.Number b) e = ap (λ n. Number n) (exact_signed a b e)
known_same variant.Count variant.Count e = refl
known_same (variant.Sized a) (variant.Sized b) e = ap (λ n. Sized n) (exact_unsigned a b e)
known_same variant.Arguments variant.Arguments e = refl
known_same variant.Wide _ e = absurd cc
known_same variant.Narrow _ e = absurd cc
known_same (variant.Number a) _ e = absurd cc
known_same variant.Count _ e = absurd cc
known_same (variant.Sized a) _ e = absurd cc
known_same variant.Arguments _ e = absurd cc

known_tied : (a b : plain_known.Known) → known_seen a ≡ known_seen b → known_cmp a b ≡ Equal
known_tied variant.Wide variant.Wide e = refl
known_tied variant.Narrow variant.Narrow e = refl
known_tied (variant.Number a) (variant.Number b) e = let same : a ≡ b = cc in subst (λ n. int_cmp a n ≡ Equal) same (tied_itself int_cmp_total a)
known_tied variant.Count variant.Count e = refl
known_tied (variant.Sized a) (variant.Sized b) e = let same : a ≡ b = cc in subst (λ n. nat_cmp a n ≡ Equal) same (tied_itself nat_cmp_total a)
known_tied variant.Arguments variant.Arguments e = refl
known_tied variant.Wide _ e = absurd cc
known_tied variant.Narrow _ e = absurd cc
known_tied (variant.Number a) _ e = absurd cc
known_tied variant.Count _ e = absurd cc
known_tied (variant.Sized a) _ e = absurd cc
known_tied variant.Arguments _ e = absurd cc

-- ---- lists of them

list_same : (xs ys : List plain_known.Known) → slice_cmp known_cmp xs ys ≡ Equal → map known_seen xs ≡ map known_seen ys
list_same [] [] e = refl
list_same [] (y ∷ ys) e = absurd cc
list_same (x ∷ xs) [] e = absurd cc
list_same (x ∷ xs) (y ∷ ys) e =
    let p = both_equal (known_cmp x y) (slice_cmp known_cmp xs ys) e in
    ap (λ k. k ∷ map known_seen xs) (known_same x y p.0) ∙ ap (λ ks. known_seen y ∷ ks) (list_same xs ys p.1)

list_tied : (xs ys : List plain_known.Known) → map known_seen xs ≡ map known_seen ys → slice_cmp known_cmp xs ys ≡ Equal
list_tied [] [] e = refl
list_tied [] (y ∷ ys) e = absurd cc
list_tied (x ∷ xs) [] e = absurd cc
list_tied (x ∷ xs) (y ∷ ys) e =
    let head : known_seen x ≡ known_seen y = cc in
    let rest : map known_seen xs ≡ map known_seen ys = cc in
    then_equal (known_cmp x y) (slice_cmp known_cmp xs ys) (known_tied x y head) (list_tied xs ys rest)

same_operands : (xs ys : List plain_known.Known) → map known_seen xs ≡ map known_seen ys → operands_seen xs ≡ operands_seen ys
same_operands xs ys e = operands_forgotten (λ k. k) xs ys (e ∙ sym (all_kept (map known_seen ys))) ∙ all_kept (operands_seen ys)
  where
    all_kept : (ks : List Known) → map (λ k. k) ks ≡ ks
    all_kept [] = refl
    all_kept (k ∷ ks) = ap (λ l. k ∷ l) (all_kept ks)

same_in_order : (xs ys : List plain_known.Known) → operands_seen xs ≡ operands_seen ys → map known_seen xs ≡ map known_seen ys
same_in_order xs ys e = sym (in_order xs) ∙ ap reverse e ∙ in_order ys

-- ---- points

point_by : (j k p q : ℕ) (l m o r : List Known) → j ≡ k → p ≡ q → l ≡ m → o ≡ r
    → ◌≡◌ {A = Point} (record { method = j; node = record { place = p; locals = l; operands = o } }) (record { method = k; node = record { place = q; locals = m; operands = r } })
point_by j k p q l m o r e f g h = cc (e, f, g, h)

pub point_same : (a b : plain.Point) → point_cmp a b ≡ Equal → point_seen a ≡ point_seen b
point_same a b e =
    let p = both_equal (nat_cmp a.method b.method) (ordering_then (nat_cmp a.node.place b.node.place) (ordering_then (slice_cmp known_cmp a.node.locals.items b.node.locals.items) (slice_cmp known_cmp a.node.operands.items b.node.operands.items))) e in
    let q = both_equal (nat_cmp a.node.place b.node.place) (ordering_then (slice_cmp known_cmp a.node.locals.items b.node.locals.items) (slice_cmp known_cmp a.node.operands.items b.node.operands.items)) p.1 in
    let r = both_equal (slice_cmp known_cmp a.node.locals.items b.node.locals.items) (slice_cmp known_cmp a.node.operands.items b.node.operands.items) q.1 in
    point_by a.method b.method a.node.place b.node.place _ _ _ _ (exact_unsigned a.method b.method p.0) (exact_unsigned a.node.place b.node.place q.0)
    (list_same a.node.locals.items b.node.locals.items r.0) (same_operands a.node.operands.items b.node.operands.items (list_same a.node.operands.items b.node.operands.items r.1))

number_tied : (a b : ℕ) → a ≡ b → nat_cmp a b ≡ Equal
number_tied a b e = subst (λ n. nat_cmp a n ≡ Equal) e (tied_itself nat_cmp_total a)

pub point_tied : (a b : plain.Point) → point_seen a ≡ point_seen b → point_cmp a b ≡ Equal
point_tied a b e =
    then_equal (nat_cmp a.method b.method) _ (number_tied a.method b.method (ap (λ (k : Point). k.method) e))
    (then_equal (nat_cmp a.node.place b.node.place) _ (number_tied a.node.place b.node.place (ap (λ (k : Point). k.node.place) e))
    (then_equal (slice_cmp known_cmp a.node.locals.items b.node.locals.items) _ (list_tied a.node.locals.items b.node.locals.items (ap (λ (k : Point). k.node.locals) e))
    (list_tied a.node.operands.items b.node.operands.items (same_in_order a.node.operands.items b.node.operands.items (ap (λ (k : Point). k.node.operands) e)))))

-- ---- numbers

found_last : (xs : List plain.Point) (k : plain.Point) → slice_get (map point_seen (xs ++ k ∷ [])) (length xs) ≡ Some (point_seen k)
found_last [] k = refl
found_last (x ∷ xs) k = found_last xs k

pub found_still : (xs : List plain.Point) (k : plain.Point) (i : ℕ) (y : Point) → slice_get (map point_seen xs) i ≡ Some y → slice_get (map point_seen (xs ++ k ∷ [])) i ≡ Some y
found_still [] k i y e = absurd cc
found_still (x ∷ xs) k zero y e = e
found_still (x ∷ xs) k (suc i) y e = found_still xs k i y e

pub newest : (xs : List plain.Point) (k : plain.Point) → newest_first (xs ++ k ∷ []) ≡ point_seen k ∷ newest_first xs
newest xs k = ap (λ (l : List plain.Point). map point_seen l) (reverse-append xs (k ∷ []))

kept_number : (points : List plain.Point) (k q : plain.Point) → (point_seen q ≡ point_seen k → ⊥) → (o : Option ℕ) → IsNumber q points o → IsNumber q (points ++ k ∷ []) o
kept_number points k q ne None h = subst (λ (l : List Point). IsElsewhere (point_seen q) l) (sym (newest points k)) (ne, h)
kept_number points k q ne (Some i) h = found_still points k i (point_seen q) h

-- a point that is found last has the next number
pub numbered : (old new : BTreeMap plain.Point ℕ) (points : List plain.Point) (k key : plain.Point) (n : ℕ) → point_seen key ≡ point_seen k → length points ≡ n
    → ((q : plain.Point) → number_in new q ≡ cond (is_eq (point_cmp key q)) (Some n) (number_in old q)) → AreNumbers old points → AreNumbers new (points ++ k ∷ [])
numbered old new points k key n same size after h q = go (point_cmp key q) refl
  where
    other : (o : Ordering) → point_cmp key q ≡ o → (o ≡ Equal → ⊥) → number_in new q ≡ number_in old q → IsNumber q (points ++ k ∷ []) (number_in new q)
    other o e ne kept =
        subst (λ (x : Option ℕ). IsNumber q (points ++ k ∷ []) x) (sym kept)
        (kept_number points k q (λ is. ne (sym e ∙ point_tied key q (same ∙ sym is))) (number_in old q) (h q))

    go : (o : Ordering) → point_cmp key q ≡ o → IsNumber q (points ++ k ∷ []) (number_in new q)
    go Less e = other Less e (λ f. absurd cc) (after q ∙ ap (λ x. cond (is_eq x) (Some n) (number_in old q)) e)
    go Greater e = other Greater e (λ f. absurd cc) (after q ∙ ap (λ x. cond (is_eq x) (Some n) (number_in old q)) e)
    go Equal e =
        let found : number_in new q ≡ Some n = after q ∙ ap (λ x. cond (is_eq x) (Some n) (number_in old q)) e in
        let is : point_seen k ≡ point_seen q = sym same ∙ point_same key q e in
        subst (λ (x : Option ℕ). IsNumber q (points ++ k ∷ []) x) (sym found)
        (subst (λ m. slice_get (map point_seen (points ++ k ∷ [])) m ≡ Some (point_seen q)) size (found_last points k ∙ ap (λ y. Some y) is))
