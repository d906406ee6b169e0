-- A point that is added keeps what is true of the points that were found.
use Rattle.std.proofs.Common.{◌≡◌, ℕ, zero, suc, ◌+◌, ◌<◌, ◌≤◌, List, [], ◌∷◌, ◌++◌, length, map, min, Option, Some, None, ◌⊎◌, inl, inr, refl, sym, ap, ◌∙◌, subst, arith}
use Rattle.std.specs.Prelude.{slice_get}
use Rattle.std.specs.BTreeMap.{BTreeMap}
use Rattle.std.proofs.lemmas.List.{length-append, length-map}
use Rattle.std.proofs.lemmas.Option.{slice_get_within}
use Rattle.typecheck.specs.Typing.{Class}
use Rattle.typecheck.specs.declared.typed.Typed.{Typed}
use Rattle.unrolled.specs.Rules.{Rules}
use Rattle.unrolled.specs.Certificates.{Point}
use Rattle.unrolled.specs.Circles.{Reached, IsElsewhere, AreReached, values_in}
use Rattle.search.specs.declared.point.Point as plain
use Rattle.search.specs.Seen.{known_seen}
use Rattle.search.specs.Points.{point_seen, newest_first, number_in, IsNumber, AreNumbers}
use Rattle.search.specs.Orders.{AreBelow}
use Rattle.search.proofs.Numbering.{newest, found_still}
use Rattle.loop_bounds.specs.Methods.{HasNumber}
use Rattle.loop_bounds.specs.Found.{points_seen, EachIsReached, EachHasMethod, greatest_count, Grows}
use Rattle.loop_bounds.specs.Graphs.{AreLinked}
use Rattle.loop_bounds.proofs.Lists.{map_more, mapped_at, yielded_at, operand_count}
use Rattle.loop_bounds.proofs.Limits.{values_more}

seen_either : (ps : List Point) (k y : Point) (i : ℕ) → slice_get (ps ++ k ∷ []) i ≡ Some y → (slice_get ps i ≡ Some y) ⊎ (k ≡ y)
seen_either [] k y zero e = inr cc
seen_either [] k y (suc i) e = absurd cc
seen_either (x ∷ ps) k y zero e = inl e
seen_either (x ∷ ps) k y (suc i) e = seen_either ps k y i e

new_or_old : (ps new : List plain.Point) (k : plain.Point) (y : Point) (i : ℕ) → new ≡ ps ++ k ∷ [] → slice_get (points_seen new) i ≡ Some y → (slice_get (points_seen ps) i ≡ Some y) ⊎ (point_seen k ≡ y)
new_or_old ps new k y i is e = seen_either (points_seen ps) (point_seen k) y i (sym (ap (λ (l : List Point). slice_get l i) (ap points_seen is ∙ map_more point_seen ps k)) ∙ e)

pub elsewhere : (numbers : BTreeMap plain.Point ℕ) (ps : List plain.Point) (k : plain.Point) → AreNumbers numbers ps → number_in numbers k ≡ None → IsElsewhere (point_seen k) (newest_first ps)
elsewhere numbers ps k are e = subst (IsNumber k ps) e (are k)

pub numbered_at : (numbers : BTreeMap plain.Point ℕ) (ps : List plain.Point) (k : plain.Point) (n : ℕ) → AreNumbers numbers ps → number_in numbers k ≡ Some n → slice_get (points_seen ps) n ≡ Some (point_seen k)
numbered_at numbers ps k n are e = subst (IsNumber k ps) e (are k)

pub grows_added : (ps new : List plain.Point) (k : plain.Point) → new ≡ ps ++ k ∷ [] → IsElsewhere (point_seen k) (newest_first ps) → Grows ps new (point_seen k ∷ [])
grows_added ps new k is apart = record {
  longer = let size = ap length is ∙ length-append ps (k ∷ []) in omega (arith, size);
  kept = λ i y e. ap (λ (l : List plain.Point). slice_get (points_seen l) i) is ∙ found_still ps k i y e;
  methods = λ rows has old i y e. pick_method rows has old i y (new_or_old ps new k y i is e);
  each = λ c rules start reached old i y e. pick_reached c rules start reached old i y (new_or_old ps new k y i is e);
  apart = λ c rules start reached old. subst (λ (l : List Point). AreReached c rules start l) (sym (ap newest_first is ∙ newest ps k)) (reached 0 (point_seen k) refl, apart, old);
}
  where
    pick_method : (rows : List Typed) → EachHasMethod rows (point_seen k ∷ []) → EachHasMethod rows (points_seen ps) → (i : ℕ) (y : Point) → (slice_get (points_seen ps) i ≡ Some y) ⊎ (point_seen k ≡ y) → HasNumber rows y.method
    pick_method rows has old i y (inl e) = old i y e
    pick_method rows has old i y (inr e) = has 0 y (ap (λ z. Some z) e)

    pick_reached : (c : Class) (rules : Rules) (start : Point) → EachIsReached c rules start (point_seen k ∷ []) → EachIsReached c rules start (points_seen ps) → (i : ℕ) (y : Point)
        → (slice_get (points_seen ps) i ≡ Some y) ⊎ (point_seen k ≡ y) → Reached c rules start y
    pick_reached c rules start reached old i y (inl e) = old i y e
    pick_reached c rules start reached old i y (inr e) = reached 0 y (ap (λ z. Some z) e)

pub grows_none : (ps : List plain.Point) (ys : List Point) → Grows ps ps ys
grows_none ps ys = record {
  longer = omega arith;
  kept = λ i y e. e;
  methods = λ rows has old. old;
  each = λ c rules start reached old. old;
  apart = λ c rules start reached old. old;
}

one_of : {P : Point → Type 0} (ys : List Point) (i : ℕ) (k : Point) → slice_get ys i ≡ Some k → ((n : ℕ) (y : Point) → slice_get ys n ≡ Some y → P y) → (n : ℕ) (y : Point) → slice_get (k ∷ []) n ≡ Some y → P y
one_of {P} ys i k e all zero y f = let same : k ≡ y = cc in subst P same (all i k e)
one_of ys i k e all (suc n) y f = absurd cc

-- one more of the points is added
pub grows_more : (a b c : List plain.Point) (ys : List Point) (i : ℕ) (k : Point) → Grows a b ys → slice_get ys i ≡ Some k → Grows b c (k ∷ []) → Grows a c ys
grows_more a b c ys i k first e second = record {
  longer = let l = first.longer in let m = second.longer in omega (arith, l, m);
  kept = λ n y f. second.kept n y (first.kept n y f);
  methods = λ rows has old. second.methods rows (one_of ys i k e has) (first.methods rows has old);
  each = λ d rules start reached old. second.each d rules start (one_of ys i k e reached) (first.each d rules start reached old);
  apart = λ d rules start reached old. second.apart d rules start (one_of ys i k e reached) (first.apart d rules start reached old);
}

-- ---- the values

pub values_added : (ps new : List plain.Point) (k : plain.Point) (old now : ℕ) → new ≡ ps ++ k ∷ [] → old ≡ min (values_in (points_seen ps)) greatest_count
    → now ≡ min (old + (length k.node.locals.items + length k.node.operands.items)) greatest_count → now ≡ min (values_in (points_seen new)) greatest_count
values_added ps new k old now is e f =
    let all : values_in (points_seen new) ≡ values_in (points_seen ps) + (length (point_seen k).node.locals + length (point_seen k).node.operands) =
    ap values_in (ap points_seen is ∙ map_more point_seen ps k) ∙ values_more (points_seen ps) (point_seen k) in
    let locals : length (point_seen k).node.locals ≡ length k.node.locals.items = length-map k.node.locals.items known_seen in
    let operands : length (point_seen k).node.operands ≡ length k.node.operands.items = operand_count k.node.operands.items in
    omega (arith, all, locals, operands, e, f)

-- ---- links

pub linked_still : (old new : List Point) (l : List ℕ) (ys : List Point) → ((i : ℕ) (y : Point) → slice_get old i ≡ Some y → slice_get new i ≡ Some y) → AreLinked old l ys → AreLinked new l ys
linked_still old new [] [] kept e = refl
linked_still old new [] (y ∷ ys) kept e = absurd cc
linked_still old new (n ∷ l) [] kept e = absurd cc
linked_still old new (n ∷ l) (y ∷ ys) kept e =
    let one : slice_get old n ≡ Some y = cc in
    let rest : map (slice_get old) l ≡ map (λ z. Some z) ys = cc in
    ap (λ (o : Option Point). o ∷ map (slice_get new) l) (kept n y one) ∙ ap (λ (os : List (Option Point)). Some y ∷ os) (linked_still old new l ys kept rest)

pub linked_more : (old new : List Point) (l next : List ℕ) (ys : List Point) (n : ℕ) (k : Point) → ((i : ℕ) (y : Point) → slice_get old i ≡ Some y → slice_get new i ≡ Some y)
    → AreLinked old l ys → slice_get new n ≡ Some k → next ≡ l ++ n ∷ [] → AreLinked new next (ys ++ k ∷ [])
linked_more old new l next ys n k kept so_far e is =
    ap (map (slice_get new)) is ∙ map_more (slice_get new) l n ∙ ap (λ (o : Option Point). map (slice_get new) l ++ o ∷ []) e
    ∙ ap (λ (os : List (Option Point)). os ++ Some k ∷ []) (linked_still old new l ys kept so_far) ∙ sym (map_more (λ y. Some y) ys k)

pub below_more : (m n : ℕ) (l next : List ℕ) (q : ℕ) → m ≤ n → AreBelow m l → q < n → next ≡ l ++ q ∷ [] → AreBelow n next
below_more m n l next q le below low is = subst (AreBelow n) (sym is) (go l below)
  where
    go : (l : List ℕ) → AreBelow m l → AreBelow n (l ++ q ∷ [])
    go [] b = (low, tt)
    go (x ∷ l) b = let one = b.0 in (omega (arith, one, le), go l b.1)

pub added_at : (ps new : List plain.Point) (k : plain.Point) (n : ℕ) → new ≡ ps ++ k ∷ [] → n ≡ length ps → slice_get (points_seen new) n ≡ Some (point_seen k)
added_at ps new k n is e = ap (slice_get (points_seen new)) e ∙ mapped_at point_seen new (length ps) k (yielded_at ps (k ∷ []) [] new k (sym is) refl)

pub below_length : (ps : List plain.Point) (n : ℕ) (y : Point) → slice_get (points_seen ps) n ≡ Some y → n < length ps
below_length ps n y e =
    let low : n < length (points_seen ps) = slice_get_within (points_seen ps) n y e in
    let size : length (points_seen ps) ≡ length ps = length-map ps point_seen in
    omega (arith, low, size)
