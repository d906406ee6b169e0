-- An order of the points that are reached is a certificate, and a circle of their numbers is a circle of points.
use Rattle.std.proofs.Common.{◌≡◌, ℕ, zero, suc, ◌<◌, Bool, true, false, ◌&&◌, ◌||◌, List, [], ◌∷◌, ◌++◌, length, map, Option, Some, None, ◌⊎◌, inl, inr, refl, sym, ap, ◌∙◌, subst, arith, eqb, eq-eqb}
use Rattle.std.specs.Prelude.{slice_get}
use Rattle.std.proofs.lemmas.Bool.Decides.{Decides-int_eq}
use Rattle.std.proofs.lemmas.Option.{slice_get_within}
use Rattle.decode.specs.declared.instruction.Placed.{Placed}
use Rattle.typecheck.specs.Typing.{Method, Class, call_of}
use Rattle.bounds.specs.Paths.{StandsAt}
use Rattle.unrolled.specs.Known.{Known, Wide, Narrow, Number, Count, Sized, Arguments}
use Rattle.unrolled.specs.Graph.{Node, successors}
use Rattle.unrolled.specs.Rules.{Rules}
use Rattle.unrolled.specs.Paths.{callee_node}
use Rattle.unrolled.specs.Certificates.{Point, same_known, all_same, same_node, same_point, is_in, all_in, method_in, callee_in, checks_at, checks_in, checks_of, checks, covers}
use Rattle.unrolled.specs.Circles.{Next, edge, entry, Reached, here, onward, IsCircle}
use Rattle.unrolled.proofs.Lists.{in_parts, unmapped}
use Rattle.search.specs.Orders.{Links, links_at, IsAmong, AreAmong, AreBelow, IsOrder, Leads, IsCircleIn}
use Rattle.search.specs.Orders as orders
use Rattle.loop_bounds.specs.Nexts.{at_node, start_in, own_start, nexts_at, HasCallee, AreNexts}
use Rattle.loop_bounds.specs.Graphs.{AreLinked, AreExpanded}
use Rattle.loop_bounds.specs.Listings.{with_point, listed}

-- ---- a point is equal to itself

known_itself : (a : Known) → same_known a a ≡ true
known_itself Wide = refl
known_itself Narrow = refl
known_itself (Number a) = (Decides-int_eq a a).1 refl
known_itself Count = refl
known_itself (Sized a) = eq-eqb a a refl
known_itself Arguments = refl

both_true : (a b : Bool) → a ≡ true → b ≡ true → (a && b) ≡ true
both_true true true e f = refl
both_true true false e f = absurd cc
both_true false b e f = absurd cc

left_true : (a b : Bool) → a ≡ true → (a || b) ≡ true
left_true true b e = refl
left_true false b e = absurd cc

right_true : (a b : Bool) → b ≡ true → (a || b) ≡ true
right_true true b e = refl
right_true false b e = e

all_itself : (ks : List Known) → all_same ks ks ≡ true
all_itself [] = refl
all_itself (k ∷ ks) = both_true (same_known k k) (all_same ks ks) (known_itself k) (all_itself ks)

node_itself : (x : Node) → same_node x x ≡ true
node_itself x =
    both_true (eqb x.place x.place) (all_same x.locals x.locals && all_same x.operands x.operands) (eq-eqb x.place x.place refl)
    (both_true (all_same x.locals x.locals) (all_same x.operands x.operands) (all_itself x.locals) (all_itself x.operands))

point_itself : (k : Point) → same_point k k ≡ true
point_itself k = both_true (eqb k.method k.method) (same_node k.node k.node) (eq-eqb k.method k.method refl) (node_itself k.node)

-- ---- the points with given numbers

in_more : (k : Point) (o : Option Point) (ks : List Point) → is_in k ks ≡ true → is_in k (with_point o ks) ≡ true
in_more k None ks e = e
in_more k (Some x) ks e = left_true (is_in k ks) (same_point k x) e

pub in_listed : (ps : List Point) (ns : List ℕ) (n : ℕ) (k : Point) → IsAmong ns n → slice_get ps n ≡ Some k → is_in k (listed ps ns) ≡ true
in_listed ps [] n k h e = absurd h
in_listed ps (m ∷ ns) n k (inl same) e =
    subst (λ (o : Option Point). is_in k (with_point o (listed ps ns)) ≡ true) (sym (ap (slice_get ps) same ∙ e)) (right_true (is_in k (listed ps ns)) (same_point k k) (point_itself k))
in_listed ps (m ∷ ns) n k (inr h) e = in_more k (slice_get ps m) (listed ps ns) (in_listed ps ns n k h e)

abbrev AllIn : List Point → List Point → Type 0
AllIn [] later = Unit {0}
AllIn (y ∷ ys) later = (is_in y later ≡ true) × AllIn ys later

linked_in : (ps : List Point) (l : List ℕ) (ys : List Point) (ns : List ℕ) → AreLinked ps l ys → AreAmong l ns → AllIn ys (listed ps ns)
linked_in ps [] [] ns e h = tt
linked_in ps [] (y ∷ ys) ns e h = absurd cc
linked_in ps (q ∷ l) [] ns e h = absurd cc
linked_in ps (q ∷ l) (y ∷ ys) ns e h =
    let one : slice_get ps q ≡ Some y = cc in
    let rest : map (slice_get ps) l ≡ map (λ z. Some z) ys = cc in
    (in_listed ps ns q y h.0 one, linked_in ps l ys ns rest h.1)

in_first : (xs ys later : List Point) → AllIn (xs ++ ys) later → AllIn xs later
in_first [] ys later h = tt
in_first (x ∷ xs) ys later h = (h.0, in_first xs ys later h.1)

in_second : (xs ys later : List Point) → AllIn (xs ++ ys) later → AllIn ys later
in_second [] ys later h = h
in_second (x ∷ xs) ys later h = in_second xs ys later h.1

nodes_in : (j : ℕ) (ys : List Node) (later : List Point) → AllIn (map (at_node j) ys) later → all_in j ys later ≡ true
nodes_in j [] later h = refl
nodes_in j (y ∷ ys) later h = both_true (is_in (at_node j y) later) (all_in j ys later) h.0 (nodes_in j ys later h.1)

module _ (c : Class) (rules : Rules) where
  callee_is_in : (p : Placed) (x : Node) (o : Option ℕ) (later : List Point) → HasCallee c o → AllIn (own_start c rules p x o) later → callee_in c rules p x o later ≡ true
  callee_is_in p x None later has h = refl
  callee_is_in p x (Some k) later has h = go (slice_get c.methods k) has.1 h
    where
      go : (o : Option Method) → o ≡ Some has.0 → AllIn (start_in c rules p x k o) later → method_in k rules c p x o later ≡ true
      go None e h = absurd cc
      go (Some n) e h = h.0

  checks_all : (k : Point) (ys later : List Point) → AreNexts c rules k ys → AllIn ys later → checks c rules k later ≡ true
  checks_all k ys later are h =
      let p = are.placed in
      let every : AllIn (nexts_at c rules p k) later = subst (λ (l : List Point). AllIn l later) are.are h in
      let start : AllIn (own_start c rules p k.node (call_of c.view p.instruction)) later = in_first (own_start c rules p k.node (call_of c.view p.instruction)) _ later every in
      let nodes : AllIn (map (at_node k.method) (successors c.view (rules k.method) p k.node)) later = in_second (own_start c rules p k.node (call_of c.view p.instruction)) _ later every in
      let at : checks_at c rules k.method k.node p later ≡ true =
      both_true _ _ are.on (both_true _ _ (nodes_in k.method (successors c.view (rules k.method) p k.node) later nodes) (callee_is_in p k.node (call_of c.view p.instruction) later are.callee start)) in
      ap (λ (o : Option Method). checks_of c rules k.method k.node o later) are.stands.method
      ∙ ap (λ (o : Option Placed). checks_in c rules k.method k.node o later) are.stands.instruction ∙ at

  pub covers_listed : (ps : List Point) (g : Links) (ns : List ℕ) → length g ≡ length ps → AreExpanded c rules ps g → AreBelow (length ps) ns → IsOrder g ns → covers c rules (listed ps ns) ≡ true
  covers_listed ps g [] size are below order = refl
  covers_listed ps g (n ∷ ns) size are below order = go (covers_listed ps g ns size are below.1 order.1) (slice_get ps n) refl
    where
      go : covers c rules (listed ps ns) ≡ true → (o : Option Point) → slice_get ps n ≡ o → covers c rules (with_point o (listed ps ns)) ≡ true
      go rest None e = rest
      go rest (Some k) e =
          let low = below.0 in
          let one = are n k (omega (arith, low, size)) e in
          both_true _ _ rest (checks_all k one.0 (listed ps ns) one.1 (linked_in ps (links_at g n) one.0 ns one.2 order.0))

  -- ---- circles

  linked_one : (ps : List Point) (l : List ℕ) (ys : List Point) (q : ℕ) → AreLinked ps l ys → IsAmong l q → (i : ℕ) × (y : Point) × (slice_get ps q ≡ Some y) × (slice_get ys i ≡ Some y)
  linked_one ps [] ys q e h = absurd h
  linked_one ps (x ∷ l) [] q e h = absurd cc
  linked_one ps (x ∷ l) (y ∷ ys) q e (inl same) = (0, y, sym (ap (slice_get ps) same) ∙ cc, refl)
  linked_one ps (x ∷ l) (y ∷ ys) q e (inr h) =
      let rest : map (slice_get ps) l ≡ map (λ z. Some z) ys = cc in
      let r = linked_one ps l ys q rest h in
      (suc r.0, r.1, r.2, r.3)

  start_is_next : (k y : Point) (m : Method) (p : Placed) (o : Option ℕ) (i : ℕ) → StandsAt c k.method k.node.place m p → call_of c.view p.instruction ≡ o → slice_get (own_start c rules p k.node o) i ≡ Some y → Next c rules k y
  start_is_next k y m p None i at e h = absurd cc
  start_is_next k y m p (Some callee) i at e h = go (slice_get c.methods callee) refl h
    where
      go : (o : Option Method) → slice_get c.methods callee ≡ o → slice_get (start_in c rules p k.node callee o) i ≡ Some y → Next c rules k y
      go None f h = absurd cc
      go (Some n) f h = one i h
        where
          one : (i : ℕ) → slice_get (at_node callee (callee_node c rules callee n p k.node) ∷ []) i ≡ Some y → Next c rules k y
          one zero h = let same : at_node callee (callee_node c rules callee n p k.node) ≡ y = cc in subst (λ (z : Point). Next c rules k z) same (entry m n p callee at e f)
          one (suc i) h = absurd cc

  pub is_next : (k y : Point) (ys : List Point) (i : ℕ) → AreNexts c rules k ys → slice_get ys i ≡ Some y → Next c rules k y
  is_next k y ys i are e = go (in_parts (own_start c rules are.placed k.node (call_of c.view are.placed.instruction)) (map (at_node k.method) (successors c.view (rules k.method) are.placed k.node)) i y (ap (λ (l : List Point). slice_get l i) (sym are.are) ∙ e))
    where
      go : ((n : ℕ) × (slice_get (own_start c rules are.placed k.node (call_of c.view are.placed.instruction)) n ≡ Some y)) ⊎ ((n : ℕ) × (slice_get (map (at_node k.method) (successors c.view (rules k.method) are.placed k.node)) n ≡ Some y)) → Next c rules k y
      go (inl (n, f)) = start_is_next k y are.method are.placed (call_of c.view are.placed.instruction) n are.stands refl f
      go (inr (n, f)) =
          let r = unmapped (at_node k.method) (successors c.view (rules k.method) are.placed k.node) n y f in
          subst (λ (z : Point). Next c rules k z) r.2 (edge are.method are.placed n r.0 are.stands r.1)

  module _ (ps : List Point) (g : Links) (size : length g ≡ length ps) (are : AreExpanded c rules ps g) where
    step_of : (n q : ℕ) (k : Point) → slice_get ps n ≡ Some k → IsAmong (links_at g n) q → (y : Point) × (slice_get ps q ≡ Some y) × Next c rules k y
    step_of n q k e h =
        let low : n < length ps = slice_get_within ps n k e in
        let one = are n k (omega (arith, low, size)) e in
        let r = linked_one ps (links_at g n) one.0 q one.2 h in
        (r.1, r.2, is_next k r.1 one.0 r.0 one.1 r.3)

    leads_of : (n q : ℕ) (k : Point) → slice_get ps n ≡ Some k → Leads g n q → (y : Point) × (slice_get ps q ≡ Some y) × Reached c rules k y
    leads_of n q k e orders.here = (k, e, here)
    leads_of n q k e (orders.onward {x = x} h s) =
        let r = leads_of n x k e h in
        let t = step_of x q r.0 r.1 s in
        (t.0, t.1, onward r.2 t.2)

    pub circle_of : (start : Point) → slice_get ps 0 ≡ Some start → IsCircleIn g 0 → IsCircle c rules start
    circle_of start e r =
        let on = leads_of 0 r.on start e r.there in
        let next = step_of r.on r.next on.0 on.1 r.step in
        let back = leads_of r.next r.on next.0 next.1 r.back in
        let same : back.0 ≡ on.0 = cc (back.1, on.1) in
        record { on = on.0; next = next.0; there = on.2; step = next.2; back = subst (λ (z : Point). Reached c rules next.0 z) same back.2 }
