-- The search keeps what is true of its state, and ends with the graph of all points that are reached.
use Rattle.std.proofs.Common.{◌≡◌, ℕ, zero, suc, ◌+◌, ◌<◌, ◌≤◌, Bool, true, List, [], ◌∷◌, ◌++◌, length, get_or, Some, ◌⊎◌, inl, inr, refl, sym, ap, ◌∙◌, subst, arith}
use Rattle.std.specs.Prelude.{slice_get, Vec}
use Rattle.std.specs.declared.alloc.Global.{Global}
use Rattle.std.proofs.lemmas.List.{length-append}
use Rattle.std.proofs.lemmas.Bool.{cases_lt}
use Rattle.std.proofs.lemmas.Option.{slice_get_within, slice_get-get_or}
use Rattle.typecheck.specs.Typing.{Class}
use Rattle.typecheck.specs.declared.typed.Typed.{Typed}
use Rattle.unrolled.specs.Rules.{rules_of}
use Rattle.unrolled.specs.Certificates.{Point}
use Rattle.unrolled.specs.Circles.{Reached, here, onward, values_in}
use Rattle.unrolled.specs.Limits.{node_limit, value_limit}
use Rattle.search.specs.declared.node.Following.{Following}
use Rattle.search.specs.declared.point.Point as plain
use Rattle.search.specs.Points.{point_seen, newest_first}
use Rattle.search.specs.Followed.{AreFollowings}
use Rattle.search.specs.Orders.{Links, links_at, items_of, AreBelow, AreLinks}
use Rattle.loop_bounds.specs.declared.found.Found.{Found}
use Rattle.loop_bounds.specs.Methods.{AreMethodsOf, HasNumber}
use Rattle.loop_bounds.specs.Nexts.{AreNexts, IsDeadEnd}
use Rattle.loop_bounds.specs.Found.{points_seen, EachIsReached, EachHasMethod, IsFound, Grows}
use Rattle.loop_bounds.specs.Graphs.{AreLinked, IsExpanded, IsExploring, IsWhole, ReachesMore, ReachesDeadEndIn}
use Rattle.loop_bounds.proofs.Lists.{mapped_at}
use Rattle.loop_bounds.proofs.Growth.{linked_still}
use Rattle.loop_bounds.proofs.Limits.{newest_count, newest_values}
use Rattle.loop_bounds.proofs.Certified.{is_next}

-- ---- links

pub items_more : (vs : List (Vec ℕ Global)) (v : Vec ℕ Global) → items_of (vs ++ v ∷ []) ≡ items_of vs ++ v.items ∷ []
items_more [] v = refl
items_more (w ∷ vs) v = ap (λ (g : Links). w.items ∷ g) (items_more vs v)

wider_below : (m n : ℕ) (l : List ℕ) → m ≤ n → AreBelow m l → AreBelow n l
wider_below m n [] le b = tt
wider_below m n (x ∷ l) le b = let one = b.0 in (omega (arith, one, le), wider_below m n l le b.1)

links_more : (m n : ℕ) (g : Links) (row : List ℕ) → m ≤ n → AreLinks m g → AreBelow n row → AreLinks n (g ++ row ∷ [])
links_more m n [] row le are below = (below, tt)
links_more m n (l ∷ g) row le are below = (wider_below m n l le are.0, links_more m n g row le are.1 below)

old_link : (g : Links) (row : List ℕ) (i : ℕ) → i < length g → links_at (g ++ row ∷ []) i ≡ links_at g i
old_link [] row i h = absurd (omega (arith, h))
old_link (l ∷ g) row zero h = refl
old_link (l ∷ g) row (suc i) h = old_link g row i (omega (arith, h))

new_link : (g : Links) (row : List ℕ) → links_at (g ++ row ∷ []) (length g) ≡ row
new_link [] row = refl
new_link (l ∷ g) row = new_link g row

-- ---- the steps

pub begun : (rows : List Typed) (fs : List Following) (start : Point) (found : Found) → IsFound found → Grows [] found.points.items (start ∷ []) → slice_get (points_seen found.points.items) 0 ≡ Some start
    → HasNumber rows start.method → IsExploring rows fs start found []
begun rows fs start found is grows at has = record {
  sound = is;
  methods = grows.methods rows (λ i y e. alone i y e) (λ i y e. absurd cc);
  links = tt;
  most = omega arith;
  first = at;
  graph = λ c are follow. record {
    each = grows.each c (rules_of c) start (λ i y e. itself c i y e) (λ i y e. absurd cc);
    apart = grows.apart c (rules_of c) start (λ i y e. itself c i y e) tt;
    expanded = λ i k h e. absurd (omega (arith, h));
  };
}
  where
    alone : (i : ℕ) (y : Point) → slice_get (start ∷ []) i ≡ Some y → HasNumber rows y.method
    alone zero y e = let same : start ≡ y = cc in subst (λ (z : Point). HasNumber rows z.method) same has
    alone (suc i) y e = absurd cc

    itself : (c : Class) (i : ℕ) (y : Point) → slice_get (start ∷ []) i ≡ Some y → Reached c (rules_of c) start y
    itself c zero y e = let same : start ≡ y = cc in subst (λ (z : Point). Reached c (rules_of c) start z) same here
    itself c (suc i) y e = absurd cc

-- the point that is expanded has a typed method
pub current_method : (rows : List Typed) (fs : List Following) (start : Point) (old : Found) (g : Links) (k : plain.Point) → IsExploring rows fs start old g → slice_get old.points.items (length g) ≡ Some k → HasNumber rows k.method
current_method rows fs start old g k is at = is.methods (length g) (point_seen k) (mapped_at point_seen old.points.items (length g) k at)

pub dead : (rows : List Typed) (fs : List Following) (start : Point) (old : Found) (g : Links) (k : plain.Point) → IsExploring rows fs start old g → slice_get old.points.items (length g) ≡ Some k
    → ((c : Class) → AreMethodsOf c rows → AreFollowings rows fs → HasNumber rows k.method → IsDeadEnd c (rules_of c) (point_seen k)) → ReachesDeadEndIn rows fs start
dead rows fs start old g k is at answer c are follow =
    let seen : slice_get (points_seen old.points.items) (length g) ≡ Some (point_seen k) = mapped_at point_seen old.points.items (length g) k at in
    (point_seen k, (is.graph c are follow).each (length g) (point_seen k) seen, answer c are follow (current_method rows fs start old g k is at))

pub grown : (rows : List Typed) (fs : List Following) (start : Point) (old new : Found) (g : Links) (k : plain.Point) (ys : List Point) (row : List ℕ) → IsExploring rows fs start old g → slice_get old.points.items (length g) ≡ Some k
    → ((c : Class) → AreMethodsOf c rows → AreFollowings rows fs → HasNumber rows k.method → AreNexts c (rules_of c) (point_seen k) ys) → EachHasMethod rows ys
    → IsFound new → Grows old.points.items new.points.items ys → AreLinked (points_seen new.points.items) row ys → AreBelow (length new.points.items) row
    → IsExploring rows fs start new (g ++ row ∷ [])
grown rows fs start old new g k ys row is at answer have found grows linked below =
    let longer = grows.longer in
    let within : length g < length old.points.items = slice_get_within old.points.items (length g) k at in
    let size : length (g ++ row ∷ []) ≡ length g + 1 = length-append g (row ∷ []) in
    record {
      sound = found;
      methods = grows.methods rows have is.methods;
      links = links_more (length old.points.items) (length new.points.items) g row longer is.links below;
      most = omega (arith, longer, within, size);
      first = grows.kept 0 start is.first;
      graph = λ c are follow. record {
        each = grows.each c (rules_of c) start (reached c are follow) (is.graph c are follow).each;
        apart = grows.apart c (rules_of c) start (reached c are follow) (is.graph c are follow).apart;
        expanded = λ i x h e. pick c are follow i x (omega (arith, h, size)) e (cases_lt i (length g));
      };
    }
  where
    seen : slice_get (points_seen old.points.items) (length g) ≡ Some (point_seen k)
    seen = mapped_at point_seen old.points.items (length g) k at

    nexts : (c : Class) → AreMethodsOf c rows → AreFollowings rows fs → AreNexts c (rules_of c) (point_seen k) ys
    nexts c are follow = answer c are follow (current_method rows fs start old g k is at)

    reached : (c : Class) → AreMethodsOf c rows → AreFollowings rows fs → EachIsReached c (rules_of c) start ys
    reached c are follow i y e = onward ((is.graph c are follow).each (length g) (point_seen k) seen) (is_next c (rules_of c) (point_seen k) y ys i (nexts c are follow) e)

    earlier : (c : Class) → AreMethodsOf c rows → AreFollowings rows fs → (i : ℕ) (x : Point) → i < length g → slice_get (points_seen new.points.items) i ≡ Some x → IsExpanded c (rules_of c) (points_seen new.points.items) x (links_at g i)
    earlier c are follow i x h e =
        let most = is.most in
        let there : slice_get old.points.items i ≡ Some (get_or old.points.items i k) = slice_get-get_or old.points.items i k (omega (arith, h, most)) in
        let before : slice_get (points_seen old.points.items) i ≡ Some (point_seen (get_or old.points.items i k)) = mapped_at point_seen old.points.items i (get_or old.points.items i k) there in
        let now = grows.kept i (point_seen (get_or old.points.items i k)) before in
        let same : point_seen (get_or old.points.items i k) ≡ x = cc (now, e) in
        let r = (is.graph c are follow).expanded i x h (before ∙ ap (λ z. Some z) same) in
        (r.0, r.1, linked_still (points_seen old.points.items) (points_seen new.points.items) (links_at g i) r.0 grows.kept r.2)

    last : (c : Class) → AreMethodsOf c rows → AreFollowings rows fs → (i : ℕ) (x : Point) → i ≡ length g → slice_get (points_seen new.points.items) i ≡ Some x → IsExpanded c (rules_of c) (points_seen new.points.items) x (links_at (g ++ row ∷ []) i)
    last c are follow i x h e =
        let now = grows.kept (length g) (point_seen k) seen in
        let one : slice_get (points_seen new.points.items) (length g) ≡ Some x = ap (slice_get (points_seen new.points.items)) (sym h) ∙ e in
        let same : point_seen k ≡ x = cc (now, one) in
        let link : links_at (g ++ row ∷ []) i ≡ row = ap (links_at (g ++ row ∷ [])) h ∙ new_link g row in
        subst (λ (z : Point). IsExpanded c (rules_of c) (points_seen new.points.items) z (links_at (g ++ row ∷ []) i)) same
        (subst (λ (l : List ℕ). IsExpanded c (rules_of c) (points_seen new.points.items) (point_seen k) l) (sym link) (ys, nexts c are follow, linked))

    pick : (c : Class) → AreMethodsOf c rows → AreFollowings rows fs → (i : ℕ) (x : Point) → i ≤ length g → slice_get (points_seen new.points.items) i ≡ Some x → (i < length g) ⊎ (length g ≤ i)
        → IsExpanded c (rules_of c) (points_seen new.points.items) x (links_at (g ++ row ∷ []) i)
    pick c are follow i x h e (inl l) = subst (λ (q : List ℕ). IsExpanded c (rules_of c) (points_seen new.points.items) x q) (sym (old_link g row i l)) (earlier c are follow i x l e)
    pick c are follow i x h e (inr l) = last c are follow i x (omega (arith, h, l)) e

-- ---- the ends

pub more : (rows : List Typed) (fs : List Following) (start : Point) (found : Found) (g : Links) → IsExploring rows fs start found g → (node_limit < length found.points.items) ⊎ (value_limit < found.values)
    → (c : Class) → AreMethodsOf c rows → AreFollowings rows fs → ReachesMore c (rules_of c) start
more rows fs start found g is over c are follow = (newest_first found.points.items, (is.graph c are follow).apart, go over)
  where
    go : (node_limit < length found.points.items) ⊎ (value_limit < found.values) → (node_limit < length (newest_first found.points.items)) ⊎ (value_limit < values_in (newest_first found.points.items))
    go (inl l) = let size = newest_count found.points.items in inl (omega (arith, l, size))
    go (inr l) = let size = newest_values found.points.items in let counted = is.sound.values in inr (omega (arith, l, size, counted))

pub whole : (rows : List Typed) (fs : List Following) (start : Point) (found : Found) (g : Links) (limited : Bool) → IsExploring rows fs start found g → length found.points.items ≤ length g
    → (limited ≡ true → length found.points.items ≤ node_limit) → (limited ≡ true → found.values ≤ value_limit) → IsWhole rows fs limited start found.points.items g
whole rows fs start found g limited is all nodes values =
    let most = is.most in
    let size : length g ≡ length found.points.items = omega (arith, most, all) in
    record {
      methods = is.methods;
      links = subst (λ n. AreLinks n g) (sym size) is.links;
      size = size;
      first = is.first;
      within = record { nodes = nodes; values = λ e. let v = values e in let counted = is.sound.values in omega (arith, v, counted) };
      graph = is.graph;
    }
