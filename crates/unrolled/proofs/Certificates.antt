-- A list that passes the check is a cover.
use Rattle.std.proofs.Common.{◌≡◌, ℕ, zero, suc, ◌<◌, ◌≤◌, Bool, true, false, ◌&&◌, ◌||◌, List, [], ◌∷◌, length, Option, Some, None, refl, sym, ap, ◌∙◌, subst, arith}
use Rattle.std.specs.Prelude.{slice_get, ◌==◌, if◌then◌else◌}
use Rattle.std.proofs.lemmas.Bool.{and_parts, eqb-true}
use Rattle.std.proofs.lemmas.Bool.Decides.{Decides-int_eq}
use Rattle.decode.specs.declared.instruction.Placed.{Placed}
use Rattle.decode.specs.Places.{is_return}
use Rattle.typecheck.specs.Typing.{Method, Class, instruction_at, call_of}
use Rattle.bounds.specs.Paths.{StandsAt}
use Rattle.unrolled.specs.Known.{Known, Wide, Narrow, Number, Count, Sized, Arguments}
use Rattle.unrolled.specs.Graph.{Node, successors}
use Rattle.unrolled.specs.Rules.{Rules}
use Rattle.unrolled.specs.Paths.{callee_node}
use Rattle.unrolled.specs.Cover.{IsCover}
use Rattle.unrolled.specs.Certificates.{Point, same_known, all_same, same_node, same_point, is_in, all_in, leads_on, method_in, callee_in, checks_at, checks_in, checks_of, checks, covers, rank_in, CertificatesCover}

known_is : (a b : Known) → same_known a b ≡ true → a ≡ b
known_is Wide Wide e = refl
known_is Narrow Narrow e = refl
known_is (Number a) (Number b) e = ap (λ x. Number x) ((Decides-int_eq a b).0 e)
known_is Count Count e = refl
known_is (Sized a) (Sized b) e = ap (λ x. Sized x) (eqb-true a b e)
known_is Arguments Arguments e = refl
known_is Wide _ e = cc
known_is Narrow _ e = cc
known_is (Number a) _ e = cc
known_is Count _ e = cc
known_is (Sized a) _ e = cc
known_is Arguments _ e = cc

all_is : (xs ys : List Known) → all_same xs ys ≡ true → xs ≡ ys
all_is [] [] e = refl
all_is [] (b ∷ ys) e = cc
all_is (a ∷ xs) [] e = cc
all_is (a ∷ xs) (b ∷ ys) e =
    let p = and_parts (same_known a b) (all_same xs ys) e in
    ap (λ z. z ∷ xs) (known_is a b p.0) ∙ ap (λ z. b ∷ z) (all_is xs ys p.1)

node_by : (p q : ℕ) (l k o r : List Known) → p ≡ q → l ≡ k → o ≡ r → ◌≡◌ {A = Node} (record { place = p; locals = l; operands = o }) (record { place = q; locals = k; operands = r })
node_by p q l k o r e f g = cc (e, f, g)

node_is : (x y : Node) → same_node x y ≡ true → x ≡ y
node_is x y e =
    let p = and_parts (x.place == y.place) (all_same x.locals y.locals && all_same x.operands y.operands) e in
    let q = and_parts (all_same x.locals y.locals) (all_same x.operands y.operands) p.1 in
    node_by x.place y.place x.locals y.locals x.operands y.operands (eqb-true x.place y.place p.0) (all_is x.locals y.locals q.0) (all_is x.operands y.operands q.1)

point_by : (j k : ℕ) (x y : Node) → j ≡ k → x ≡ y → ◌≡◌ {A = Point} (record { method = j; node = x }) (record { method = k; node = y })
point_by j k x y e f = cc (e, f)

pub point_is : (a b : Point) → same_point a b ≡ true → a ≡ b
point_is a b e =
    let p = and_parts (a.method == b.method) (same_node a.node b.node) e in
    point_by a.method b.method a.node b.node (eqb-true a.method b.method p.0) (node_is a.node b.node p.1)

rank_most : (k : Point) (ks : List Point) → rank_in k ks ≤ length ks
rank_most k [] = omega arith
rank_most k (x ∷ xs) = go (is_in k xs) (rank_most k xs)
  where
    go : (b : Bool) → rank_in k xs ≤ length xs → (if b then rank_in k xs else suc (length xs)) ≤ suc (length xs)
    go true l = omega (arith, l)
    go false l = omega arith

or_right : (a b : Bool) → (a || b) ≡ true → a ≡ false → b ≡ true
or_right true b e f = cc
or_right false b e f = e

or_left : (a b : Bool) → a ≡ true → (a || b) ≡ true
or_left true b e = refl
or_left false b e = cc

module _ (c : Class) (rules : Rules) where
  -- what stands later than the last one of a point
  record Last (k : Point) (ks : List Point) : Type 0 where
    later : List Point
    checked : checks c rules k later ≡ true
    rank : rank_in k ks ≡ suc (length later)
    inside : (y : Point) → is_in y later ≡ true → (is_in y ks ≡ true) × (rank_in y ks ≤ length later)

  last_of : (k : Point) (ks : List Point) → covers c rules ks ≡ true → is_in k ks ≡ true → Last k ks
  last_of k [] e h = cc
  last_of k (x ∷ xs) e h = go (last_of k xs (and_parts (covers c rules xs) (checks c rules x xs) e).0) (is_in k xs) refl
    where
      rank_here : (y : Point) → is_in y xs ≡ true → rank_in y (x ∷ xs) ≡ rank_in y xs
      rank_here y f = ap (λ b. if b then rank_in y xs else suc (length xs)) f

      go : (is_in k xs ≡ true → Last k xs) → (b : Bool) → is_in k xs ≡ b → Last k (x ∷ xs)
      go further true f =
          let r = further f in
          record {
            later = r.later;
            checked = r.checked;
            rank = rank_here k f ∙ r.rank;
            inside = λ y g. let q = r.inside y g in (or_left (is_in y xs) (same_point y x) q.0, let w = q.1 in let same = rank_here y q.0 in omega (arith, w, same));
          }
      go further false f =
          let is : k ≡ x = point_is k x (or_right (is_in k xs) (same_point k x) h f) in
          record {
            later = xs;
            checked = subst (λ (z : Point). checks c rules z xs ≡ true) (sym is) (and_parts (covers c rules xs) (checks c rules x xs) e).1;
            rank = ap (λ b. if b then rank_in k xs else suc (length xs)) f;
            inside = λ y g. (or_left (is_in y xs) (same_point y x) g, let w = rank_most y xs in let same = rank_here y g in omega (arith, w, same));
          }

  -- what a check says
  record Checked (j : ℕ) (x : Node) (later : List Point) : Type 0 where
    m : Method
    p : Placed
    at : StandsAt c j x.place m p
    is : checks_at c rules j x p later ≡ true

  checked_of : (j : ℕ) (x : Node) (later : List Point) → checks c rules (record { method = j; node = x }) later ≡ true → Checked j x later
  checked_of j x later e = go (slice_get c.methods j) refl e
    where
      at_instruction : (m : Method) → slice_get c.methods j ≡ Some m → (o : Option Placed) → instruction_at m x.place ≡ o → checks_in c rules j x o later ≡ true → Checked j x later
      at_instruction m f None g h = cc
      at_instruction m f (Some p) g h = record { m = m; p = p; at = record { method = f; instruction = g }; is = h }

      go : (o : Option Method) → slice_get c.methods j ≡ o → checks_of c rules j x o later ≡ true → Checked j x later
      go None f h = cc
      go (Some m) f h = at_instruction m f (instruction_at m x.place) refl h

  each_in : (j : ℕ) (ys : List Node) (later : List Point) (i : ℕ) (y : Node) → all_in j ys later ≡ true → slice_get ys i ≡ Some y → is_in (record { method = j; node = y }) later ≡ true
  each_in j [] later i y e f = cc
  each_in j (z ∷ ys) later zero y e f = let same : z ≡ y = cc f in subst (λ (w : Node). is_in (record { method = j; node = w }) later ≡ true) same (and_parts (is_in (record { method = j; node = z }) later) (all_in j ys later) e).0
  each_in j (z ∷ ys) later (suc i) y e f = each_in j ys later i y (and_parts (is_in (record { method = j; node = z }) later) (all_in j ys later) e).1 f

  some_way : (ys : List Node) (b : Bool) → leads_on b ys ≡ true → b ≡ false → (y : Node) × (slice_get ys 0 ≡ Some y)
  some_way ys true e f = cc
  some_way [] false e f = cc
  some_way (y ∷ ys) false e f = (y, refl)

  callee_there : (p : Placed) (x : Node) (k : ℕ) (later : List Point) → callee_in c rules p x (Some k) later ≡ true → (n : Method) × (slice_get c.methods k ≡ Some n) × (is_in (record { method = k; node = callee_node c rules k n p x }) later ≡ true)
  callee_there p x k later e = go (slice_get c.methods k) refl e
    where
      go : (o : Option Method) → slice_get c.methods k ≡ o → method_in k rules c p x o later ≡ true → (n : Method) × (slice_get c.methods k ≡ Some n) × (is_in (record { method = k; node = callee_node c rules k n p x }) later ≡ true)
      go None f h = cc
      go (Some n) f h = (n, f, h)

  module _ (ks : List Point) (passes : covers c rules ks ≡ true) where
    abbrev point : ℕ → Node → Point
    point j x = record { method = j; node = x }

    -- the check of a node inside, at its instruction
    record Found (j : ℕ) (x : Node) (p : Placed) : Type 0 where
      last : Last (point j x) ks
      is : checks_at c rules j x p last.later ≡ true

    found : (j : ℕ) (x : Node) (m : Method) (p : Placed) → is_in (point j x) ks ≡ true → StandsAt c j x.place m p → Found j x p
    found j x m p h s =
        let l = last_of (point j x) ks passes h in
        let q = checked_of j x l.later l.checked in
        let one : q.m ≡ m = cc (q.at.method, s.method) in
        let code : instruction_at m x.place ≡ Some q.p = ap (λ z. instruction_at z x.place) (sym one) ∙ q.at.instruction in
        let same : q.p ≡ p = cc (code, s.instruction) in
        record { last = l; is = subst (λ z. checks_at c rules j x z l.later ≡ true) same q.is }

    lower : (j : ℕ) (x : Node) (y : Point) (l : Last (point j x) ks) → is_in y l.later ≡ true → (is_in y ks ≡ true) × (rank_in y ks < rank_in (point j x) ks)
    lower j x y l h = let q = l.inside y h in let low = q.1 in let r = l.rank in (q.0, omega (arith, low, r))

    cover : IsCover c rules (λ j x. is_in (point j x) ks) (λ j x. rank_in (point j x) ks)
    cover = record {
      stands = λ j x h. let l = last_of (point j x) ks passes h in let q = checked_of j x l.later l.checked in (q.m, q.p, q.at);
      leads = λ j x m p h s e. let q = found j x m p h s in some_way (successors c.view (rules j) p x) (is_return p.instruction) (and_parts (leads_on (is_return p.instruction) (successors c.view (rules j) p x)) _ q.is).0 e;
      closed = λ j x y m p i h s w.
          let q = found j x m p h s in
          let both = and_parts (all_in j (successors c.view (rules j) p x) q.last.later) (callee_in c rules p x (call_of c.view p.instruction) q.last.later) (and_parts (leads_on (is_return p.instruction) (successors c.view (rules j) p x)) _ q.is).1 in
          lower j x (point j y) q.last (each_in j (successors c.view (rules j) p x) q.last.later i y both.0 w);
      calls = λ j k x m p h s e.
          let q = found j x m p h s in
          let both = and_parts (all_in j (successors c.view (rules j) p x) q.last.later) (callee_in c rules p x (call_of c.view p.instruction) q.last.later) (and_parts (leads_on (is_return p.instruction) (successors c.view (rules j) p x)) _ q.is).1 in
          let there = callee_there p x k q.last.later (subst (λ o. callee_in c rules p x o q.last.later ≡ true) e both.1) in
          let low = lower j x (point k (callee_node c rules k there.0 p x)) q.last there.2 in
          (there.0, there.1, low.0, low.1);
    }

pub certificates_cover : CertificatesCover
certificates_cover c rules ks passes = cover c rules ks passes
