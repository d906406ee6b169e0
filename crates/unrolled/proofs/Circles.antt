-- A certificate excludes circles, and more nodes and values than it has.
use Rattle.std.proofs.Common.{◌≡◌, ℕ, suc, ◌+◌, ◌<◌, ◌≤◌, Bool, true, false, ◌||◌, List, [], ◌∷◌, length, refl, sym, ap, ◌∙◌, subst, arith}
use Rattle.std.specs.Prelude.{if◌then◌else◌}
use Rattle.typecheck.specs.Typing.{Method, Class}
use Rattle.unrolled.specs.Rules.{Rules}
use Rattle.unrolled.specs.Paths.{callee_node}
use Rattle.unrolled.specs.Cover.{IsCover}
use Rattle.unrolled.specs.Certificates.{Point, same_point, is_in, covers, rank_in}
use Rattle.unrolled.specs.Circles.{Next, edge, entry, Reached, here, onward, IsCircle, IsElsewhere, AreReached, values_in, CertificatesExclude}
use Rattle.unrolled.proofs.Certificates.{point_is, certificates_cover}

-- ---- different marks of a list are no more than it has

abbrev without : Point → List Point → List Point
without k [] = []
without k (x ∷ xs) = if same_point k x then xs else x ∷ without k xs

or_parts : (a b : Bool) → (a || b) ≡ true → a ≡ false → b ≡ true
or_parts true b e f = cc
or_parts false b e f = e

one_less : (k : Point) (ks : List Point) → is_in k ks ≡ true → suc (length (without k ks)) ≡ length ks
one_less k [] e = cc
one_less k (x ∷ xs) e = go (one_less k xs) (same_point k x) e
  where
    go : (is_in k xs ≡ true → suc (length (without k xs)) ≡ length xs) → (b : Bool) → (is_in k xs || b) ≡ true → suc (length (if b then xs else x ∷ without k xs)) ≡ suc (length xs)
    go later true f = refl
    go later false f = pick (is_in k xs) later f
      where
        pick : (b : Bool) → (b ≡ true → suc (length (without k xs)) ≡ length xs) → (b || false) ≡ true → suc (suc (length (without k xs))) ≡ suc (length xs)
        pick true h g = ap suc (h refl)
        pick false h g = cc

-- the local variables and operands of one point
abbrev size : Point → ℕ
size k = length k.node.locals + length k.node.operands

values_less : (k : Point) (ks : List Point) → is_in k ks ≡ true → size k + values_in (without k ks) ≡ values_in ks
values_less k [] e = cc
values_less k (x ∷ xs) e = go (values_less k xs) (same_point k x) refl e
  where
    go : (is_in k xs ≡ true → size k + values_in (without k xs) ≡ values_in xs) → (b : Bool) → same_point k x ≡ b → (is_in k xs || b) ≡ true → size k + values_in (if b then xs else x ∷ without k xs) ≡ size x + values_in xs
    go later true same f = ap (λ (y : Point). size y + values_in xs) (point_is k x same)
    go later false same f = let l = later (in_rest (is_in k xs) f) in omega (arith, l)
      where
        in_rest : (b : Bool) → (b || false) ≡ true → b ≡ true
        in_rest true g = refl
        in_rest false g = cc

either_true : (a b : Bool) → b ≡ true → (a || b) ≡ true
either_true true b e = refl
either_true false b e = e

first_true : (a b : Bool) → a ≡ true → (a || b) ≡ true
first_true true b e = refl
first_true false b e = cc

stays : (k y : Point) (ks : List Point) → (k ≡ y → ⊥) → is_in y ks ≡ true → is_in y (without k ks) ≡ true
stays k y [] ne e = cc
stays k y (x ∷ xs) ne e = go (stays k y xs ne) (same_point k x) refl (is_in y xs) refl
  where
    go : (is_in y xs ≡ true → is_in y (without k xs) ≡ true) → (b : Bool) → same_point k x ≡ b → (d : Bool) → is_in y xs ≡ d → is_in y (if b then xs else x ∷ without k xs) ≡ true
    go later true f true g = g
    go later true f false g = absurd (ne (point_is k x f ∙ sym (point_is y x (or_parts (is_in y xs) (same_point y x) e g))))
    go later false f true g = first_true (is_in y (without k xs)) (same_point y x) (later g)
    go later false f false g = either_true (is_in y (without k xs)) (same_point y x) (or_parts (is_in y xs) (same_point y x) e g)

abbrev AllIn : List Point → List Point → Type 0
AllIn [] ks = Unit {0}
AllIn (x ∷ xs) ks = (is_in x ks ≡ true) × IsElsewhere x xs × AllIn xs ks

all_stay : (k : Point) (xs ks : List Point) → IsElsewhere k xs → AllIn xs ks → AllIn xs (without k ks)
all_stay k [] ks ne h = tt
all_stay k (x ∷ xs) ks ne h = (stays k x ks ne.0 h.0, h.1, all_stay k xs ks ne.1 h.2)

few : (xs ks : List Point) → AllIn xs ks → length xs ≤ length ks
few [] ks h = omega arith
few (x ∷ xs) ks h =
    let l = few xs (without x ks) (all_stay x xs ks h.1 h.2) in
    let one = one_less x ks h.0 in
    omega (arith, l, one)

few_values : (xs ks : List Point) → AllIn xs ks → values_in xs ≤ values_in ks
few_values [] ks h = omega arith
few_values (x ∷ xs) ks h =
    let l = few_values xs (without x ks) (all_stay x xs ks h.1 h.2) in
    let one = values_less x ks h.0 in
    omega (arith, l, one)

-- ---- what is reached is in the list, and ranks fall

module _ (c : Class) (rules : Rules) (ks : List Point) (passes : covers c rules ks ≡ true) where
  cover : IsCover c rules (λ j x. is_in (record { method = j; node = x }) ks) (λ j x. rank_in (record { method = j; node = x }) ks)
  cover = certificates_cover c rules ks passes

  next_in : (k y : Point) → is_in k ks ≡ true → Next c rules k y → (is_in y ks ≡ true) × (rank_in y ks < rank_in k ks)
  next_in k y h (edge m p i z s w) = let q = cover.closed k.method k.node z m p i h s w in (q.0, q.1)
  next_in k y h (entry m n p callee s e known) =
      let q = cover.calls k.method callee k.node m p h s e in
      let same : q.0 ≡ n = cc (q.1, known) in
      subst (λ (z : Method). (is_in (record { method = callee; node = callee_node c rules callee z p k.node }) ks ≡ true) × (rank_in (record { method = callee; node = callee_node c rules callee z p k.node }) ks < rank_in k ks)) same (q.2, q.3)

  reached_in : (k y : Point) → is_in k ks ≡ true → Reached c rules k y → (is_in y ks ≡ true) × (rank_in y ks ≤ rank_in k ks)
  reached_in k y h here = (h, omega arith)
  reached_in k y h (onward {x = x} r n) =
      let q = reached_in k x h r in
      let s = next_in x y q.0 n in
      let a = q.1 in
      let b = s.1 in
      (s.0, omega (arith, a, b))

  all_in_list : (start : Point) (xs : List Point) → is_in start ks ≡ true → AreReached c rules start xs → AllIn xs ks
  all_in_list start [] h r = tt
  all_in_list start (x ∷ xs) h r = ((reached_in start x h r.0).0, r.1, all_in_list start xs h r.2)

  no_circle : (start : Point) → is_in start ks ≡ true → IsCircle c rules start → ⊥
  no_circle start h r =
      let on = reached_in start r.on h r.there in
      let n = next_in r.on r.next on.0 r.step in
      let back = reached_in r.next r.on n.0 r.back in
      let a = n.1 in
      let b = back.1 in
      omega (arith, a, b)

pub certificates_exclude : CertificatesExclude
certificates_exclude c rules start ks passes h = (no_circle c rules ks passes start h, λ xs r. let i = all_in_list c rules ks passes start xs h r in (few xs ks i, few_values xs ks i))
