-- In a cover the nodes lead in no circle.
use Rattle.std.proofs.Common.{◌≡◌, ℕ, ◌<◌, ◌≤◌, Bool, true, subst, arith}
use Rattle.typecheck.specs.Typing.{Method, Class}
use Rattle.unrolled.specs.Graph.{Node}
use Rattle.unrolled.specs.Rules.{Rules}
use Rattle.unrolled.specs.Paths.{callee_node}
use Rattle.unrolled.specs.Cover.{IsCover}
use Rattle.unrolled.specs.Certificates.{Point}
use Rattle.unrolled.specs.Circles.{Next, edge, entry, Reached, here, onward, IsCircle}

module _ (c : Class) (rules : Rules) (inside : ℕ → Node → Bool) (rank : ℕ → Node → ℕ) (cover : IsCover c rules inside rank) where
  abbrev IsIn : Point → Type 0
  IsIn k = inside k.method k.node ≡ true

  abbrev rank_of : Point → ℕ
  rank_of k = rank k.method k.node

  next_in : (k y : Point) → IsIn k → Next c rules k y → IsIn y × (rank_of y < rank_of k)
  next_in k y h (edge m p i z s w) = let q = cover.closed k.method k.node z m p i h s w in (q.0, q.1)
  next_in k y h (entry m n p callee s e known) =
      let q = cover.calls k.method callee k.node m p h s e in
      let same : q.0 ≡ n = cc (q.1, known) in
      subst (λ (z : Method). (inside callee (callee_node c rules callee z p k.node) ≡ true) × (rank callee (callee_node c rules callee z p k.node) < rank_of k)) same (q.2, q.3)

  reached_in : (k y : Point) → IsIn k → Reached c rules k y → IsIn y × (rank_of y ≤ rank_of k)
  reached_in k y h here = (h, omega arith)
  reached_in k y h (onward {x = x} r n) =
      let q = reached_in k x h r in
      let s = next_in x y q.0 n in
      let a = q.1 in
      let b = s.1 in
      (s.0, omega (arith, a, b))

  pub cover_has_no_circle : (start : Point) → IsIn start → IsCircle c rules start → ⊥
  cover_has_no_circle start h r =
      let on = reached_in start r.on h r.there in
      let n = next_in r.on r.next on.0 r.step in
      let back = reached_in r.next r.on n.0 r.back in
      let a = n.1 in
      let b = back.1 in
      omega (arith, a, b)
