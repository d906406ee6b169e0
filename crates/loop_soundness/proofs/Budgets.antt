-- What remains of the bounds, whatever paths the activations take from their nodes.
use Rattle.std.proofs.Common.{◌≡◌, ℕ, suc, ◌+◌, ◌≤◌, max, List, [], ◌∷◌, length, Some, sym, ap, subst, arith}
use Rattle.std.specs.Prelude.{slice_get}
use Rattle.typecheck.specs.Typing.{Method, Class}
use Rattle.bounds.specs.Paths.{Cost, Bounds, own_slots, last_cost, after_one, after_call}
use Rattle.verdict.specs.Sound.{slots_of_method}
use Rattle.unrolled.specs.Graph.{Node}
use Rattle.unrolled.specs.Rules.{Rules}
use Rattle.unrolled.specs.Paths.{Path, ends, leads, calls}
use Rattle.unrolled.specs.Certificates.{Point}

module _ (c : Class) (rules : Rules) where
  abbrev pub slots_at : List Point → ℕ
  slots_at [] = 0
  slots_at (k ∷ ks) = slots_of_method (slice_get c.methods k.method) + slots_at ks

  abbrev pub RestOf : List Point → Type 0
  RestOf [] = Unit {0}
  RestOf (k ∷ ks) = (e : Cost) × Path c rules k.method k.node e × RestOf ks

  abbrev pub steps_of_rest : (ks : List Point) → RestOf ks → ℕ
  steps_of_rest [] r = 0
  steps_of_rest (k ∷ ks) r = r.0.steps + steps_of_rest ks r.2

  abbrev pub words_of_rest : (ks : List Point) → RestOf ks → ℕ
  words_of_rest [] r = 0
  words_of_rest (k ∷ ks) r = r.0.words + words_of_rest ks r.2

  abbrev pub slots_of_rest : (ks : List Point) → RestOf ks → ℕ
  slots_of_rest [] r = 0
  slots_of_rest (k ∷ ks) r = max (r.0.slots + slots_at ks) (slots_of_rest ks r.2)

  abbrev pub depth_of_rest : (ks : List Point) → RestOf ks → ℕ
  depth_of_rest [] r = 0
  depth_of_rest (k ∷ ks) r = max (r.0.depth + length ks) (depth_of_rest ks r.2)

  pub record HasBudget (b : Bounds) (ks : List Point) (steps words : ℕ) : Type 0 where
    pub steps_left : (r : RestOf ks) → steps + steps_of_rest ks r ≤ b.steps
    pub words_left : (r : RestOf ks) → words + words_of_rest ks r ≤ b.words
    pub slots_left : (r : RestOf ks) → slots_of_rest ks r ≤ b.slots
    pub depth_left : (r : RestOf ks) → depth_of_rest ks r ≤ b.depth

  pub budget_on : (b : Bounds) (k k' : Point) (ks : List Point) (steps words w : ℕ) → ((e : Cost) → Path c rules k'.method k'.node e → Path c rules k.method k.node (after_one w e)) → HasBudget b (k ∷ ks) steps words → HasBudget b (k' ∷ ks) (suc steps) (words + w)
  budget_on b k k' ks steps words w path h = record {
    steps_left = λ r. let o = h.steps_left (after_one w r.0, path r.0 r.1, r.2) in omega (arith, o);
    words_left = λ r. let o = h.words_left (after_one w r.0, path r.0 r.1, r.2) in omega (arith, o);
    slots_left = λ r. h.slots_left (after_one w r.0, path r.0 r.1, r.2);
    depth_left = λ r. h.depth_left (after_one w r.0, path r.0 r.1, r.2);
  }

  max_call : (own e k below rest limit : ℕ) → max (max (own + e) k + below) rest ≤ limit → max (e + (own + below)) (max (k + below) rest) ≤ limit
  max_call own e k below rest limit h = omega (arith, h)

  pub budget_call : (b : Bounds) (m : Method) (k k' callee : Point) (ks : List Point) (steps words : ℕ) → slice_get c.methods k'.method ≡ Some m → ((e o : Cost) → Path c rules callee.method callee.node e → Path c rules k'.method k'.node o → Path c rules k.method k.node (after_call m e o)) → HasBudget b (k ∷ ks) steps words → HasBudget b (callee ∷ k' ∷ ks) (suc steps) words
  budget_call b m k k' callee ks steps words known path h =
      let all = λ (r : RestOf (callee ∷ k' ∷ ks)). let o : RestOf (k ∷ ks) = (after_call m r.0 r.2.0, path r.0 r.2.0 r.1 r.2.1, r.2.2) in o in
      record {
        steps_left = λ r. let o = h.steps_left (all r) in omega (arith, o);
        words_left = λ r. let o = h.words_left (all r) in omega (arith, o);
        slots_left = λ r. subst (λ x. max (r.0.slots + (slots_of_method x + slots_at ks)) (max (r.2.0.slots + slots_at ks) (slots_of_rest ks r.2.2)) ≤ b.slots) (sym known) (max_call (own_slots m) r.0.slots r.2.0.slots (slots_at ks) (slots_of_rest ks r.2.2) b.slots (h.slots_left (all r)));
        depth_left = λ r. let o = h.depth_left (all r) in omega (arith, o);
      }

  pub budget_return : (b : Bounds) (m : Method) (k k' : Point) (ks : List Point) (steps words : ℕ) → Path c rules k.method k.node (last_cost m) → HasBudget b (k ∷ k' ∷ ks) steps words → HasBudget b (k' ∷ ks) (suc steps) words
  budget_return b m k k' ks steps words end h =
      let all = λ (r : RestOf (k' ∷ ks)). let o : RestOf (k ∷ k' ∷ ks) = (last_cost m, end, (r.0, r.1, r.2)) in o in
      record {
        steps_left = λ r. let o = h.steps_left (all r) in omega (arith, o);
        words_left = λ r. let o = h.words_left (all r) in omega (arith, o);
        slots_left = λ r. let o = h.slots_left (all r) in omega (arith, o);
        depth_left = λ r. let o = h.depth_left (all r) in omega (arith, o);
      }

  -- the least cost of a path
  pub path_steps : {j : ℕ} {x : Node} {k : Cost} → Path c rules j x k → 1 ≤ k.steps
  path_steps (ends m p s e) = omega arith
  path_steps (leads m p i y s e w q) = omega arith
  path_steps (calls m p callee n i y s e k w q r) = omega arith

  pub path_depth : {j : ℕ} {x : Node} {k : Cost} → Path c rules j x k → 1 ≤ k.depth
  path_depth (ends m p s e) = omega arith
  path_depth (leads m p i y s e w q) = path_depth q
  path_depth (calls m p callee n i y s e k w q r) = let d = path_depth r in omega (arith, d)

  pub path_slots : {j : ℕ} {x : Node} {k : Cost} → Path c rules j x k → slots_of_method (slice_get c.methods j) ≤ k.slots
  path_slots {j} (ends m p s e) = let h : slots_of_method (slice_get c.methods j) ≡ own_slots m = ap slots_of_method s.method in omega (arith, h)
  path_slots (leads m p i y s e w q) = path_slots q
  path_slots (calls m p callee n i y s e k w q r) = let d = path_slots r in omega (arith, d)
