-- A table's costs are the maximum of all paths.
use Rattle.std.proofs.Common.{◌≡◌, ℕ, zero, suc, ◌+◌, ◌<◌, ◌≤◌, max, Bool, true, false, List, [], ◌∷◌, Option, Some, None, refl, sym, ap, ◌∙◌, subst, arith, ◌⊎◌, inl, inr}
use Rattle.std.specs.Prelude.{slice_get, ℤ, pos, ◌==◌, cond, IsSome}
use Rattle.std.proofs.lemmas.Bool.{eqb-true, cases_lt}
use Rattle.decode.specs.declared.instruction.Instruction.{Instruction}
use Rattle.decode.specs.declared.instruction.Instruction.TheVariants as instruction
use Rattle.decode.specs.declared.instruction.Placed.{Placed}
use Rattle.decode.specs.Places.{at_place, target_of, cases_of, IsTarget, falls_through, is_return}
use Rattle.decode.proofs.Targets.{no_target}
use Rattle.typecheck.specs.Typing.{Method, Class, instruction_at, call_of}
use Rattle.bounds.specs.Paths.{Cost, Path, StandsAt, IsWithin, SomePathTakes, words_at, last_cost, after_one, after_call, ends, jumps, falls, calls}
use Rattle.bounds.specs.Table.{Costs, bounds_of, greater, place_of, cost_among, cost_through, cost_by, IsTable, LeadsOn, TablesAreBounds}

-- ---- no path exceeds them

-- `IsBelow k b` holds if `k` is at most `b` in each measure
abbrev IsBelow : Cost → Cost → Type 0
IsBelow k b = IsWithin k (bounds_of b)

one_within : (w : ℕ) (k b : Cost) → IsBelow k b → IsBelow (after_one w k) (after_one w b)
one_within w k b h =
    let s = h.steps in
    let x = h.words in
    record { steps = omega (arith, s); words = omega (arith, x); slots = h.slots; depth = h.depth }

left_within : (k a b : Cost) → IsBelow k a → IsBelow k (greater a b)
left_within k a b h =
    let s = h.steps in
    let w = h.words in
    let x = h.slots in
    let d = h.depth in
    record { steps = omega (arith, s); words = omega (arith, w); slots = omega (arith, x); depth = omega (arith, d) }

right_within : (k a b : Cost) → IsBelow k b → IsBelow k (greater a b)
right_within k a b h =
    let s = h.steps in
    let w = h.words in
    let x = h.slots in
    let d = h.depth in
    record { steps = omega (arith, s); words = omega (arith, w); slots = omega (arith, x); depth = omega (arith, d) }

call_within : (m : Method) (e k a b : Cost) → IsBelow e a → IsBelow k b → IsBelow (after_call m e k) (after_call m a b)
call_within m e k a b h g =
    let s = h.steps in
    let w = h.words in
    let x = h.slots in
    let d = h.depth in
    let s' = g.steps in
    let w' = g.words in
    let x' = g.slots in
    let d' = g.depth in
    record { steps = omega (arith, s, s'); words = omega (arith, w, w'); slots = omega (arith, x, x'); depth = omega (arith, d, d') }

same_within : (k : Cost) → IsBelow k k
same_within k = record { steps = omega arith; words = omega arith; slots = omega arith; depth = omega arith }

-- the cost of an instruction that falls through and has no target is its own, its callee's and the next instruction's
pub through : (c : Class) (t : Costs) (m : Method) (j q : ℕ) (p : Placed) (i : Instruction) → falls_through i ≡ true → target_of i ≡ None → cost_by c t m j q p i ≡ cost_through t m j q p (call_of c.view i)
through c t m j q p (instruction.Goto z) e n = cc
through c t m j q p (instruction.Branch a z) e n = cc
through c t m j q p (instruction.Switch z s) e n = cc
through c t m j q p (instruction.Return k) e n = cc
through c t m j q p instruction.ReturnVoid e n = cc
through c t m j q p (instruction.Throw x text) e n = cc
through c t m j q p instruction.Nop e n = refl
through c t m j q p (instruction.Push x) e n = refl
through c t m j q p (instruction.Load k x) e n = refl
through c t m j q p (instruction.Store k x) e n = refl
through c t m j q p (instruction.Increment x by) e n = refl
through c t m j q p (instruction.Operate o) e n = refl
through c t m j q p (instruction.Rearrange r) e n = refl
through c t m j q p (instruction.Invoke k x) e n = refl
through c t m j q p (instruction.NewArray k) e n = refl
through c t m j q p (instruction.ArrayLoad k) e n = refl
through c t m j q p (instruction.ArrayStore k) e n = refl
through c t m j q p instruction.ReferenceLoad e n = refl
through c t m j q p instruction.ArrayLength e n = refl
through c t m j q p (instruction.CheckCast x) e n = refl
through c t m j q p (instruction.InstanceOf x) e n = refl

-- an instruction without cases has no case target
no_case : (i : Instruction) (n : ℕ) (z : ℤ) → cases_of i ≡ [] → slice_get (cases_of i) n ≡ Some z → ⊥
no_case i n z e f = let none : None ≡ Some z = ap (λ (l : List ℤ). slice_get l n) (sym e) ∙ f in cc none

-- the kinds of instructions, by their successors
pub data Leads (c : Class) (m : Method) (j q : ℕ) (p : Placed) (i : Instruction) : Type 0 where
  returns : is_return i ≡ true → falls_through i ≡ false → target_of i ≡ None → call_of c.view i ≡ None → ((t : Costs) → cost_by c t m j q p i ≡ last_cost m) → Leads c m j q p i
  goes : (z : ℤ) → is_return i ≡ false → falls_through i ≡ false → target_of i ≡ Some z → call_of c.view i ≡ None → ((t : Costs) → cost_by c t m j q p i ≡ after_one 0 (cost_among t j (cases_of i) (t j (place_of z)))) → Leads c m j q p i
  branches : (z : ℤ) → is_return i ≡ false → falls_through i ≡ true → target_of i ≡ Some z → cases_of i ≡ [] → call_of c.view i ≡ None → words_at m q i ≡ 0 → ((t : Costs) → cost_by c t m j q p i ≡ greater (after_one 0 (t j p.next)) (after_one 0 (t j (place_of z)))) → Leads c m j q p i
  follows : is_return i ≡ false → falls_through i ≡ true → target_of i ≡ None → Leads c m j q p i

pub leads : (c : Class) (m : Method) (j q : ℕ) (p : Placed) (i : Instruction) → Leads c m j q p i
leads c m j q p (instruction.Goto z) = goes z refl refl refl refl (λ t. refl)
leads c m j q p (instruction.Switch z s) = goes z refl refl refl refl (λ t. refl)
leads c m j q p (instruction.Branch a z) = branches z refl refl refl refl refl refl (λ t. refl)
leads c m j q p (instruction.Return k) = returns refl refl refl refl (λ t. refl)
leads c m j q p instruction.ReturnVoid = returns refl refl refl refl (λ t. refl)
leads c m j q p (instruction.Throw x text) = returns refl refl refl refl (λ t. refl)
leads c m j q p instruction.Nop = follows refl refl refl
leads c m j q p (instruction.Push x) = follows refl refl refl
leads c m j q p (instruction.Load k x) = follows refl refl refl
leads c m j q p (instruction.Store k x) = follows refl refl refl
leads c m j q p (instruction.Increment x by) = follows refl refl refl
leads c m j q p (instruction.Operate o) = follows refl refl refl
leads c m j q p (instruction.Rearrange r) = follows refl refl refl
leads c m j q p (instruction.Invoke k x) = follows refl refl refl
leads c m j q p (instruction.NewArray k) = follows refl refl refl
leads c m j q p (instruction.ArrayLoad k) = follows refl refl refl
leads c m j q p (instruction.ArrayStore k) = follows refl refl refl
leads c m j q p instruction.ReferenceLoad = follows refl refl refl
leads c m j q p instruction.ArrayLength = follows refl refl refl
leads c m j q p (instruction.CheckCast x) = follows refl refl refl
leads c m j q p (instruction.InstanceOf x) = follows refl refl refl

module _ (c : Class) (set : ℕ → Bool) (on : LeadsOn c set) (t : Costs) (table : IsTable c set t) where
  within_of : (k a b : Cost) → a ≡ b → IsBelow k b → IsBelow k a
  within_of k a b e h = subst (IsBelow k) (sym e) h

  -- the maximum over a switch's targets is at least the cost of each
  below_default : (j : ℕ) (zs : List ℤ) (k b : Cost) → IsBelow k b → IsBelow k (cost_among t j zs b)
  below_default j [] k b h = h
  below_default j (z ∷ zs) k b h = right_within k (t j (place_of z)) (cost_among t j zs b) (below_default j zs k b h)

  below_case : (j : ℕ) (zs : List ℤ) (n : ℕ) (z : ℤ) (k b : Cost) → slice_get zs n ≡ Some z → IsBelow k (t j (place_of z)) → IsBelow k (cost_among t j zs b)
  below_case j [] n z k b e h = cc e
  below_case j (y ∷ zs) zero z k b e h =
      let same : y ≡ z = cc e in
      left_within k (t j (place_of y)) (cost_among t j zs b) (subst (λ x. IsBelow k (t j (place_of x))) (sym same) h)
  below_case j (y ∷ zs) (suc n) z k b e h = right_within k (t j (place_of y)) (cost_among t j zs b) (below_case j zs n z k b e h)

  -- a path from an instruction costs at most the result of its equation
  return_row : (m : Method) (j q : ℕ) (p : Placed) (i : Instruction) → is_return i ≡ true → IsBelow (last_cost m) (cost_by c t m j q p i)
  return_row m j q p i e = go (leads c m j q p i)
    where
      go : Leads c m j q p i → IsBelow (last_cost m) (cost_by c t m j q p i)
      go (returns a b d f g) = within_of _ _ _ (g t) (same_within (last_cost m))
      go (goes z a b d f g) = cc (a, e)
      go (branches z a b d n f w g) = cc (a, e)
      go (follows a b d) = cc (a, e)

  at_target : (j r : ℕ) (z : ℤ) (k : Cost) (i : Instruction) → target_of i ≡ Some z → target_of i ≡ Some (pos r) → IsBelow k (t j r) → IsBelow k (t j (place_of z))
  at_target j r z k i a e h =
      let both : Some z ≡ Some (pos r) = sym a ∙ e in
      let same : z ≡ pos r = cc both in
      subst (λ x. IsBelow k (t j (place_of x))) (sym same) h

  jump_row : (m : Method) (j q r : ℕ) (p : Placed) (i : Instruction) (k : Cost) → IsTarget i (pos r) → IsBelow k (t j r) → IsBelow (after_one 0 k) (cost_by c t m j q p i)
  jump_row m j q r p i k to h = go (leads c m j q p i) to
    where
      go : Leads c m j q p i → IsTarget i (pos r) → IsBelow (after_one 0 k) (cost_by c t m j q p i)
      go (returns a b d f g) e = absurd (no_target i (pos r) d e)
      go (goes z a b d f g) (inl e) = within_of _ _ _ (g t) (one_within 0 k _ (below_default j (cases_of i) k (t j (place_of z)) (at_target j r z k i d e h)))
      go (goes z a b d f g) (inr (x, e)) = within_of _ _ _ (g t) (one_within 0 k _ (below_case j (cases_of i) x (pos r) k (t j (place_of z)) e h))
      go (branches z a b d n f w g) (inl e) = within_of _ _ _ (g t) (right_within _ _ _ (one_within 0 k (t j (place_of z)) (at_target j r z k i d e h)))
      go (branches z a b d n f w g) (inr (x, e)) = absurd (no_case i x (pos r) n e)
      go (follows a b d) e = absurd (no_target i (pos r) d e)

  fall_row : (m : Method) (j q : ℕ) (p : Placed) (k : Cost) → falls_through p.instruction ≡ true → call_of c.view p.instruction ≡ None → IsBelow k (t j p.next) → IsBelow (after_one (words_at m q p.instruction) k) (cost_by c t m j q p p.instruction)
  fall_row m j q p k e f h = go (leads c m j q p p.instruction)
    where
      go : Leads c m j q p p.instruction → IsBelow (after_one (words_at m q p.instruction) k) (cost_by c t m j q p p.instruction)
      go (returns a b d n g) = cc (b, e)
      go (goes z a b d n g) = cc (b, e)
      go (branches z a b d x n w g) = within_of _ _ _ (g t) (left_within _ _ _ (subst (λ x. IsBelow (after_one x k) (after_one 0 (t j p.next))) (sym w) (one_within 0 k (t j p.next) h)))
      go (follows a b d) = within_of _ _ _ (through c t m j q p p.instruction b d ∙ ap (cost_through t m j q p) f) (one_within (words_at m q p.instruction) k (t j p.next) h)

  call_row : (m : Method) (j q n : ℕ) (p : Placed) (e k : Cost) → call_of c.view p.instruction ≡ Some n → IsBelow e (t n 0) → IsBelow k (t j p.next) → IsBelow (after_call m e k) (cost_by c t m j q p p.instruction)
  call_row m j q n p e k f h g = go (leads c m j q p p.instruction)
    where
      go : Leads c m j q p p.instruction → IsBelow (after_call m e k) (cost_by c t m j q p p.instruction)
      go (returns a b d x y) = cc (x, f)
      go (goes z a b d x y) = cc (x, f)
      go (branches z a b d n x w y) = cc (x, f)
      go (follows a b d) = within_of _ _ _ (through c t m j q p p.instruction b d ∙ ap (cost_through t m j q p) f) (call_within m e k (t n 0) (t j p.next) h g)

  pub none_exceeds : (j q : ℕ) (k : Cost) → set j ≡ true → Path c j q k → IsBelow k (t j q)
  none_exceeds j q k in_set (ends m p s is) = within_of _ _ _ (table j q m p in_set s) (return_row m j q p p.instruction is)
  none_exceeds j q k in_set (jumps {k = n} m p r s to x) = within_of _ _ _ (table j q m p in_set s) (jump_row m j q r p p.instruction n to (none_exceeds j r n in_set x))
  none_exceeds j q k in_set (falls {k = n} m p s f g x) = within_of _ _ _ (table j q m p in_set s) (fall_row m j q p n f g (none_exceeds j p.next n in_set x))
  none_exceeds j q k in_set (calls {e = a} {k = n} m p callee s f x y) = within_of _ _ _ (table j q m p in_set s) (call_row m j q callee p a n f (none_exceeds callee 0 a (on.callee j q callee m p in_set s f).0 x) (none_exceeds j p.next n in_set y))

-- ---- some path reaches each

-- `IsMeasure part` holds if `part` of a cost depends only on `part` of the successors' costs
record IsMeasure (part : Cost → ℕ) : Type 0 where
  one : (w : ℕ) (a b : Cost) → part a ≡ part b → part (after_one w a) ≡ part (after_one w b)
  call : (m : Method) (e a k b : Cost) → part e ≡ part a → part k ≡ part b → part (after_call m e k) ≡ part (after_call m a b)
  most : (a b : Cost) → (part (greater a b) ≡ part a) ⊎ (part (greater a b) ≡ part b)

max_is : (x y : ℕ) → (max x y ≡ x) ⊎ (max x y ≡ y)
max_is x y = go (cases_lt x y)
  where
    go : (x < y) ⊎ (y ≤ x) → (max x y ≡ x) ⊎ (max x y ≡ y)
    go (inl l) = inr (omega (arith, l))
    go (inr l) = inl (omega (arith, l))

by_steps : IsMeasure (λ k. k.steps)
by_steps = record { one = λ w a b e. omega (arith, e); call = λ m e a k b x y. omega (arith, x, y); most = λ a b. max_is a.steps b.steps }

by_words : IsMeasure (λ k. k.words)
by_words = record { one = λ w a b e. omega (arith, e); call = λ m e a k b x y. omega (arith, x, y); most = λ a b. max_is a.words b.words }

by_slots : IsMeasure (λ k. k.slots)
by_slots = record { one = λ w a b e. e; call = λ m e a k b x y. omega (arith, x, y); most = λ a b. max_is a.slots b.slots }

by_depth : IsMeasure (λ k. k.depth)
by_depth = record { one = λ w a b e. e; call = λ m e a k b x y. omega (arith, x, y); most = λ a b. max_is a.depth b.depth }

-- a pc after all instructions
abbrev pub top_of : List Placed → ℕ
top_of [] = 0
top_of (x ∷ code) = max (suc x.place) (top_of code)

pub below_top : (code : List Placed) (q : ℕ) (p : Placed) → at_place code q ≡ Some p → q < top_of code
below_top [] q p e = cc
below_top (x ∷ code) q p e = go (below_top code q p) (x.place == q) refl e
  where
    go : (at_place code q ≡ Some p → q < top_of code) → (b : Bool) → (x.place == q) ≡ b → cond b (Some x) (at_place code q) ≡ Some p → q < max (suc x.place) (top_of code)
    go later true is f = let here : x.place ≡ q = eqb-true x.place q is in omega (arith, here)
    go later false is f = let r = later f in omega (arith, r)

pub some_is : {A : Type 0} (o : Option A) → IsSome o → (x : A) × (o ≡ Some x)
some_is None h = cc
some_is (Some x) h = (x, refl)

module _ (part : Cost → ℕ) (measure : IsMeasure part) (c : Class) (set : ℕ → Bool) (on : LeadsOn c set) (t : Costs) (table : IsTable c set t) where
  abbrev Attains : ℕ → ℕ → Type 0
  Attains j q = (k : Cost) × Path c j q k × (part k ≡ part (t j q))

  abbrev AttainsRow : ℕ → ℕ → Cost → Type 0
  AttainsRow j q row = (k : Cost) × Path c j q k × (part k ≡ part row)

  -- the maximum over a switch's targets is the cost of some target
  abbrev IsOneOf : ℕ → List ℤ → Cost → Type 0
  IsOneOf j zs b = (part (cost_among t j zs b) ≡ part b) ⊎ ((n : ℕ) × (z : ℤ) × (slice_get zs n ≡ Some z) × (part (cost_among t j zs b) ≡ part (t j (place_of z))))

  one_of : (j : ℕ) (zs : List ℤ) (b : Cost) → IsOneOf j zs b
  one_of j [] b = inl refl
  one_of j (z ∷ zs) b = go (measure.most (t j (place_of z)) (cost_among t j zs b)) (one_of j zs b)
    where
      go : (part (cost_among t j (z ∷ zs) b) ≡ part (t j (place_of z))) ⊎ (part (cost_among t j (z ∷ zs) b) ≡ part (cost_among t j zs b)) → IsOneOf j zs b → IsOneOf j (z ∷ zs) b
      go (inl e) rest = inr (0, z, refl, e)
      go (inr e) (inl f) = inl (e ∙ f)
      go (inr e) (inr (n, y, at, f)) = inr (suc n, y, at, e ∙ f)

  -- if the costs of the successors are reached, so is that of the instruction
  attains_at : (j q : ℕ) (m : Method) (p : Placed) → StandsAt c j q m p → (falls_through p.instruction ≡ true → Attains j p.next) → ((z : ℤ) → IsTarget p.instruction z → (r : ℕ) × (z ≡ pos r) × Attains j r) → ((k : ℕ) → call_of c.view p.instruction ≡ Some k → Attains k 0) → AttainsRow j q (cost_by c t m j q p p.instruction)
  attains_at j q m p s next target call = go (leads c m j q p p.instruction)
    where
      row : Cost
      row = cost_by c t m j q p p.instruction

      to_target : (z : ℤ) → IsTarget p.instruction z → AttainsRow j q (after_one 0 (t j (place_of z)))
      to_target z e =
          let r = target z e in
          (after_one 0 r.2.0, jumps m p r.0 s (subst (λ (x : ℤ). IsTarget p.instruction x) r.1 e) r.2.1, subst (λ x. part (after_one 0 r.2.0) ≡ part (after_one 0 (t j (place_of x)))) (sym r.1) (measure.one 0 r.2.0 (t j r.0) r.2.2))

      to_one : (z : ℤ) → target_of p.instruction ≡ Some z → IsOneOf j (cases_of p.instruction) (t j (place_of z)) → AttainsRow j q (after_one 0 (cost_among t j (cases_of p.instruction) (t j (place_of z))))
      to_one z d (inl e) =
          let r = to_target z (inl d) in
          (r.0, r.1, r.2 ∙ measure.one 0 (t j (place_of z)) (cost_among t j (cases_of p.instruction) (t j (place_of z))) (sym e))
      to_one z d (inr (n, y, at, e)) =
          let r = to_target y (inr (n, at)) in
          (r.0, r.1, r.2 ∙ measure.one 0 (t j (place_of y)) (cost_among t j (cases_of p.instruction) (t j (place_of z))) (sym e))

      by_call : falls_through p.instruction ≡ true → target_of p.instruction ≡ None → (o : Option ℕ) → call_of c.view p.instruction ≡ o → AttainsRow j q (cost_through t m j q p o)
      by_call e n None f = let r = next e in (after_one (words_at m q p.instruction) r.0, falls m p s e f r.1, measure.one (words_at m q p.instruction) r.0 (t j p.next) r.2)
      by_call e n (Some k) f =
          let r = next e in
          let x = call k f in
          (after_call m x.0 r.0, calls m p k s f x.1 r.1, measure.call m x.0 (t k 0) r.0 (t j p.next) x.2 r.2)

      either : (z : ℤ) → falls_through p.instruction ≡ true → target_of p.instruction ≡ Some z → call_of c.view p.instruction ≡ None → words_at m q p.instruction ≡ 0 → (part (greater (after_one 0 (t j p.next)) (after_one 0 (t j (place_of z)))) ≡ part (after_one 0 (t j p.next))) ⊎ (part (greater (after_one 0 (t j p.next)) (after_one 0 (t j (place_of z)))) ≡ part (after_one 0 (t j (place_of z)))) → AttainsRow j q (greater (after_one 0 (t j p.next)) (after_one 0 (t j (place_of z))))
      either z b d f w (inl e) =
          let r = next b in
          (after_one (words_at m q p.instruction) r.0, falls m p s b f r.1, ap (λ x. part (after_one x r.0)) w ∙ measure.one 0 r.0 (t j p.next) r.2 ∙ sym e)
      either z b d f w (inr e) = let r = to_target z (inl d) in (r.0, r.1, r.2 ∙ sym e)

      of : (other : Cost) → cost_by c t m j q p p.instruction ≡ other → AttainsRow j q other → AttainsRow j q (cost_by c t m j q p p.instruction)
      of other e r = (r.0, r.1, r.2 ∙ ap part (sym e))

      go : Leads c m j q p p.instruction → AttainsRow j q (cost_by c t m j q p p.instruction)
      go (returns a b d f g) = of _ (g t) (last_cost m, ends m p s a, refl)
      go (goes z a b d f g) = of _ (g t) (to_one z d (one_of j (cases_of p.instruction) (t j (place_of z))))
      go (branches z a b d n f w g) = of _ (g t) (either z b d f w (measure.most (after_one 0 (t j p.next)) (after_one 0 (t j (place_of z)))))
      go (follows a b d) = of _ (through c t m j q p p.instruction b d) (by_call b d (call_of c.view p.instruction) refl)

  -- the costs within a method are reached, if those of its callees are
  attains_in : (j : ℕ) (m : Method) → set j ≡ true → slice_get c.methods j ≡ Some m → ((q k : ℕ) (p : Placed) → instruction_at m q ≡ Some p → call_of c.view p.instruction ≡ Some k → Attains k 0) → (left q : ℕ) → top_of m.code ≤ q + left → IsSome (instruction_at m q) → Attains j q
  attains_in j m member known callees zero q long inside = let x = some_is (instruction_at m q) inside in let low = below_top m.code q x.0 x.1 in absurd (omega (arith, low, long))
  attains_in j m member known callees (suc left) q long inside =
      let x = some_is (instruction_at m q) inside in
      let p = x.0 in
      let s : StandsAt c j q m p = record { method = known; instruction = x.1 } in
      let r = attains_at j q m p s
      (λ e. let n = on.next j q m p member s e in let far = n.0 in attains_in j m member known callees left p.next (omega (arith, far, long)) n.1)
      (λ z e. let n = on.target j q m p z member s e in let far = n.2 in (n.0, n.1, attains_in j m member known callees left n.0 (omega (arith, far, long)) n.3))
      (λ k e. callees q k p x.1 e)
      in
      (r.0, r.1, r.2 ∙ ap part (sym (table j q m p member s)))

  attains_below : (limit j : ℕ) (m : Method) → set j ≡ true → slice_get c.methods j ≡ Some m → IsSome (instruction_at m 0) → on.ranks.0 j < limit → Attains j 0
  attains_below zero j m member known inside low = absurd (omega (arith, low))
  attains_below (suc limit) j m member known inside low =
      attains_in j m member known (λ q k p code e.
      let s : StandsAt c j q m p = record { method = known; instruction = code } in
      let lower : on.ranks.0 k < on.ranks.0 j = on.ranks.1 j k (m, q, p, known, code, e) in
      let to = on.callee j q k m p member s e in
      attains_below limit k to.1.0 to.0 to.1.1 to.1.2 (omega (arith, lower, low))) (top_of m.code) 0 (omega arith) inside

  attains : (j : ℕ) (m : Method) → set j ≡ true → slice_get c.methods j ≡ Some m → IsSome (instruction_at m 0) → SomePathTakes c j part (part (t j 0))
  attains j m member known inside = attains_below (suc (on.ranks.0 j)) j m member known inside (omega arith)

pub tables_are_bounds : TablesAreBounds
tables_are_bounds c set t j m on table member known inside = record {
  none_exceeds = λ k p. let w = none_exceeds c set on t table j 0 k member p in record { steps = w.steps; words = w.words; slots = w.slots; depth = w.depth };
  steps = attains (λ k. k.steps) by_steps c set on t table j m member known inside;
  words = attains (λ k. k.words) by_words c set on t table j m member known inside;
  slots = attains (λ k. k.slots) by_slots c set on t table j m member known inside;
  depth = attains (λ k. k.depth) by_depth c set on t table j m member known inside;
}
