-- The costs of a table are the greatest of all paths, and a cover has a table.
use Rattle.std.proofs.Common.{◌≡◌, ℕ, zero, suc, ◌<◌, ◌≤◌, max, Bool, true, false, List, [], ◌∷◌, Option, Some, None, refl, sym, ap, ◌∙◌, subst, arith, ◌⊎◌, inl, inr}
use Rattle.std.specs.Prelude.{slice_get, map}
use Rattle.std.proofs.lemmas.Bool.{cases_lt}
use Rattle.classfile.specs.View.{ClassView}
use Rattle.decode.specs.declared.instruction.Instruction.{Instruction}
use Rattle.decode.specs.declared.instruction.Instruction.TheVariants as instruction
use Rattle.decode.specs.declared.instruction.Placed.{Placed}
use Rattle.decode.specs.Places.{is_return}
use Rattle.typecheck.specs.Typing.{Method, Class, instruction_at, call_of}
use Rattle.bounds.specs.Paths.{Cost, IsWithin, StandsAt, last_cost, after_one, after_call, words_at}
use Rattle.bounds.specs.Table.{greater, bounds_of}
use Rattle.unrolled.specs.Graph.{Node, Following, arrive, edges, successors}
use Rattle.unrolled.specs.Rules.{Rules}
use Rattle.unrolled.specs.Paths.{Path, ends, leads, calls, callee_node, SomePathTakes}
use Rattle.unrolled.specs.Cover.{IsCover}
use Rattle.unrolled.specs.Tables.{Costs, greatest_of, greatest_among, cost_from, IsTable, TablesAreBounds, EachHasTable}

abbrev IsBelow : Cost → Cost → Type 0
IsBelow k b = IsWithin k (bounds_of b)

one_within : (w : ℕ) (k b : Cost) → IsBelow k b → IsBelow (after_one w k) (after_one w b)
one_within w k b h =
    let s = h.steps in
    let x = h.words in
    record { steps = omega (arith, s); words = omega (arith, x); slots = h.slots; depth = h.depth }

left_within : (k a b : Cost) → IsBelow k a → IsBelow k (greater a b)
left_within k a b h =
    let s = h.steps in
    let w = h.words in
    let x = h.slots in
    let d = h.depth in
    record { steps = omega (arith, s); words = omega (arith, w); slots = omega (arith, x); depth = omega (arith, d) }

right_within : (k a b : Cost) → IsBelow k b → IsBelow k (greater a b)
right_within k a b h =
    let s = h.steps in
    let w = h.words in
    let x = h.slots in
    let d = h.depth in
    record { steps = omega (arith, s); words = omega (arith, w); slots = omega (arith, x); depth = omega (arith, d) }

call_within : (m : Method) (e k a b : Cost) → IsBelow e a → IsBelow k b → IsBelow (after_call m e k) (after_call m a b)
call_within m e k a b h g =
    let s = h.steps in
    let w = h.words in
    let x = h.slots in
    let d = h.depth in
    let s' = g.steps in
    let w' = g.words in
    let x' = g.slots in
    let d' = g.depth in
    record { steps = omega (arith, s, s'); words = omega (arith, w, w'); slots = omega (arith, x, x'); depth = omega (arith, d, d') }

same_within : (k : Cost) → IsBelow k k
same_within k = record { steps = omega arith; words = omega arith; slots = omega arith; depth = omega arith }

below_of : (g : Node → Cost) (x : Node) (xs : List Node) (i : ℕ) (y : Node) (k : Cost) → slice_get (x ∷ xs) i ≡ Some y → IsBelow k (g y) → IsBelow k (greatest_of g x xs)
below_of g x [] zero y k e h = let same : x ≡ y = cc e in subst (λ z. IsBelow k (g z)) (sym same) h
below_of g x [] (suc i) y k e h = cc
below_of g x (z ∷ xs) zero y k e h = let same : x ≡ y = cc e in left_within k (g x) (greatest_of g z xs) (subst (λ w. IsBelow k (g w)) (sym same) h)
below_of g x (z ∷ xs) (suc i) y k e h = right_within k (g x) (greatest_of g z xs) (below_of g z xs i y k e h)

below_way : (g : Node → Cost) (none : Cost) (xs : List Node) (i : ℕ) (y : Node) (k : Cost) → slice_get xs i ≡ Some y → IsBelow k (g y) → IsBelow k (greatest_among g none xs)
below_way g none [] i y k e h = cc
below_way g none (x ∷ xs) i y k e h = below_of g x xs i y k e h

-- Returns and throws have no edge, and are no calls.
record Stops (v : ClassView) (f : Following) (x : Node) (next : ℕ) (i : Instruction) : Type 0 where
  none : edges v f x next i ≡ []
  outside : call_of v i ≡ None

stops : (v : ClassView) (f : Following) (x : Node) (next : ℕ) (i : Instruction) → is_return i ≡ true → Stops v f x next i
stops v f x next (instruction.Return k) e = record { none = refl; outside = refl }
stops v f x next instruction.ReturnVoid e = record { none = refl; outside = refl }
stops v f x next (instruction.Throw t text) e = record { none = refl; outside = refl }
stops v f x next _ e = cc

module _ (c : Class) (rules : Rules) (inside : ℕ → Node → Bool) (rank : ℕ → Node → ℕ) (cover : IsCover c rules inside rank) where
  callee_inside : (j k : ℕ) (x : Node) (m n : Method) (p : Placed) → inside j x ≡ true → StandsAt c j x.place m p → call_of c.view p.instruction ≡ Some k → slice_get c.methods k ≡ Some n → (inside k (callee_node c rules k n p x) ≡ true) × (rank k (callee_node c rules k n p x) < rank j x)
  callee_inside j k x m n p h s e known =
      let r = cover.calls j k x m p h s e in
      let same : r.0 ≡ n = cc (r.1, known) in
      subst (λ y. (inside k (callee_node c rules k y p x) ≡ true) × (rank k (callee_node c rules k y p x) < rank j x)) same (r.2, r.3)

  module _ (t : Costs) (table : IsTable c rules inside t) where
    return_row : (j : ℕ) (x : Node) (m : Method) (p : Placed) → inside j x ≡ true → StandsAt c j x.place m p → is_return p.instruction ≡ true → t j x ≡ last_cost m
    return_row j x m p h s e =
        let q = stops c.view (rules j) x p.next p.instruction e in
        table.plain j x m p h s q.outside ∙ ap (λ l. greatest_among (λ y. after_one (words_at m x.place p.instruction) (t j y)) (last_cost m) (map (arrive (rules j)) l)) q.none

    none_exceeds : (j : ℕ) (x : Node) (k : Cost) → inside j x ≡ true → Path c rules j x k → IsBelow k (t j x)
    none_exceeds j x k h (ends m p s e) = subst (IsBelow (last_cost m)) (sym (return_row j x m p h s e)) (same_within (last_cost m))
    none_exceeds j x k h (leads {k = o} m p i y s e w path) =
        let r = cover.closed j x y m p i h s w in
        let later = none_exceeds j y o r.0 path in
        subst (IsBelow (after_one (words_at m x.place p.instruction) o)) (sym (table.plain j x m p h s e)) (below_way (λ z. after_one (words_at m x.place p.instruction) (t j z)) (last_cost m) (successors c.view (rules j) p x) i y (after_one (words_at m x.place p.instruction) o) w (one_within (words_at m x.place p.instruction) o (t j y) later))
    none_exceeds j x k h (calls {e = d} {k = o} m p callee n i y s e known w inner path) =
        let r = cover.closed j x y m p i h s w in
        let q = callee_inside j callee x m n p h s e known in
        let later = none_exceeds j y o r.0 path in
        let within = none_exceeds callee (callee_node c rules callee n p x) d q.0 inner in
        subst (IsBelow (after_call m d o)) (sym (table.called j callee x m n p h s e known)) (below_way (λ z. after_call m (t callee (callee_node c rules callee n p x)) (t j z)) (last_cost m) (successors c.view (rules j) p x) i y (after_call m d o) w (call_within m d o (t callee (callee_node c rules callee n p x)) (t j y) within later))

-- ---- some path reaches each

record IsMeasure (part : Cost → ℕ) : Type 0 where
  one : (w : ℕ) (a b : Cost) → part a ≡ part b → part (after_one w a) ≡ part (after_one w b)
  call : (m : Method) (e a k b : Cost) → part e ≡ part a → part k ≡ part b → part (after_call m e k) ≡ part (after_call m a b)
  most : (a b : Cost) → (part (greater a b) ≡ part a) ⊎ (part (greater a b) ≡ part b)

max_is : (x y : ℕ) → (max x y ≡ x) ⊎ (max x y ≡ y)
max_is x y = go (cases_lt x y)
  where
    go : (x < y) ⊎ (y ≤ x) → (max x y ≡ x) ⊎ (max x y ≡ y)
    go (inl l) = inr (omega (arith, l))
    go (inr l) = inl (omega (arith, l))

by_steps : IsMeasure (λ k. k.steps)
by_steps = record { one = λ w a b e. omega (arith, e); call = λ m e a k b x y. omega (arith, x, y); most = λ a b. max_is a.steps b.steps }

by_words : IsMeasure (λ k. k.words)
by_words = record { one = λ w a b e. omega (arith, e); call = λ m e a k b x y. omega (arith, x, y); most = λ a b. max_is a.words b.words }

by_slots : IsMeasure (λ k. k.slots)
by_slots = record { one = λ w a b e. e; call = λ m e a k b x y. omega (arith, x, y); most = λ a b. max_is a.slots b.slots }

by_depth : IsMeasure (λ k. k.depth)
by_depth = record { one = λ w a b e. e; call = λ m e a k b x y. omega (arith, x, y); most = λ a b. max_is a.depth b.depth }

module _ (part : Cost → ℕ) (measure : IsMeasure part) where
  -- The greatest is the cost of one of the nodes.
  one_of : (g : Node → Cost) (x : Node) (xs : List Node) → (i : ℕ) × (y : Node) × (slice_get (x ∷ xs) i ≡ Some y) × (part (greatest_of g x xs) ≡ part (g y))
  one_of g x [] = (0, x, refl, refl)
  one_of g x (z ∷ xs) = go (measure.most (g x) (greatest_of g z xs)) (one_of g z xs)
    where
      go : (part (greatest_of g x (z ∷ xs)) ≡ part (g x)) ⊎ (part (greatest_of g x (z ∷ xs)) ≡ part (greatest_of g z xs)) → (i : ℕ) × (y : Node) × (slice_get (z ∷ xs) i ≡ Some y) × (part (greatest_of g z xs) ≡ part (g y)) → (i : ℕ) × (y : Node) × (slice_get (x ∷ z ∷ xs) i ≡ Some y) × (part (greatest_of g x (z ∷ xs)) ≡ part (g y))
      go (inl e) r = (0, x, refl, e)
      go (inr e) (i, y, at, f) = (suc i, y, at, e ∙ f)

  one_way : (g : Node → Cost) (none : Cost) (xs : List Node) (first : Node) → slice_get xs 0 ≡ Some first → (i : ℕ) × (y : Node) × (slice_get xs i ≡ Some y) × (part (greatest_among g none xs) ≡ part (g y))
  one_way g none [] first e = cc
  one_way g none (x ∷ xs) first e = one_of g x xs

  module _ (c : Class) (rules : Rules) (inside : ℕ → Node → Bool) (rank : ℕ → Node → ℕ) (cover : IsCover c rules inside rank) (t : Costs) (table : IsTable c rules inside t) where
    abbrev Attains : ℕ → Node → Type 0
    Attains j x = (k : Cost) × Path c rules j x k × (part k ≡ part (t j x))

    attains_below : (limit j : ℕ) (x : Node) → inside j x ≡ true → rank j x < limit → Attains j x
    attains_below zero j x h l = absurd (omega (arith, l))
    attains_below (suc limit) j x h l = let at = cover.stands j x h in go at.0 at.1 at.2 (λ i y g low. attains_below limit i y g (omega (arith, low, l))) (is_return at.1.instruction) refl
      where
        Later : Type 0
        Later = (i : ℕ) (y : Node) → inside i y ≡ true → rank i y < rank j x → Attains i y

        further : (m : Method) (p : Placed) → StandsAt c j x.place m p → Later → (first : Node) → slice_get (successors c.view (rules j) p x) 0 ≡ Some first → (o : Option ℕ) → call_of c.view p.instruction ≡ o → Attains j x
        further m p s later first f None e =
            let w = words_at m x.place p.instruction in
            let one = one_way (λ y. after_one w (t j y)) (last_cost m) (successors c.view (rules j) p x) first f in
            let q = cover.closed j x one.1 m p one.0 h s one.2 in
            let r = later j one.1 q.0 q.1 in
            (after_one w r.0, leads m p one.0 one.1 s e one.2 r.1, measure.one w r.0 (t j one.1) r.2 ∙ sym one.3 ∙ ap part (sym (table.plain j x m p h s e)))
        further m p s later first f (Some k) e =
            let n = cover.calls j k x m p h s e in
            let entry = callee_node c rules k n.0 p x in
            let one = one_way (λ y. after_call m (t k entry) (t j y)) (last_cost m) (successors c.view (rules j) p x) first f in
            let q = cover.closed j x one.1 m p one.0 h s one.2 in
            let r = later j one.1 q.0 q.1 in
            let d = later k entry n.2 n.3 in
            (after_call m d.0 r.0, calls m p k n.0 one.0 one.1 s e n.1 one.2 d.1 r.1, measure.call m d.0 (t k entry) r.0 (t j one.1) d.2 r.2 ∙ sym one.3 ∙ ap part (sym (table.called j k x m n.0 p h s e n.1)))

        go : (m : Method) (p : Placed) → StandsAt c j x.place m p → Later → (b : Bool) → is_return p.instruction ≡ b → Attains j x
        go m p s later true e = (last_cost m, ends m p s e, ap part (sym (return_row c rules inside rank cover t table j x m p h s e)))
        go m p s later false e = let y = cover.leads j x m p h s e in further m p s later y.0 y.1 (call_of c.view p.instruction) refl

    attains : (j : ℕ) (x : Node) → inside j x ≡ true → SomePathTakes c rules j x part (part (t j x))
    attains j x h = attains_below (suc (rank j x)) j x h (omega arith)

pub tables_are_bounds : TablesAreBounds
tables_are_bounds c rules inside rank t cover table j x h = record {
  none_exceeds = λ k p. let w = none_exceeds c rules inside rank cover t table j x k h p in record { steps = w.steps; words = w.words; slots = w.slots; depth = w.depth };
  steps = attains (λ k. k.steps) by_steps c rules inside rank cover t table j x h;
  words = attains (λ k. k.words) by_words c rules inside rank cover t table j x h;
  slots = attains (λ k. k.slots) by_slots c rules inside rank cover t table j x h;
  depth = attains (λ k. k.depth) by_depth c rules inside rank cover t table j x h;
}

-- ---- a table

same_of : (f g : Node → Cost) (x : Node) (xs : List Node) → ((i : ℕ) (y : Node) → slice_get (x ∷ xs) i ≡ Some y → f y ≡ g y) → greatest_of f x xs ≡ greatest_of g x xs
same_of f g x [] h = h 0 x refl
same_of f g x (z ∷ xs) h = ap (λ k. greater k (greatest_of f z xs)) (h 0 x refl) ∙ ap (greater (g x)) (same_of f g z xs (λ i y e. h (suc i) y e))

same_way : (f g : Node → Cost) (none : Cost) (xs : List Node) → ((i : ℕ) (y : Node) → slice_get xs i ≡ Some y → f y ≡ g y) → greatest_among f none xs ≡ greatest_among g none xs
same_way f g none [] h = refl
same_way f g none (x ∷ xs) h = same_of f g x xs h

abbrev nothing : Cost
nothing = record { steps = 0; words = 0; slots = 0; depth = 0 }

module _ (c : Class) (rules : Rules) where
  abbrev by_callee : Costs → (j : ℕ) → Method → Placed → Node → ℕ → Option Method → Cost
  by_callee t j m p x k None = nothing
  by_callee t j m p x k (Some n) = cost_from c rules t j m p x (Some (k, n))

  abbrev by_call : Costs → (j : ℕ) → Method → Placed → Node → Option ℕ → Cost
  by_call t j m p x None = cost_from c rules t j m p x None
  by_call t j m p x (Some k) = by_callee t j m p x k (slice_get c.methods k)

  abbrev by_instruction : Costs → (j : ℕ) → Method → Node → Option Placed → Cost
  by_instruction t j m x None = nothing
  by_instruction t j m x (Some p) = by_call t j m p x (call_of c.view p.instruction)

  abbrev by_method : Costs → (j : ℕ) → Node → Option Method → Cost
  by_method t j x None = nothing
  by_method t j x (Some m) = by_instruction t j m x (instruction_at m x.place)

  abbrev cost_within : ℕ → Costs
  cost_within zero j x = nothing
  cost_within (suc n) j x = by_method (cost_within n) j x (slice_get c.methods j)

  module _ (inside : ℕ → Node → Bool) (rank : ℕ → Node → ℕ) (cover : IsCover c rules inside rank) where
    row : (n j : ℕ) (x : Node) (m : Method) (p : Placed) → StandsAt c j x.place m p → cost_within (suc n) j x ≡ by_call (cost_within n) j m p x (call_of c.view p.instruction)
    row n j x m p s = ap (by_method (cost_within n) j x) s.method ∙ ap (by_instruction (cost_within n) j m x) s.instruction

    abbrev Alike : ℕ → ℕ → ℕ → Node → Type 0
    Alike a b j x = cost_within a j x ≡ cost_within b j x

    -- The costs of the nodes inside don't depend on a limit above their ranks.
    plain_same : (t u : Costs) (j : ℕ) (x : Node) (m : Method) (p : Placed) → ((i : ℕ) (y : Node) → slice_get (successors c.view (rules j) p x) i ≡ Some y → t j y ≡ u j y) → cost_from c rules t j m p x None ≡ cost_from c rules u j m p x None
    plain_same t u j x m p h = same_way _ _ (last_cost m) (successors c.view (rules j) p x) (λ i y e. ap (after_one (words_at m x.place p.instruction)) (h i y e))

    called_same : (t u : Costs) (j k : ℕ) (x : Node) (m n : Method) (p : Placed) → t k (callee_node c rules k n p x) ≡ u k (callee_node c rules k n p x) → ((i : ℕ) (y : Node) → slice_get (successors c.view (rules j) p x) i ≡ Some y → t j y ≡ u j y) → cost_from c rules t j m p x (Some (k, n)) ≡ cost_from c rules u j m p x (Some (k, n))
    called_same t u j k x m n p e h = same_way _ _ (last_cost m) (successors c.view (rules j) p x) (λ i y f. ap (λ z. after_call m z (t j y)) e ∙ ap (after_call m (u k (callee_node c rules k n p x))) (h i y f))

    call_same : (t u : Costs) (j : ℕ) (x : Node) (m : Method) (p : Placed) → inside j x ≡ true → StandsAt c j x.place m p → ((i : ℕ) (y : Node) → inside i y ≡ true → rank i y < rank j x → t i y ≡ u i y) → (o : Option ℕ) → call_of c.view p.instruction ≡ o → by_call t j m p x o ≡ by_call u j m p x o
    call_same t u j x m p h s later None e = plain_same t u j x m p (λ i y w. let q = cover.closed j x y m p i h s w in later j y q.0 q.1)
    call_same t u j x m p h s later (Some k) e =
        let n = cover.calls j k x m p h s e in
        ap (by_callee t j m p x k) n.1 ∙ called_same t u j k x m n.0 p (later k (callee_node c rules k n.0 p x) n.2 n.3) (λ i y w. let q = cover.closed j x y m p i h s w in later j y q.0 q.1) ∙ sym (ap (by_callee u j m p x k) n.1)

    same_within_rank : (a b j : ℕ) (x : Node) → inside j x ≡ true → rank j x < a → rank j x < b → Alike a b j x
    same_within_rank zero b j x h l r = absurd (omega (arith, l))
    same_within_rank (suc a) zero j x h l r = absurd (omega (arith, r))
    same_within_rank (suc a) (suc b) j x h l r =
        let at = cover.stands j x h in
        row a j x at.0 at.1 at.2 ∙ call_same (cost_within a) (cost_within b) j x at.0 at.1 h at.2 (λ i y g low. same_within_rank a b i y g (omega (arith, low, l)) (omega (arith, low, r))) (call_of c.view at.1.instruction) refl ∙ sym (row b j x at.0 at.1 at.2)

    abbrev costs : Costs
    costs j x = cost_within (suc (rank j x)) j x

    lower_is : (j : ℕ) (x : Node) (i : ℕ) (y : Node) → inside i y ≡ true → rank i y < rank j x → cost_within (rank j x) i y ≡ costs i y
    lower_is j x i y g low = same_within_rank (rank j x) (suc (rank i y)) i y g low (omega arith)

    one_row : (j : ℕ) (x : Node) (m : Method) (p : Placed) → inside j x ≡ true → StandsAt c j x.place m p → costs j x ≡ by_call costs j m p x (call_of c.view p.instruction)
    one_row j x m p h s = row (rank j x) j x m p s ∙ call_same (cost_within (rank j x)) costs j x m p h s (λ i y g low. lower_is j x i y g low) (call_of c.view p.instruction) refl

    filled : IsTable c rules inside costs
    filled = record {
      plain = λ j x m p h s e. one_row j x m p h s ∙ ap (by_call costs j m p x) e;
      called = λ j k x m n p h s e known. one_row j x m p h s ∙ ap (by_call costs j m p x) e ∙ ap (by_callee costs j m p x k) known;
    }

pub each_has_table : EachHasTable
each_has_table c rules inside rank cover = (costs c rules inside rank cover, filled c rules inside rank cover)
