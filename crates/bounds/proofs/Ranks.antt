-- A class that is not recursive has ranks, and a class with ranks is not recursive.
use Rattle.std.proofs.Common.{◌≡◌, ℕ, zero, suc, ◌+◌, ◌<◌, ◌≤◌, ◌==◌, Bool, true, false, cond, List, [], ◌∷◌, ◌++◌, length, Option, Some, None, refl, sym, ap, ◌∙◌, subst, arith, ◌⊎◌, inl, inr}
use Rattle.std.specs.Prelude.{slice_get, not}
use Rattle.std.proofs.lemmas.Bool.{eqb-true, cases_lt}
use Rattle.std.proofs.lemmas.Option.{slice_get_past}
use Rattle.jtypes.specs.Lists.{result_list}
use Rattle.classfile.specs.View.{ClassView}
use Rattle.decode.specs.declared.instruction.Placed.{Placed}
use Rattle.decode.specs.Places.{at_place}
use Rattle.typecheck.specs.Typing.{Method, Class, call_of}
use Rattle.bounds.specs.Recursion.{HasCall, IsOrdered, IsRecursive}

-- ---- lists of numbers

abbrev Member : List ℕ → ℕ → Type 0
Member [] k = ⊥
Member (x ∷ xs) k = (x ≡ k) ⊎ Member xs k

member_left : (xs ys : List ℕ) (k : ℕ) → Member xs k → Member (xs ++ ys) k
member_left [] ys k h = absurd h
member_left (x ∷ xs) ys k (inl e) = inl e
member_left (x ∷ xs) ys k (inr h) = inr (member_left xs ys k h)

member_right : (xs ys : List ℕ) (k : ℕ) → Member ys k → Member (xs ++ ys) k
member_right [] ys k h = h
member_right (x ∷ xs) ys k h = inr (member_right xs ys k h)

member_cases : (xs ys : List ℕ) (k : ℕ) → Member (xs ++ ys) k → Member xs k ⊎ Member ys k
member_cases [] ys k h = inr h
member_cases (x ∷ xs) ys k (inl e) = inl (inl e)
member_cases (x ∷ xs) ys k (inr h) = go (member_cases xs ys k h)
  where
    go : Member xs k ⊎ Member ys k → ((x ≡ k) ⊎ Member xs k) ⊎ Member ys k
    go (inl m) = inl (inr m)
    go (inr m) = inr m

abbrev is_nil : List ℕ → Bool
is_nil [] = true
is_nil (x ∷ xs) = false

abbrev all_pass : (ℕ → Bool) → List ℕ → Bool
all_pass f [] = true
all_pass f (x ∷ xs) = cond (f x) (all_pass f xs) false

nil_passes : (f : ℕ → Bool) (xs : List ℕ) → is_nil xs ≡ true → all_pass f xs ≡ true
nil_passes f [] h = refl
nil_passes f (x ∷ xs) h = absurd cc

not_nil : (xs : List ℕ) (k : ℕ) → Member xs k → is_nil xs ≡ false
not_nil [] k h = absurd h
not_nil (x ∷ xs) k h = refl

pass_each : (f : ℕ → Bool) (xs : List ℕ) → all_pass f xs ≡ true → (k : ℕ) → Member xs k → f k ≡ true
pass_each f [] e k h = absurd h
pass_each f (x ∷ xs) e k h = go (λ d m. pass_each f xs d k m) (f x) refl e h
  where
    go : (all_pass f xs ≡ true → Member xs k → f k ≡ true) → (b : Bool) → f x ≡ b → cond b (all_pass f xs) false ≡ true → (x ≡ k) ⊎ Member xs k → f k ≡ true
    go later true is d (inl s) = subst (λ y. f y ≡ true) s is
    go later true is d (inr m) = later d m
    go later false is d m = absurd cc

fail_some : (f : ℕ → Bool) (xs : List ℕ) → all_pass f xs ≡ false → (k : ℕ) × Member xs k × (f k ≡ false)
fail_some f [] e = absurd cc
fail_some f (x ∷ xs) e = go (fail_some f xs) (f x) refl e
  where
    go : (all_pass f xs ≡ false → (k : ℕ) × Member xs k × (f k ≡ false)) → (b : Bool) → f x ≡ b → cond b (all_pass f xs) false ≡ false → (k : ℕ) × Member (x ∷ xs) k × (f k ≡ false)
    go later true is d = let r = later d in (r.0, inr r.1, r.2)
    go later false is d = (x, inl refl, is)

more_pass : (f g : ℕ → Bool) → ((k : ℕ) → f k ≡ true → g k ≡ true) → (xs : List ℕ) → all_pass f xs ≡ true → all_pass g xs ≡ true
more_pass f g up [] e = refl
more_pass f g up (x ∷ xs) e = go (more_pass f g up xs) (f x) refl e
  where
    go : (all_pass f xs ≡ true → all_pass g xs ≡ true) → (b : Bool) → f x ≡ b → cond b (all_pass f xs) false ≡ true → cond (g x) (all_pass g xs) false ≡ true
    go later true is d = subst (λ b. cond b (all_pass g xs) false ≡ true) (sym (up x is)) (later d)
    go later false is d = absurd cc

was_false : (b : Bool) → not b ≡ true → b ≡ false
was_false true h = absurd cc
was_false false h = refl

-- ---- how many numbers below a bound pass a test

abbrev one_if : Bool → ℕ
one_if true = 1
one_if false = 0

abbrev count : (ℕ → Bool) → ℕ → ℕ
count f zero = 0
count f (suc m) = one_if (f m) + count f m

one_at_most : (b : Bool) → one_if b ≤ 1
one_at_most true = omega arith
one_at_most false = omega arith

at_most : (f : ℕ → Bool) (m : ℕ) → count f m ≤ m
at_most f zero = omega arith
at_most f (suc m) = let later = at_most f m in let now = one_at_most (f m) in omega (arith, later, now)

-- if `f` implies `g`, they agree below `m`, or more numbers below `m` pass `g`
same_or_more : (f g : ℕ → Bool) → ((k : ℕ) → f k ≡ true → g k ≡ true) → (m : ℕ) → (count f m ≤ count g m) × (((j : ℕ) → j < m → f j ≡ g j) ⊎ (count f m < count g m))
same_or_more f g up zero = (omega arith, inl (λ j l. absurd (omega (arith, l))))
same_or_more f g up (suc m) = go (f m) (g m) refl refl (same_or_more f g up m)
  where
    also : ((j : ℕ) → j < m → f j ≡ g j) → f m ≡ g m → (j : ℕ) → j < suc m → (j < m) ⊎ (m ≤ j) → f j ≡ g j
    also same e j l (inl k) = same j k
    also same e j l (inr k) = let here : m ≡ j = omega (arith, l, k) in subst (λ i. f i ≡ g i) here e

    go : (a b : Bool) → f m ≡ a → g m ≡ b → (count f m ≤ count g m) × (((j : ℕ) → j < m → f j ≡ g j) ⊎ (count f m < count g m)) → (one_if (f m) + count f m ≤ one_if (g m) + count g m) × (((j : ℕ) → j < suc m → f j ≡ g j) ⊎ (one_if (f m) + count f m < one_if (g m) + count g m))
    go true false x y later = let z = up m x in absurd (cc (z, y))
    go false true x y later =
        let n : one_if (f m) ≡ 0 = ap one_if x in
        let k : one_if (g m) ≡ 1 = ap one_if y in
        let l = later.0 in
        (omega (arith, n, k, l), inr (omega (arith, n, k, l)))
    go true true x y (l, inl same) =
        let n : one_if (f m) ≡ 1 = ap one_if x in
        let k : one_if (g m) ≡ 1 = ap one_if y in
        (omega (arith, n, k, l), inl (λ j i. also same (x ∙ sym y) j i (cases_lt j m)))
    go true true x y (l, inr more) =
        let n : one_if (f m) ≡ 1 = ap one_if x in
        let k : one_if (g m) ≡ 1 = ap one_if y in
        (omega (arith, n, k, l), inr (omega (arith, n, k, more)))
    go false false x y (l, inl same) =
        let n : one_if (f m) ≡ 0 = ap one_if x in
        let k : one_if (g m) ≡ 0 = ap one_if y in
        (omega (arith, n, k, l), inl (λ j i. also same (x ∙ sym y) j i (cases_lt j m)))
    go false false x y (l, inr more) =
        let n : one_if (f m) ≡ 0 = ap one_if x in
        let k : one_if (g m) ≡ 0 = ap one_if y in
        (omega (arith, n, k, l), inr (omega (arith, n, k, more)))

-- ---- chains of calls, by the callees of each method

module _ (calls : ℕ → List ℕ) where
  -- whether no chain of calls from `j` is longer than `n`
  abbrev within : ℕ → ℕ → Bool
  within zero j = is_nil (calls j)
  within (suc n) j = all_pass (within n) (calls j)

  grows : (n j : ℕ) → within n j ≡ true → within (suc n) j ≡ true
  grows zero j h = nil_passes (within zero) (calls j) h
  grows (suc n) j h = more_pass (within n) (within (suc n)) (grows n) (calls j) h

  without_callees : (n j : ℕ) → calls j ≡ [] → within n j ≡ true
  without_callees zero j e = ap is_nil e
  without_callees (suc n) j e = ap (all_pass (within n)) e

  -- for some length `i`, `within i` and `within (suc i)` agree below `m`
  settles : (fuel n m : ℕ) → m ≤ count (within n) m + fuel → (i : ℕ) × ((j : ℕ) → j < m → within i j ≡ within (suc i) j)
  settles zero n m h = go (same_or_more (within n) (within (suc n)) (grows n) m).1
    where
      go : ((j : ℕ) → j < m → within n j ≡ within (suc n) j) ⊎ (count (within n) m < count (within (suc n)) m) → (i : ℕ) × ((j : ℕ) → j < m → within i j ≡ within (suc i) j)
      go (inl same) = (n, same)
      go (inr more) = let most = at_most (within (suc n)) m in absurd (omega (arith, h, more, most))
  settles (suc fuel) n m h = go (settles fuel (suc n) m) (same_or_more (within n) (within (suc n)) (grows n) m).1
    where
      go : (m ≤ count (within (suc n)) m + fuel → (i : ℕ) × ((j : ℕ) → j < m → within i j ≡ within (suc i) j)) → ((j : ℕ) → j < m → within n j ≡ within (suc n) j) ⊎ (count (within n) m < count (within (suc n)) m) → (i : ℕ) × ((j : ℕ) → j < m → within i j ≡ within (suc i) j)
      go later (inl same) = (n, same)
      go later (inr more) = later (omega (arith, h, more))

  -- for some length the two agree everywhere, if the methods from `m` on have no calls
  settled : (m : ℕ) → ((j : ℕ) → m ≤ j → calls j ≡ []) → (i : ℕ) × ((j : ℕ) → within i j ≡ within (suc i) j)
  settled m none = (found.0, λ j. go j (cases_lt j m))
    where
      found : (i : ℕ) × ((j : ℕ) → j < m → within i j ≡ within (suc i) j)
      found = settles m 0 m (omega arith)

      go : (j : ℕ) → (j < m) ⊎ (m ≤ j) → within found.0 j ≡ within (suc found.0) j
      go j (inl l) = found.1 j l
      go j (inr l) = without_callees found.0 j (none j l) ∙ sym (without_callees (suc found.0) j (none j l))

  -- the number of lengths below `n` that are too small for `j`
  abbrev misses : ℕ → ℕ → ℕ
  misses zero j = 0
  misses (suc n) j = one_if (not (within n j)) + misses n j

  fewer : (a b : Bool) → (b ≡ true → a ≡ true) → one_if (not a) ≤ one_if (not b)
  fewer true b h = omega arith
  fewer false true h = let e = h refl in absurd cc
  fewer false false h = omega arith

  callee_misses : (n j k : ℕ) → Member (calls j) k → misses n k < misses (suc n) j
  callee_misses zero j k h =
      let one : one_if (not (is_nil (calls j))) ≡ 1 = ap (λ b. one_if (not b)) (not_nil (calls j) k h) in
      omega (arith, one)
  callee_misses (suc n) j k h =
      let later = callee_misses n j k h in
      let now = fewer (within n k) (within (suc n) j) (λ e. pass_each (within n) (calls j) e k h) in
      omega (arith, later, now)

  callee_is_lower : (i : ℕ) → ((j : ℕ) → within i j ≡ true) → (j k : ℕ) → Member (calls j) k → misses i k < misses i j
  callee_is_lower i all j k h =
      let less = callee_misses i j k h in
      let none : one_if (not (within i j)) ≡ 0 = ap (λ b. one_if (not b)) (all j) in
      omega (arith, less, none)

-- ---- the calls of a class's methods

abbrev calls_by : ClassView → Option Placed → List ℕ
calls_by v None = []
calls_by v (Some p) = result_list (call_of v p.instruction)

-- the calls at the pcs of these instructions
abbrev calls_in : ClassView → List Placed → List Placed → List ℕ
calls_in v all [] = []
calls_in v all (x ∷ code) = calls_by v (at_place all x.place) ++ calls_in v all code

abbrev calls_of_method : ClassView → Option Method → List ℕ
calls_of_method v None = []
calls_of_method v (Some m) = calls_in v m.code m.code

abbrev calls_of : Class → ℕ → List ℕ
calls_of c j = calls_of_method c.view (slice_get c.methods j)

listed_in : (v : ClassView) (all code : List Placed) (q : ℕ) (p : Placed) (k : ℕ) → at_place code q ≡ Some p → at_place all q ≡ Some p → call_of v p.instruction ≡ Some k → Member (calls_in v all code) k
listed_in v all [] q p k e there is = absurd cc
listed_in v all (x ∷ code) q p k e there is = go (λ d. listed_in v all code q p k d there is) (x.place == q) refl e
  where
    go : (at_place code q ≡ Some p → Member (calls_in v all code) k) → (b : Bool) → (x.place == q) ≡ b → cond b (Some x) (at_place code q) ≡ Some p → Member (calls_by v (at_place all x.place) ++ calls_in v all code) k
    go later true s d =
        let place : x.place ≡ q = eqb-true x.place q s in
        let here : at_place all x.place ≡ Some p = ap (at_place all) place ∙ there in
        let one : Member (result_list (call_of v p.instruction)) k = subst (λ o. Member (result_list o) k) (sym is) (inl refl) in
        member_left (calls_by v (at_place all x.place)) (calls_in v all code) k (subst (λ o. Member (calls_by v o) k) (sym here) one)
    go later false s d = member_right (calls_by v (at_place all x.place)) (calls_in v all code) k (later d)

only_result : (o : Option ℕ) (k : ℕ) → Member (result_list o) k → o ≡ Some k
only_result None k h = absurd h
only_result (Some x) k (inl e) = ap (λ y. Some y) e
only_result (Some x) k (inr h) = absurd h

call_in : (v : ClassView) (all code : List Placed) (k : ℕ) → Member (calls_in v all code) k → (q : ℕ) × (p : Placed) × (at_place all q ≡ Some p) × (call_of v p.instruction ≡ Some k)
call_in v all [] k h = absurd h
call_in v all (x ∷ code) k h = go (call_in v all code k) (member_cases (calls_by v (at_place all x.place)) (calls_in v all code) k h)
  where
    here : (o : Option Placed) → at_place all x.place ≡ o → Member (calls_by v o) k → (q : ℕ) × (p : Placed) × (at_place all q ≡ Some p) × (call_of v p.instruction ≡ Some k)
    here None e m = absurd m
    here (Some p) e m = (x.place, p, e, only_result (call_of v p.instruction) k m)

    go : (Member (calls_in v all code) k → (q : ℕ) × (p : Placed) × (at_place all q ≡ Some p) × (call_of v p.instruction ≡ Some k)) → Member (calls_by v (at_place all x.place)) k ⊎ Member (calls_in v all code) k → (q : ℕ) × (p : Placed) × (at_place all q ≡ Some p) × (call_of v p.instruction ≡ Some k)
    go later (inl m) = here (at_place all x.place) refl m
    go later (inr m) = later m

listed : (c : Class) (j k : ℕ) → HasCall c j k → Member (calls_of c j) k
listed c j k h = subst (λ o. Member (calls_of_method c.view o) k) (sym h.3) (listed_in c.view h.0.code h.0.code h.1 h.2 k h.4 h.4 h.5)

has_call : (c : Class) (j k : ℕ) → Member (calls_of c j) k → HasCall c j k
has_call c j k h = go (slice_get c.methods j) refl h
  where
    go : (o : Option Method) → slice_get c.methods j ≡ o → Member (calls_of_method c.view o) k → HasCall c j k
    go None e m = absurd m
    go (Some x) e m = let r = call_in c.view x.code x.code k m in (x, r.0, r.1, e, r.2, r.3)

-- ---- ranks

pub not_recursive_has_ranks : (c : Class) → (IsRecursive c → ⊥) → (rank : ℕ → ℕ) × IsOrdered c rank
not_recursive_has_ranks c not_recursive = (misses calls i.0, λ j k h. callee_is_lower calls i.0 all j k (listed c j k h))
  where
    calls : ℕ → List ℕ
    calls = calls_of c

    i : (i : ℕ) × ((j : ℕ) → within calls i j ≡ within calls (suc i) j)
    i = settled calls (length c.methods) (λ j l. ap (calls_of_method c.view) (slice_get_past c.methods j l))

    missed : (j : ℕ) → not (within calls i.0 j) ≡ true → (k : ℕ) × HasCall c j k × (not (within calls i.0 k) ≡ true)
    missed j e =
        let out : within calls i.0 j ≡ false = was_false (within calls i.0 j) e in
        let r = fail_some (within calls i.0) (calls j) (sym (i.1 j) ∙ out) in
        (r.0, has_call c j r.0 r.1, ap not r.2)

    all : (j : ℕ) → within calls i.0 j ≡ true
    all j = go (within calls i.0 j) refl
      where
        go : (b : Bool) → within calls i.0 j ≡ b → within calls i.0 j ≡ true
        go true e = e
        go false e = absurd (not_recursive (λ k. not (within calls i.0 k), (j, ap not e), missed))

pub ranked_is_not_recursive : (c : Class) → (rank : ℕ → ℕ) × IsOrdered c rank → IsRecursive c → ⊥
ranked_is_not_recursive c ranks r = none (suc (ranks.0 r.1.0)) r.1.0 (omega arith) r.1.1
  where
    none : (n j : ℕ) → ranks.0 j < n → r.0 j ≡ true → ⊥
    none zero j l e = omega (arith, l)
    none (suc n) j l e =
        let next = r.2 j e in
        let less = ranks.1 j next.0 next.1 in
        none n next.0 (omega (arith, l, less)) next.2
