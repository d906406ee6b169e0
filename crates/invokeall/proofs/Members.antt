-- The numbers of the jobs in groups.
use Rattle.std.proofs.Common.{◌≡◌, ◌≢◌, ◌⊎◌, ℕ, zero, suc, ◌+◌, ◌<◌, ◌≤◌, ◌==◌, ltb, List, [], ◌∷◌, ◌++◌, Bool, true, false, if◌then◌else◌, length, get_or, set, replicate, refl, sym, ap, ◌∙◌, subst, inl, inr, ⊎_elim, arith, append_assoc, length-append}
use Rattle.std.proofs.lemmas.Bool.Decides.{nat_tests}
use Rattle.std.proofs.lemmas.List.{append-nil, get_or-set_same, get_or-set_other, get_or-replicate, length-set}
use mathlib.Core.Logic.{dite}
use native.Mathlib.Decide.{ℕ_discrete}
use Rattle.claims.specs.Counters.{one_if, times, IsAbove}
use Rattle.claims.proofs.Totals.{total_append}
use Rattle.invokeall.specs.Groups.{members, members_of_all, IsFirst, AreLinked, AreDifferent}

pub same_test : (a b : ℕ) → a ≡ b → (a == b) ≡ true
same_test a b e = grind (arith, nat_tests)

pub other_test : (a b : ℕ) → a ≢ b → (a == b) ≡ false
other_test a b e = grind (arith, nat_tests)

-- ---- the occurrences of a number among members

-- The occurrences after one further number.
one_step : (b c : Bool) (t x k : ℕ) → t ≡ (if ltb x k then one_if c else 0) → (x ≡ k → b ≡ c) → t + times x (if b then k ∷ [] else []) ≡ (if ltb x (suc k) then one_if c else 0)
one_step true true t x k e same = grind (arith, nat_tests)
one_step true false t x k e same = grind (arith, nat_tests)
one_step false true t x k e same = grind (arith, nat_tests)
one_step false false t x k e same = grind (arith, nat_tests)

-- The members of a group are the numbers below `k` with that group.
pub times_members : (of : List ℕ) (g k x : ℕ) → times x (members of g k) ≡ (if ltb x k then one_if (get_or of x 0 == g) else 0)
times_members of g zero x = none (get_or of x 0 == g)
  where
    none : (c : Bool) → 0 ≡ (if ltb x 0 then one_if c else 0)
    none c = grind (arith, nat_tests)
times_members of g (suc k) x =
    let last : List ℕ = if get_or of k 0 == g then k ∷ [] else [] in
    total_append (λ (y : ℕ). one_if (x == y)) (members of g k) last
    ∙ one_step (get_or of k 0 == g) (get_or of x 0 == g) (times x (members of g k)) x k (times_members of g k x) (λ (e : x ≡ k). ap (λ (i : ℕ). get_or of i 0 == g) (sym e))

pub sum_if : (b : Bool) (s t : ℕ) → (if b then s else 0) + (if b then t else 0) ≡ (if b then s + t else 0)
sum_if true s t = refl
sum_if false s t = refl

pub same_if : (b : Bool) (z : ℕ) → z ≡ (if b then z else z)
same_if true z = refl
same_if false z = refl

-- A job occurs among the jobs of groups as often as its group occurs among the groups.
pub times_all_members : (of gs : List ℕ) (n x : ℕ) → times x (members_of_all of n gs) ≡ (if ltb x n then times (get_or of x 0) gs else 0)
times_all_members of [] n x = same_if (ltb x n) 0
times_all_members of (g ∷ gs) n x =
    let here : ℕ = one_if (get_or of x 0 == g) in
    let there : ℕ = times (get_or of x 0) gs in
    let a = total_append (λ (y : ℕ). one_if (x == y)) (members of g n) (members_of_all of n gs) in
    let b = times_members of g n x in
    let c = times_all_members of gs n x in
    let d = sum_if (ltb x n) here there in omega arith

-- ---- a list of distinct numbers below n has at most n elements

-- The number of occurrences in a list of the numbers below `n`.
abbrev tally : ℕ → List ℕ → ℕ
tally zero xs = 0
tally (suc n) xs = tally n xs + times n xs

tally_none : (n : ℕ) → tally n [] ≡ 0
tally_none zero = refl
tally_none (suc n) = let h = tally_none n in omega arith

below_more : (x n : ℕ) → one_if (ltb x (suc n)) ≡ one_if (ltb x n) + one_if (n == x)
below_more x n = grind (arith, nat_tests)

below_none : (x : ℕ) → one_if (ltb x 0) ≡ 0
below_none x = grind (arith, nat_tests)

-- A further number counts once if it is below `n`.
tally_more : (n y : ℕ) (ys : List ℕ) → tally n (y ∷ ys) ≡ tally n ys + one_if (ltb y n)
tally_more zero y ys = let h = below_none y in omega arith
tally_more (suc n) y ys = let h = tally_more n y ys in let g = below_more y n in omega arith

tally_few : (n : ℕ) (xs : List ℕ) → ((x : ℕ) → times x xs ≤ 1) → tally n xs ≤ n
tally_few zero xs h = omega arith
tally_few (suc n) xs h = let a = tally_few n xs h in let b = h n in omega arith

itself : (y : ℕ) → one_if (y == y) ≡ 1
itself y = ap one_if (same_test y y refl)

tally_long : (n : ℕ) (xs : List ℕ) → ((x : ℕ) → times x xs ≤ one_if (ltb x n)) → length xs ≤ tally n xs
tally_long n [] h = omega arith
tally_long n (y ∷ ys) h =
    let a = tally_more n y ys in
    let b = h y in
    let c = itself y in
    let d = tally_long n ys (λ x. let e = h x in omega arith) in omega arith

at_most_one : (b : Bool) → one_if b ≤ 1
at_most_one true = omega arith
at_most_one false = omega arith

pub few_different : (n : ℕ) (xs : List ℕ) → AreDifferent n xs → length xs ≤ n
few_different n xs h =
    let a = tally_long n xs h in
    let b = tally_few n xs (λ x. let c = h x in let d = at_most_one (ltb x n) in omega arith) in omega arith

-- ---- the members of a further group

if_more : (a b : Bool) (t : ℕ) → (a ≡ true → b ≡ true) → (if a then t else 0) ≤ (if b then t else 0)
if_more true true t h = omega arith
if_more true false t h = absurd (let e = h refl in cc)
if_more false b t h = omega arith

below_later : (x k n : ℕ) → k ≤ n → ltb x k ≡ true → ltb x n ≡ true
below_later x k n h e = grind (arith, nat_tests)

-- The members below `k` are among those below `n`, if `k` is at most `n`.
pub fewer_members : (of : List ℕ) (g k n x : ℕ) → k ≤ n → times x (members of g k) ≤ times x (members of g n)
fewer_members of g k n x h =
    let a = times_members of g k x in
    let b = times_members of g n x in
    let c = if_more (ltb x k) (ltb x n) (one_if (get_or of x 0 == g)) (below_later x k n h) in omega arith

-- A job of the group is its next member.
pub member_here : (of : List ℕ) (g k : ℕ) → get_or of k 0 ≡ g → members of g (suc k) ≡ members of g k ++ k ∷ []
member_here of g k e = ap (λ (b : Bool). members of g k ++ (if b then k ∷ [] else [])) (same_test (get_or of k 0) g e)

-- A job of another group is not a member.
member_elsewhere : (of : List ℕ) (g k : ℕ) → get_or of k 0 ≢ g → members of g (suc k) ≡ members of g k
member_elsewhere of g k e = ap (λ (b : Bool). members of g k ++ (if b then k ∷ [] else [])) (other_test (get_or of k 0) g e) ∙ append-nil (members of g k)

-- There is no member from a number to the first member after it.
pub members_skip : (of : List ℕ) (g j r : ℕ) → j ≤ r → ((k : ℕ) → j ≤ k → k < r → get_or of k 0 ≢ g) → members of g r ≡ members of g j
members_skip of g j zero h none = let e : zero ≡ j = omega arith in ap (members of g) e
members_skip of g j (suc r) h none = dite (ℕ_discrete (suc r) j)
    (λ (e : suc r ≡ j). ap (members of g) e)
    (λ (ne : suc r ≢ j). member_elsewhere of g r (none r (omega arith) (omega arith)) ∙ members_skip of g j r (omega arith) (λ k a b. none k a (omega arith)))

-- There is no member before the first one.
pub members_first : (of : List ℕ) (g r : ℕ) → IsFirst of g 0 r → members of g r ≡ []
members_first of g r f = members_skip of g 0 r f.from f.none

-- The members below the next member are those below a member, and that member.
pub members_next : (of : List ℕ) (g k r : ℕ) → get_or of k 0 ≡ g → IsFirst of (get_or of k 0) (k + 1) r → members of g r ≡ members of g k ++ k ∷ []
members_next of g k r is f =
    members_skip of g (suc k) r (let h = f.from in omega arith) (λ j a b same. f.none j (omega arith) b (same ∙ sym is)) ∙ member_here of g k is

-- ---- the links of groups

-- The initial state, in which no job is linked.
pub linked_none : (of : List ℕ) (groups n : ℕ) (firsts nexts : List ℕ) → length of ≡ n → length firsts ≡ groups → length nexts ≡ n → firsts ≡ replicate groups n → AreLinked of groups n firsts nexts
linked_none of groups n firsts nexts long a b blank = record {
  groups_are = a;
  calls_are = b ∙ sym long;
  within = λ k h below. absurd (omega arith);
  first = λ g below. subst (IsFirst of g n) (sym (ap (λ (l : List ℕ). get_or l g 0) blank ∙ get_or-replicate groups g n 0 below))
      (record { from = omega arith; most = omega arith; none = λ k h h'. absurd (omega arith); here = λ h. absurd (omega arith) });
  next = λ k h below. absurd (omega arith);
}

-- One further job, before the linked ones.
module _ (of : List ℕ) (groups j g : ℕ) (firsts nexts : List ℕ) (is : get_or of j 0 ≡ g) (some_group : g < groups) (below : j < length of) (old : AreLinked of groups (j + 1) firsts nexts) where
  earlier : (i r : ℕ) → i ≢ g → IsFirst of i (j + 1) r → IsFirst of i j r
  earlier i r other f = record {
    from = let h = f.from in omega arith;
    most = f.most;
    none = λ k a b. dite (ℕ_discrete k j)
        (λ (e : k ≡ j). λ (same : get_or of k 0 ≡ i). other (sym same ∙ ap (λ (m : ℕ). get_or of m 0) e ∙ is))
        (λ (ne : k ≢ j). f.none k (omega arith) b);
    here = f.here;
  }

  itself_first : IsFirst of g j j
  itself_first = record { from = omega arith; most = omega arith; none = λ k a b. absurd (omega arith); here = λ _. is }

  abbrev new_firsts : List ℕ
  new_firsts = set firsts g j

  abbrev new_nexts : List ℕ
  new_nexts = set nexts j (get_or firsts g 0)

  first_of : (i : ℕ) → i < groups → IsFirst of i j (get_or new_firsts i 0)
  first_of i few = dite (ℕ_discrete i g)
      (λ (e : i ≡ g). subst (λ (m : ℕ). IsFirst of m j (get_or new_firsts m 0)) (sym e)
      (subst (IsFirst of g j) (sym (get_or-set_same firsts g j 0 (omega (arith, old.groups_are)))) itself_first))
      (λ (ne : i ≢ g). subst (IsFirst of i j) (sym (get_or-set_other firsts g i j 0 ne)) (earlier i (get_or firsts i 0) ne (old.first i few)))

  next_of : (k : ℕ) → j ≤ k → k < length of → IsFirst of (get_or of k 0) (k + 1) (get_or new_nexts k 0)
  next_of k from few = dite (ℕ_discrete k j)
      (λ (e : k ≡ j). subst (λ (m : ℕ). IsFirst of (get_or of m 0) (m + 1) (get_or new_nexts m 0)) (sym e)
      (subst (IsFirst of (get_or of j 0) (j + 1)) (sym (get_or-set_same nexts j (get_or firsts g 0) 0 (omega (arith, old.calls_are))))
      (subst (λ (m : ℕ). IsFirst of m (j + 1) (get_or firsts g 0)) (sym is) (old.first g some_group))))
      (λ (ne : k ≢ j). subst (IsFirst of (get_or of k 0) (k + 1)) (sym (get_or-set_other nexts j k (get_or firsts g 0) 0 ne)) (old.next k (omega arith) few))

  pub linked_more : AreLinked of groups j new_firsts new_nexts
  linked_more = record {
    groups_are = length-set firsts g j ∙ old.groups_are;
    calls_are = length-set nexts j (get_or firsts g 0) ∙ old.calls_are;
    within = λ k from few. dite (ℕ_discrete k j)
        (λ (e : k ≡ j). let same = ap (λ (m : ℕ). get_or of m 0) e in omega (arith, is))
        (λ (ne : k ≢ j). old.within k (omega arith) few);
    first = first_of;
    next = next_of;
  }

-- ---- the groups that a worker claimed

-- A group above all groups that were claimed before is a new one.
pub claimed_once : (gs : List ℕ) (g : ℕ) → IsAbove gs g → ((x : ℕ) → times x gs ≤ 1) → (x : ℕ) → times x (gs ++ g ∷ []) ≤ 1
claimed_once gs g above once x =
    let a = total_append (λ (y : ℕ). one_if (x == y)) gs (g ∷ []) in
    let b = once x in
    dite (ℕ_discrete x g)
    (λ (e : x ≡ g).
    let one = ap one_if (same_test x g e) in
    let none : times x gs ≤ 0 = ⊎_elim (λ (h : 0 < times x gs). let c = above x h in absurd (omega arith)) (λ (h : times x gs ≤ 0). h) (some_or_none (times x gs)) in omega arith)
    (λ (ne : x ≢ g). let none = ap one_if (other_test x g ne) in omega arith)
  where
    some_or_none : (n : ℕ) → (0 < n) ⊎ (n ≤ 0)
    some_or_none zero = inr (omega arith)
    some_or_none (suc n) = inl (omega arith)

pub if_one : (b : Bool) (t : ℕ) → t ≤ 1 → (if b then t else 0) ≤ 1
if_one true t h = h
if_one false t h = omega arith

pub if_below : (x n t : ℕ) → x < n → (if ltb x n then t else 0) ≡ t
if_below x n t h = grind (arith, nat_tests)

if_few : (b : Bool) (t : ℕ) → t ≤ 1 → (if b then t else 0) ≤ one_if b
if_few true t h = h
if_few false t h = omega arith

-- If each group was claimed at most once, the numbers of their jobs are distinct.
pub different_members : (of gs : List ℕ) (n : ℕ) → ((x : ℕ) → times x gs ≤ 1) → AreDifferent n (members_of_all of n gs)
different_members of gs n once x = let a = times_all_members of gs n x in let b = if_few (ltb x n) (times (get_or of x 0) gs) (once (get_or of x 0)) in omega arith

-- The jobs of a further group are appended.
pub members_more : (of gs : List ℕ) (n g : ℕ) → members_of_all of n (gs ++ g ∷ []) ≡ members_of_all of n gs ++ members of g n
members_more of [] n g = append-nil (members of g n)
members_more of (h ∷ gs) n g = ap (λ (l : List ℕ). members of h n ++ l) (members_more of gs n g) ∙ sym (append_assoc (members of h n) (members_of_all of n gs) (members of g n))

-- There is capacity for the next member of a group.
pub room_more : (of before : List ℕ) (g n k : ℕ) → AreDifferent n (before ++ members of g n) → k < n → get_or of k 0 ≡ g → length (before ++ members of g k) < n
room_more of before g n k different below is =
    let next : List ℕ = before ++ members of g (suc k) in
    let same = ap (λ (l : List ℕ). length (before ++ l)) (member_here of g k is) in
    let a = few_different n next (λ x.
    let b = fewer_members of g (suc k) n x (omega arith) in
    let c = total_append (λ (y : ℕ). one_if (x == y)) before (members of g (suc k)) in
    let d = total_append (λ (y : ℕ). one_if (x == y)) before (members of g n) in
    let e = different x in omega arith) in
    let f = length-append before (members of g k ++ k ∷ []) in
    let h = length-append (members of g k) (k ∷ []) in
    let i = length-append before (members of g k) in omega arith
