-- The groups that a worker makes or defers.
use Rattle.std.proofs.Common.{◌≡◌, ◌≢◌, ◌⊎◌, ℕ, zero, suc, ◌+◌, ◌<◌, ◌≤◌, ◌==◌, List, [], ◌∷◌, ◌++◌, Bool, true, false, not, length, get_or, set, replicate, refl, sym, ap, ◌∙◌, subst, inl, inr, ⊎_elim, arith}
use Rattle.std.proofs.lemmas.List.{get_or-set_same, get_or-set_other, length-set, length-replicate}
use mathlib.Core.Logic.{dite}
use native.Mathlib.Decide.{ℕ_discrete, dec_le}
use Rattle.claims.specs.Counters.{Numbering, Share, one_if, times, with_number, at_end, IsAbove}
use Rattle.claims.proofs.Totals.{total_append}
use Rattle.stripe.specs.History.{Call}
use Rattle.cache.specs.Opened.{Opened}
use Rattle.invokeall.specs.declared.groups.Groups.{Groups}
use Rattle.invokeall.specs.declared.worker.Worker.{Worker}
use Rattle.invokeall.specs.Groups.{groups_in, members, members_of_all, AreDifferent}
use Rattle.invokeall.specs.Workers.{numbers, IsReady, HasAnswered, HasPutOff}
use Rattle.invokeall.proofs.Members.{same_test, other_test, claimed_once, different_members, members_more}
use Rattle.invokeall.proofs.Turns.{none_answered, same_answered}

pub nothing_marked : (m x : ℕ) → get_or (replicate m false) x false ≡ false
nothing_marked zero x = refl
nothing_marked (suc m) zero = refl
nothing_marked (suc m) (suc x) = nothing_marked m x

-- The groups whose calls were made, with `g` appended if its calls were made.
abbrev pub behind : Bool → List ℕ → ℕ → List ℕ
behind true order g = order ++ g ∷ []
behind false order g = order

some_or_none : (n : ℕ) → (0 < n) ⊎ (n ≡ 0)
some_or_none zero = inr refl
some_or_none (suc n) = inl (omega arith)

-- A number above all numbers of a list isn't in it.
none_above : (gs : List ℕ) (g : ℕ) → IsAbove gs g → times g gs ≡ 0
none_above gs g above = ⊎_elim (λ (h : 0 < times g gs). let c = above g h in absurd (omega arith)) (λ (h : times g gs ≡ 0). h) (some_or_none (times g gs))

times_snoc : (x : ℕ) (gs : List ℕ) (g : ℕ) → times x (gs ++ g ∷ []) ≡ times x gs + one_if (x == g)
times_snoc x gs g = let a = total_append (λ (y : ℕ). one_if (x == y)) gs (g ∷ []) in omega arith

times_snoc_same : (gs : List ℕ) (g : ℕ) → times g (gs ++ g ∷ []) ≡ times g gs + 1
times_snoc_same gs g = let a = times_snoc g gs g in let b = ap one_if (same_test g g refl) in omega arith

times_snoc_other : (x : ℕ) (gs : List ℕ) (g : ℕ) → x ≢ g → times x (gs ++ g ∷ []) ≡ times x gs
times_snoc_other x gs g ne = let a = times_snoc x gs g in let b = ap one_if (other_test x g ne) in omega arith

-- ---- marks

pub earlier_marks : (later : List Bool) (n x : ℕ) (b : Bool) → x < n → get_or (set later n b) x false ≡ get_or later x false
earlier_marks later n x b below = get_or-set_other later n x b false (λ (e : x ≡ n). absurd (omega arith))

-- If there is no mark below `n` and none at `n`, there is none below `n + 1`.
pub one_place_more : (later : List Bool) (n : ℕ) → ((x : ℕ) → x < n → get_or later x false ≡ false) → get_or later n false ≡ false → (x : ℕ) → x < n + 1 → get_or later x false ≡ false
one_place_more later n none here x below = dite (ℕ_discrete x n)
    (λ (e : x ≡ n). ap (λ (y : ℕ). get_or later y false) e ∙ here)
    (λ (ne : x ≢ n). none x (omega arith))

pub unmarked_by : (b : Bool) → not b ≡ true → b ≡ false
unmarked_by false e = refl
unmarked_by true e = absurd (let f = e in cc)

-- ---- a further group is made or deferred

module _ (order : List ℕ) (later : List Bool) (g : ℕ) (t : ℕ → ℕ) (new : times g order ≡ 0) (once : t g ≡ 1) (others : (x : ℕ) → x ≢ g → times x order + one_if (get_or later x false) ≡ t x) (inside : g < length later) where
  marked : (made : Bool) → one_if (get_or (set later g (not made)) g false) ≡ one_if (not made)
  marked made = ap one_if (get_or-set_same later g (not made) false inside)

  unmarked : (made : Bool) (x : ℕ) → x ≢ g → one_if (get_or (set later g (not made)) x false) ≡ one_if (get_or later x false)
  unmarked made x ne = ap one_if (get_or-set_other later g x (not made) false ne)

  of_itself : (made : Bool) → times g (behind made order g) + one_if (get_or (set later g (not made)) g false) ≡ t g
  of_itself true = let a = times_snoc_same order g in let b = marked true in omega arith
  of_itself false = let b = marked false in omega arith

  of_another : (made : Bool) (x : ℕ) → x ≢ g → times x (behind made order g) + one_if (get_or (set later g (not made)) x false) ≡ t x
  of_another true x ne = let a = times_snoc_other x order g ne in let b = unmarked true x ne in let c = others x ne in omega arith
  of_another false x ne = let b = unmarked false x ne in let c = others x ne in omega arith

  pub one_more : (made : Bool) (x : ℕ) → times x (behind made order g) + one_if (get_or (set later g (not made)) x false) ≡ t x
  one_more made x = dite (ℕ_discrete x g)
      (λ (e : x ≡ g). subst (λ (y : ℕ). times y (behind made order g) + one_if (get_or (set later g (not made)) y false) ≡ t y) (sym e) (of_itself made))
      (λ (ne : x ≢ g). of_another made x ne)

module _ {L : Type 0} (loads : Bool) (d : Opened L) (counter : Numbering) (groups : Groups) (calls : List Call) (v : Worker) where
  abbrev of : List ℕ
  of = groups_in groups calls

  abbrev n : ℕ
  n = length calls

  -- The invariant of a running worker: it has made or deferred each group that it claimed.
  pub record IsOnItsWay (w : Worker) (later : List Bool) : Type 0 where
    pub at : w.claimer.counter ≡ counter
    pub once : (x : ℕ) → times x w.claimer.drawn ≤ 1
    pub within : (x : ℕ) → counter.jobs ≤ x → times x w.claimer.drawn ≡ 0
    pub long : length later ≡ 64
    pub put_off : HasPutOff loads d groups calls v w later

  -- The invariant holds before the first claim.
  pub at_start : IsReady d counter n v → IsOnItsWay v (replicate 64 false)
  at_start ready =
      let drawn : v.claimer.drawn ≡ [] = ap (λ (s : Share). s.drawn) ready.claimer in
      record {
        at = ap (λ (s : Share). s.counter) ready.claimer;
        once = λ x. let none = ap (times x) drawn in omega arith;
        within = λ x beyond. ap (times x) drawn;
        long = length-replicate 64 false;
        put_off = record {
          order = [];
          claimed = λ x. let a = ap one_if (nothing_marked 64 x) in let b = ap (times x) drawn in omega arith;
          answered = none_answered loads d calls v ready.answers;
        };
      }

  module _ (w : Worker) (later : List Bool) (i : IsOnItsWay w later) where
    abbrev order : List ℕ
    order = i.put_off.order

    pub few_made : (x : ℕ) → times x order ≤ 1
    few_made x = let a = i.put_off.claimed x in let b = i.once x in omega arith

    -- The answers to a group that it hasn't made have new numbers.
    pub free_group : (g : ℕ) → times g order ≡ 0 → AreDifferent n (numbers w.answers.items ++ members of g n)
    free_group g new =
        subst (AreDifferent n) (members_more of order n g ∙ ap (λ (l : List ℕ). l ++ members of g n) (sym i.put_off.answered.numbers_are))
        (different_members of (order ++ g ∷ []) n (λ x. dite (ℕ_discrete x g)
        (λ (e : x ≡ g). let a = times_snoc_same order g in let b = ap (λ (y : ℕ). times y (order ++ g ∷ [])) e in omega arith)
        (λ (ne : x ≢ g). let a = times_snoc_other x order g ne in let b = few_made x in omega arith)))

    answered_more : (w' : Worker) (g : ℕ) (made : Bool) → (made ≡ true → HasAnswered loads d calls v w' (members_of_all of n order ++ members of g n)) → (made ≡ false → HasAnswered loads d calls v w' (members_of_all of n order))
        → HasAnswered loads d calls v w' (members_of_all of n (behind made order g))
    answered_more w' g true did did_not = subst (HasAnswered loads d calls v w') (sym (members_more of order n g)) (did refl)
    answered_more w' g false did did_not = did_not refl

    -- A newly claimed group.
    module _ (g : ℕ) (above : IsAbove w.claimer.drawn g) where
      pub new_claimed : times g order ≡ 0
      new_claimed = let a = none_above w.claimer.drawn g above in let b = i.put_off.claimed g in omega arith

      pub on_claim : (w' : Worker) (made : Bool) → g < counter.jobs → counter.jobs ≤ 64 → w'.claimer ≡ with_number w.claimer g
          → (made ≡ true → HasAnswered loads d calls v w' (members_of_all of n order ++ members of g n)) → (made ≡ false → HasAnswered loads d calls v w' (members_of_all of n order)) → IsOnItsWay w' (set later g (not made))
      on_claim w' made below few claimer did did_not =
          let more : w'.claimer.drawn ≡ w.claimer.drawn ++ g ∷ [] = ap (λ (s : Share). s.drawn) claimer in
          let none = none_above w.claimer.drawn g above in
          record {
            at = ap (λ (s : Share). s.counter) claimer ∙ i.at;
            once = λ x. let a = claimed_once w.claimer.drawn g above i.once x in let b = ap (times x) more in omega arith;
            within = λ x beyond. let a = times_snoc_other x w.claimer.drawn g (λ (e : x ≡ g). let h = below in absurd (omega arith)) in let b = ap (times x) more in let c = i.within x beyond in omega arith;
            long = length-set later g (not made) ∙ i.long;
            put_off = record {
              order = behind made order g;
              claimed = λ x. one_more order later g (λ y. times y (w.claimer.drawn ++ g ∷ [])) new_claimed (let a = times_snoc_same w.claimer.drawn g in omega arith)
                  (λ y ne. let a = i.put_off.claimed y in let b = times_snoc_other y w.claimer.drawn g ne in omega arith) (let h = i.long in omega arith) made x ∙ sym (ap (times x) more);
              answered = answered_more w' g made did did_not;
            };
          }

    -- A deferred group.
    module _ (g : ℕ) (is : get_or later g false ≡ true) where
      one_marked : one_if (get_or later g false) ≡ 1
      one_marked = ap one_if is

      pub new_caught : times g order ≡ 0
      new_caught = let a = i.put_off.claimed g in let b = i.once g in let c = one_marked in omega arith

      pub on_return : (w' : Worker) (made : Bool) → g < counter.jobs → counter.jobs ≤ 64 → w'.claimer ≡ w.claimer
          → (made ≡ true → HasAnswered loads d calls v w' (members_of_all of n order ++ members of g n)) → (made ≡ false → HasAnswered loads d calls v w' (members_of_all of n order)) → IsOnItsWay w' (set later g (not made))
      on_return w' made below few claimer did did_not =
          let same : w'.claimer.drawn ≡ w.claimer.drawn = ap (λ (s : Share). s.drawn) claimer in
          record {
            at = ap (λ (s : Share). s.counter) claimer ∙ i.at;
            once = λ x. let a = i.once x in let b = ap (times x) same in omega arith;
            within = λ x beyond. let b = ap (times x) same in let c = i.within x beyond in omega arith;
            long = length-set later g (not made) ∙ i.long;
            put_off = record {
              order = behind made order g;
              claimed = λ x. one_more order later g (λ y. times y w.claimer.drawn) new_caught (let a = i.put_off.claimed g in let b = one_marked in let c = new_caught in omega arith)
                  (λ y ne. i.put_off.claimed y) (let h = i.long in omega arith) made x ∙ sym (ap (times x) same);
              answered = answered_more w' g made did did_not;
            };
          }

    -- A claim finds no number left.
    pub told_end : (s : Share) → s ≡ at_end w.claimer → IsOnItsWay (record w { claimer = s }) later
    told_end s is =
        let same : s.drawn ≡ w.claimer.drawn = ap (λ (t : Share). t.drawn) is in
        record {
          at = ap (λ (t : Share). t.counter) is ∙ i.at;
          once = λ x. let a = i.once x in let b = ap (times x) same in omega arith;
          within = λ x beyond. ap (times x) same ∙ i.within x beyond;
          long = i.long;
          put_off = record {
            order = order;
            claimed = λ x. i.put_off.claimed x ∙ sym (ap (times x) same);
            answered = same_answered loads d calls v w s (members_of_all of n order) i.put_off.answered;
          };
        }

    -- If no deferred group is left, it has made each group that it claimed.
    pub none_left : ((x : ℕ) → x < counter.jobs → get_or later x false ≡ false) → (x : ℕ) → times x order ≡ times x w.claimer.drawn
    none_left none x = dite (dec_le counter.jobs x)
        (λ beyond. let a = i.put_off.claimed x in let b = i.within x beyond in omega arith)
        (λ ne. let below : x < counter.jobs = omega arith in let a = i.put_off.claimed x in let b = ap one_if (none x below) in omega arith)
