-- The operations on a counter preserve its invariant.
use Rattle.std.proofs.Common.{◌≡◌, ◌≢◌, ◌⊎◌, ℕ, zero, suc, ◌+◌, ◌%◌, ◌^◌, ◌<◌, ◌≤◌, ◌==◌, ltb, List, [], ◌∷◌, ◌++◌, length, get_or, set, refl, sym, ap, ◌∙◌, subst, ⊎_elim, arith, length-append, length-set, get_or-set_same}
use Rattle.std.proofs.lemmas.Bool.Decides.{nat_tests}
use mathlib.Core.Option.{some, none, some-injective, some-ne-none}
use lib.ListN.{get_elem?}
use Rattle.atomic_table.specs.Table.{State, Me, Allows, Splits, Joins, opening, step, keeps}
use Rattle.atomic_table.proofs.Lists.{at_set, at_snoc}
use Rattle.claims.specs.declared.known.Terms.{Terms}
use Rattle.claims.specs.Counters.{total, one_if, times, IsAbove}
use Rattle.claims.specs.Views.{View, hand, without_one, one_alone, together, spent}
use Rattle.claims.specs.Rule.{IsFair, IsOnce, with_drawn, with_end, on_next}
use Rattle.claims.proofs.Totals.{total_append, total_set, total_has, total_most, total_alone}

abbrev pub S : Type 0
S = State ℕ View

either_way : (a b : ℕ) → (a < b) ⊎ (b ≤ a)
either_way a b = grind (arith, nat_tests)

one_more : (x n : ℕ) → one_if (ltb x (n + 1)) ≡ one_if (ltb x n) + one_if (x == n)
one_more x n = grind (arith, nat_tests)

one_below : (x n : ℕ) → 0 < one_if (ltb x n) → x < n
one_below x n h = grind (arith, nat_tests)

none_yet : (x : ℕ) → 0 ≡ one_if (ltb x 0)
none_yet x = grind (arith, nat_tests)

fits_word : (n : ℕ) → n + 1 < 2 ^ 64 → (n + 1) % 2 ^ 64 ≡ n + 1
fits_word n h = omega arith

abbrev AreFair : List View → Type 0
AreFair views = (j : ℕ) (v : View) → get_elem? views j ≡ some v → IsFair v

fair_set : (views : List View) (id : ℕ) (w : View) → IsFair w → AreFair views → AreFair (set views id w)
fair_set views id w mine old j v e = ⊎_elim
    (λ (t : (j ≡ id) × (w ≡ v)). subst IsFair t.1 mine)
    (λ (t : (j ≢ id) × (get_elem? views j ≡ some v)). old j v t.1)
    (at_set views id j w v e)

fair_snoc : (views : List View) (w : View) → IsFair w → AreFair views → AreFair (views ++ w ∷ [])
fair_snoc views w mine old j v e = ⊎_elim
    (λ (h : get_elem? views j ≡ some v). old j v h)
    (λ (h : w ≡ v). subst IsFair h mine)
    (at_snoc views w v j e)

-- The number of claimers that found no number left.
abbrev ended_in : List View → ℕ
ended_in views = total (λ (v : View). v.ended) views

few_ended : (k : Terms) (s : S) → IsOnce k s → ended_in s.views ≤ k.workers
few_ended k s g = let a = total_most (λ (v : View). v.ended) (λ (v : View). v.parts) s.views (λ j v e. (g.each j v e).1) in omega (arith, g.parts)

no_end : (k : Terms) (s : S) (g : IsOnce k s) → get_or s.words 0 0 < k.jobs → ended_in s.views ≡ 0
no_end k s g below = ⊎_elim
    (λ (h : 0 < ended_in s.views). let a = g.last h in let b = g.word in absurd (omega arith))
    (λ (h : ended_in s.views ≤ 0). omega arith)
    (either_way 0 (ended_in s.views))

all_given : (k : Terms) (s : S) (g : IsOnce k s) → k.jobs ≤ get_or s.words 0 0 → g.given ≡ k.jobs
all_given k s g beyond = ⊎_elim
    (λ (h : 0 < ended_in s.views). g.last h)
    (λ (h : ended_in s.views ≤ 0). let a = g.few in let b = g.word in omega arith)
    (either_way 0 (ended_in s.views))

-- The word after an increment, which doesn't overflow.
next_word : (k : Terms) (s : S) (g : IsOnce k s) → get_or (set s.words 0 ((get_or s.words 0 0 + 1) % 2 ^ 64)) 0 0 ≡ get_or s.words 0 0 + 1
next_word k s g =
    let m : ℕ = get_or s.words 0 0 in
    let a = few_ended k s g in
    let b = g.word in
    let c = g.few in
    let small : m + 1 < 2 ^ 64 = omega (arith, g.fits) in
    get_or-set_same s.words 0 ((m + 1) % 2 ^ 64) 0 (omega (arith, g.words)) ∙ fits_word m small

module _ (k : Terms) (n id : ℕ) (drawn : List ℕ) (s : S) (g : IsOnce k s) (at : get_elem? s.views id ≡ some (hand k.jobs k.workers 1 0 drawn)) where
  abbrev mine : View
  mine = hand k.jobs k.workers 1 0 drawn

  abbrev found : ℕ
  found = get_or s.words 0 0

  abbrev after : View → S
  after w = record { words = set s.words 0 ((found + 1) % 2 ^ 64); homes = s.homes; views = set s.views id w }

  long : length drawn ≤ found
  long = let a = total_has (λ (v : View). length v.drawn) s.views id mine at in let b = g.count in let c = g.word in omega arith

  above : IsAbove drawn found
  above x h =
      let a = total_has (λ (v : View). times x v.drawn) s.views id mine at in
      let b = g.once x in
      let c : x < g.given = one_below x g.given (omega arith) in
      let d = g.word in omega arith

  draws : found < k.jobs → IsOnce k (after (with_drawn mine found))
  draws below =
      let w : View = with_drawn mine found in
      let none = no_end k s g below in
      let word = g.word in
      let given : found ≡ g.given = omega arith in
      let ended = total_set (λ (v : View). v.ended) s.views id mine w at in
      record {
        given = g.given + 1;
        words = length-set s.words 0 ((found + 1) % 2 ^ 64) ∙ g.words;
        fits = g.fits;
        few = omega arith;
        once = λ x.
            let a = total_set (λ (v : View). times x v.drawn) s.views id mine w at in
            let b = total_append (λ (y : ℕ). one_if (x == y)) drawn (found ∷ []) in
            let c = one_more x g.given in
            let d = g.once x in
            let e : one_if (x == found) ≡ one_if (x == g.given) = ap (λ (y : ℕ). one_if (x == y)) given in omega arith;
        count = let a = total_set (λ (v : View). length v.drawn) s.views id mine w at in let b = length-append drawn (found ∷ []) in let d = g.count in omega arith;
        word = let a = next_word k s g in omega arith;
        last = λ h. absurd (omega arith);
        parts = let a = total_set (λ (v : View). v.parts) s.views id mine w at in let d = g.parts in omega arith;
        each = fair_set s.views id w ((λ e. absurd (omega arith)), omega arith) g.each;
      }

  ends : k.jobs ≤ found → IsOnce k (after (with_end mine))
  ends beyond =
      let w : View = with_end mine in
      let all = all_given k s g beyond in
      let word = g.word in
      let ended = total_set (λ (v : View). v.ended) s.views id mine w at in
      record {
        given = g.given;
        words = length-set s.words 0 ((found + 1) % 2 ^ 64) ∙ g.words;
        fits = g.fits;
        few = g.few;
        once = λ x. let a = total_set (λ (v : View). times x v.drawn) s.views id mine w at in let d = g.once x in omega arith;
        count = let a = total_set (λ (v : View). length v.drawn) s.views id mine w at in let d = g.count in omega arith;
        word = let a = next_word k s g in omega arith;
        last = λ _. all;
        parts = let a = total_set (λ (v : View). v.parts) s.views id mine w at in let d = g.parts in omega arith;
        each = fair_set s.views id w ((λ e. absurd (omega arith)), omega arith) g.each;
      }

-- A claimer that hasn't found the end may claim the next number.
pub may_draw : (k : Terms) (n id : ℕ) (drawn : List ℕ) → Allows (IsOnce k) n id (hand k.jobs k.workers 1 0 drawn, []) 0 (λ m. (m + 1) % 2 ^ 64) (on_next (step n 0 1 0 none) (hand k.jobs k.workers 1 0 drawn, []))
may_draw k n id drawn s g homes at small =
    let v : View = hand k.jobs k.workers 1 0 drawn in
    let m : ℕ = get_or s.words 0 0 in
    let long : length drawn ≤ m = long k n id drawn s g at in
    let above : IsAbove drawn m = above k n id drawn s g at in
    ⊎_elim
    (λ (h : m < k.jobs). (with_drawn v m, keeps, tt, draws k n id drawn s g at h, (((λ _. refl), (λ e. absurd (omega arith)), long, above), refl)))
    (λ (h : k.jobs ≤ m). (with_end v, keeps, tt, ends k n id drawn s g at h, (((λ e. absurd (omega arith)), (λ _. refl), long, above), refl)))
    (either_way m k.jobs)

pub may_draw_as : (k : Terms) (n id : ℕ) (drawn : List ℕ) (m : Me ℕ View) → m ≡ (hand k.jobs k.workers 1 0 drawn, []) → Allows (IsOnce k) n id m 0 (λ x. (x + 1) % 2 ^ 64) (on_next (step n 0 1 0 none) m)
may_draw_as k n id drawn m is = subst (λ (x : Me ℕ View). Allows (IsOnce k) n id x 0 (λ y. (y + 1) % 2 ^ 64) (on_next (step n 0 1 0 none) x)) (sym is) (may_draw k n id drawn)

-- A view of claimers that have claimed nothing may be split.
pub may_cut : (k : Terms) (id parts : ℕ) → 0 < parts → Splits (IsOnce k) id (hand k.jobs k.workers parts 0 []) (without_one (hand k.jobs k.workers parts 0 [])) (one_alone (hand k.jobs k.workers parts 0 []))
may_cut k id parts some_part s g at =
    let v : View = hand k.jobs k.workers parts 0 [] in
    let a : View = without_one v in
    let b : View = one_alone v in
    let sums : (f : View → ℕ) → f a + f b ≡ f v → total f (set s.views id a ++ b ∷ []) ≡ total f s.views = λ f e. let x = total_set f s.views id v a at in let y = total_append f (set s.views id a) (b ∷ []) in omega arith in
    let ended : ended_in (set s.views id a ++ b ∷ []) ≡ ended_in s.views = sums (λ (y : View). y.ended) refl in
    record {
      given = g.given;
      words = g.words;
      fits = g.fits;
      few = g.few;
      once = λ x. sums (λ (y : View). times x y.drawn) refl ∙ g.once x;
      count = sums (λ (y : View). length y.drawn) refl ∙ g.count;
      word = g.word ∙ ap (λ (e : ℕ). g.given + e) (sym ended);
      last = λ h. g.last (omega arith);
      parts = sums (λ (y : View). y.parts) (omega arith) ∙ g.parts;
      each = fair_snoc (set s.views id a) b ((λ _. refl), omega arith) (fair_set s.views id a ((λ _. refl), omega arith) g.each);
    }

-- Two views of claimers may be joined.
pub may_join : (k : Terms) (id : ℕ) (v : View) (other : ℕ) (w : View) → 0 < v.parts → Joins (IsOnce k) id v other w (together v w) spent
may_join k id v other w some_part s g at apart there =
    let a : View = together v w in
    let one : List View = set s.views id a in
    let views : List View = set one other spent in
    let sums : (f : View → ℕ) → f a ≡ f v + f w → f spent ≡ 0 → total f views ≡ total f s.views = λ f e z. let x = total_set f s.views id v a at in let y = total_set f one other w spent there in omega arith in
    let ended : ended_in views ≡ ended_in s.views = sums (λ (y : View). y.ended) refl refl in
    let left = g.each id v at in
    let right : IsFair w = ⊎_elim
    (λ (t : (other ≡ id) × (a ≡ w)). absurd (apart t.0))
    (λ (t : (other ≢ id) × (get_elem? s.views other ≡ some w)). g.each other w t.1)
    (at_set s.views id other a w there) in
    record {
      given = g.given;
      words = g.words;
      fits = g.fits;
      few = g.few;
      once = λ x. sums (λ (y : View). times x y.drawn) (total_append (λ (y : ℕ). one_if (x == y)) v.drawn w.drawn) refl ∙ g.once x;
      count = sums (λ (y : View). length y.drawn) (length-append v.drawn w.drawn) refl ∙ g.count;
      word = g.word ∙ ap (λ (e : ℕ). g.given + e) (sym ended);
      last = λ h. g.last (omega arith);
      parts = sums (λ (y : View). y.parts) refl refl ∙ g.parts;
      each = fair_set one other spent ((λ _. refl), omega arith) (fair_set s.views id a ((λ e. absurd (omega arith)), omega (arith, left.1, right.1)) g.each);
    }

-- A view of all claimers has all claimed numbers.
pub all_known : (k : Terms) (s : S) (id : ℕ) (v : View) (g : IsOnce k s) → get_elem? s.views id ≡ some v → v.parts ≡ k.workers → (x : ℕ) → times x v.drawn ≡ one_if (ltb x g.given)
all_known k s id v g at all x = sym (total_alone (λ (y : View). times x y.drawn) (λ (y : View). y.parts) s.views id v at (g.parts ∙ sym all) (λ j w e none. ap (times x) ((g.each j w e).0 none))) ∙ g.once x

pub all_counted : (k : Terms) (s : S) (id : ℕ) (v : View) (g : IsOnce k s) → get_elem? s.views id ≡ some v → v.parts ≡ k.workers → length v.drawn ≡ g.given
all_counted k s id v g at all = sym (total_alone (λ (y : View). length y.drawn) (λ (y : View). y.parts) s.views id v at (g.parts ∙ sym all) (λ j w e none. ap (λ (l : List ℕ). length l) ((g.each j w e).0 none))) ∙ g.count

pub all_ended : (k : Terms) (s : S) (id : ℕ) (v : View) (g : IsOnce k s) → get_elem? s.views id ≡ some v → 0 < v.ended → g.given ≡ k.jobs
all_ended k s id v g at some_end = let a = total_has (λ (y : View). y.ended) s.views id v at in g.last (omega arith)

-- A new counter satisfies the invariant.
pub begins : (k : Terms) → k.jobs + k.workers + 1 < 2 ^ 64 → IsOnce k (opening (0 ∷ []) [] (hand k.jobs k.workers k.workers 0 []))
begins k fits = record {
  given = 0;
  words = refl;
  fits = fits;
  few = omega arith;
  once = λ x. none_yet x;
  count = refl;
  word = refl;
  last = λ h. absurd (omega arith);
  parts = omega arith;
  each = λ j v e. one j v e;
}
  where
    one : (j : ℕ) (v : View) → get_elem? (hand k.jobs k.workers k.workers 0 [] ∷ []) j ≡ some v → IsFair v
    one zero v e = subst IsFair (some-injective _ v e) ((λ _. refl), omega arith)
    one (suc j) v e = absurd (some-ne-none v (sym e))
