-- The view of joined claimers.
use Rattle.std.proofs.Common.{◌≡◌, ℕ, ◌+◌, ◌<◌, ◌≤◌, ◌==◌, ltb, List, [], ◌∷◌, ◌++◌, length, get_or, drop, Bool, true, false, refl, sym, ap, ◌∙◌, append_assoc, length-append, ⊎_elim, arith}
use Rattle.std.proofs.lemmas.Bool.Decides.{nat_tests}
use mathlib.Core.Option.{some}
use lib.ListN.{get_elem?}
use Rattle.atomic_table.specs.Table.{State, Me}
use Rattle.atomic_table.proofs.Lists.{at_snoc}
use Rattle.claims.specs.declared.known.Terms.{Terms}
use Rattle.claims.specs.Counters.{Numbering, Share, AreClaimed, fresh, total, one_if, times, times_drawn}
use Rattle.claims.specs.Views.{View, hand, together}
use Rattle.claims.specs.Rule.{IsOnce}
use Rattle.claims.specs.Inside.{all_drawn, view_of}
use Rattle.claims.proofs.Totals.{total_append, total_has}
use Rattle.claims.proofs.Draws.{all_known, all_counted, all_ended}

abbrev pub Sat : Type 0
Sat = Me ℕ View

-- The view of a claimer as a `hand`.
pub is_hand : (m : Sat) (ended : ℕ) → m.0.parts ≡ 1 → m.0.ended ≡ ended → m.1 ≡ [] → m ≡ (hand m.0.jobs m.0.workers 1 ended m.0.drawn, [])
is_hand m ended alone end free = λ i. (record { jobs = m.0.jobs; workers = m.0.workers; parts = alone i; ended = end i; drawn = m.0.drawn }, free i)

drawn_more : (ys : List Share) (x : Share) → all_drawn (ys ++ x ∷ []) ≡ all_drawn ys ++ x.drawn
drawn_more [] x = append_nil x.drawn
  where
    append_nil : (l : List ℕ) → l ++ [] ≡ l
    append_nil [] = refl
    append_nil (y ∷ l) = ap (λ (m : List ℕ). y ∷ m) (append_nil l)
drawn_more (y ∷ ys) x = ap (λ (l : List ℕ). y.drawn ++ l) (drawn_more ys x) ∙ sym (append_assoc y.drawn (all_drawn ys) x.drawn)

-- The view after one further claimer is joined.
pub view_more : (k : Terms) (ys : List Share) (x : Share) (w : View) → w.parts ≡ 1 → w.ended ≡ one_if x.done → w.drawn ≡ x.drawn → together (view_of k ys) w ≡ view_of k (ys ++ x ∷ [])
view_more k ys x w alone ended drawn =
    let parts : length ys + w.parts ≡ length (ys ++ x ∷ []) = let a = length-append ys (x ∷ []) in omega (arith, alone) in
    let ends : total (λ (s : Share). one_if s.done) ys + w.ended ≡ total (λ (s : Share). one_if s.done) (ys ++ x ∷ []) = let a = total_append (λ (s : Share). one_if s.done) ys (x ∷ []) in omega (arith, ended) in
    let draws : all_drawn ys ++ w.drawn ≡ all_drawn (ys ++ x ∷ []) = ap (λ (l : List ℕ). all_drawn ys ++ l) drawn ∙ sym (drawn_more ys x) in
    λ i. record { jobs = k.jobs; workers = k.workers; parts = parts i; ended = ends i; drawn = draws i }

times_all : (x : ℕ) (claimers : List Share) → times x (all_drawn claimers) ≡ times_drawn x claimers
times_all x [] = refl
times_all x (s ∷ claimers) = let a = total_append (λ (y : ℕ). one_if (x == y)) s.drawn (all_drawn claimers) in let b = times_all x claimers in omega arith

length_all : (claimers : List Share) → length (all_drawn claimers) ≡ total (λ (s : Share). length s.drawn) claimers
length_all [] = refl
length_all (s ∷ claimers) = let a = length-append s.drawn (all_drawn claimers) in let b = length_all claimers in omega arith

some_ended : (claimers : List Share) (c : ℕ) (s : Share) → get_elem? claimers c ≡ some s → s.done ≡ true → 0 < total (λ (z : Share). one_if z.done) claimers
some_ended claimers c s at done = let a = total_has (λ (z : Share). one_if z.done) claimers c s at in let b : one_if s.done ≡ 1 = ap one_if done in omega arith

-- All claimers together satisfy `AreClaimed`.
pub claims : (k : Terms) (d : Numbering) (claimers : List Share) (s : State ℕ View) (id : ℕ) → d.jobs ≡ k.jobs → length claimers ≡ k.workers → IsOnce k s → get_elem? s.views id ≡ some (view_of k claimers) → AreClaimed d claimers
claims k d claimers s id jobs count g at = record {
  next = g.given;
  jobs = omega (arith, g.few, jobs);
  each = λ x. sym (times_all x claimers) ∙ all_known k s id (view_of k claimers) g at count x;
  count = sym (length_all claimers) ∙ all_counted k s id (view_of k claimers) g at count;
  last = λ c x e done. all_ended k s id (view_of k claimers) g at (some_ended claimers c x e done) ∙ sym jobs;
}

-- So each number was claimed at most once.
pub at_most_once : (d : Numbering) (claimers : List Share) → AreClaimed d claimers → (x : ℕ) → times_drawn x claimers ≤ 1
at_most_once d claimers g x = let a = g.each x in let b = few (ltb x g.next) in omega arith
  where
    few : (b : Bool) → one_if b ≤ 1
    few true = omega arith
    few false = omega arith

-- Each job number was claimed once, if a claimer found no number left.
pub just_once : (d : Numbering) (claimers : List Share) → AreClaimed d claimers → (c : ℕ) (s : Share) → get_elem? claimers c ≡ some s → s.done ≡ true → (x : ℕ) → x < d.jobs → times_drawn x claimers ≡ 1
just_once d claimers g c s at done x below = g.each x ∙ within x g.next (omega (arith, g.last c s at done))
  where
    within : (a b : ℕ) → a < b → one_if (ltb a b) ≡ 1
    within a b h = grind (arith, nat_tests)

abbrev pub AllFresh : Numbering → List Share → Type 0
AllFresh d claimers = (c : ℕ) (s : Share) → get_elem? claimers c ≡ some s → s ≡ fresh d

-- `AllFresh` holds after a fresh claimer is appended.
pub fresh_more : (d : Numbering) (ys : List Share) (x : Share) → x ≡ fresh d → AllFresh d ys → AllFresh d (ys ++ x ∷ [])
fresh_more d ys x is old c s e = ⊎_elim
    (λ (h : get_elem? ys c ≡ some s). old c s h)
    (λ (h : x ≡ s). sym h ∙ is)
    (at_snoc ys x s c e)

-- The element that a loop yields after `ys` has the index `length ys`.
pub at_yielded : (ys zs ws : List Share) (x : Share) (all : List Share) → zs ≡ x ∷ ws → ys ++ zs ≡ all → get_elem? all (length ys) ≡ some x
at_yielded ys zs ws x all e f = ap (λ (l : List Share). get_elem? l (length ys)) (sym f ∙ ap (λ (l : List Share). ys ++ l) e) ∙ middle ys
  where
    middle : (l : List Share) → get_elem? (l ++ x ∷ ws) (length l) ≡ some x
    middle [] = refl
    middle (y ∷ l) = middle l

-- A list that isn't empty, as its first claimer and the rest.
pub after_first : (l rest : List Share) (x : Share) → 0 < length l → x ≡ get_or l 0 x → rest ≡ drop 1 l → l ≡ x ∷ rest
after_first [] rest x h e f = absurd (omega arith)
after_first (y ∷ ys) rest x h e f = λ k. sym e k ∷ sym f k

-- The view of the first claimer before a join.
pub view_one : (k : Terms) (x : Share) (m : Sat) → m ≡ (hand k.jobs k.workers 1 (one_if x.done) x.drawn, []) → m ≡ (view_of k (x ∷ []), [])
view_one k x m is =
    let ends : one_if x.done ≡ one_if x.done + 0 = omega arith in
    let draws = sym (drawn_more [] x) in
    is ∙ (λ i. (hand k.jobs k.workers 1 (ends i) (draws i), []))
