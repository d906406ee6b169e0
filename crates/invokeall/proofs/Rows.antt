-- The answers, written to the indices of their jobs, each number once.
use Rattle.std.proofs.Common.{◌≡◌, ◌≢◌, ◌⊎◌, ℕ, zero, suc, ◌<◌, ◌≤◌, ◌==◌, List, [], ◌∷◌, ◌++◌, length, map, set, replicate, Option, Some, None, Ok, Err, refl, sym, ap, ◌∙◌, subst, inl, inr, ⊎_elim, arith, append_assoc}
use Rattle.std.specs.List.{All}
use Rattle.std.specs.List.Sorted.{IsPermutation}
use Rattle.std.proofs.lemmas.List.{append-nil}
use Rattle.std.proofs.lemmas.List.Elements.{All-nil, All-cons, All-head, All-tail}
use Rattle.std.proofs.lemmas.List.Sorted.{IsPermutation-refl, IsPermutation-cons, IsPermutation-trans, IsPermutation-to_front, IsPermutation-append_left}
use Rattle.std.proofs.lemmas.Bool.Decides.{nat_tests}
use mathlib.Core.Logic.{dite}
use native.Mathlib.Decide.{ℕ_discrete}
use mathlib.Core.Option.{some, some-injective, some-ne-none}
use lib.ListN.{get_elem?}
use Rattle.atomic_table.proofs.Lists.{at_set}
use Rattle.stripe.specs.declared.call.Reply.{Reply}
use Rattle.stripe.specs.History.{Call}
use Rattle.claims.specs.Counters.{one_if, times}
use Rattle.cache.specs.declared.refusal.InvokeRefusal.TheVariants.{NoMemory}
use Rattle.round_outcome.specs.Outcome.{answered}
use Rattle.invokeall.specs.Rounds.{Answer, reply_of}
use Rattle.invokeall.specs.Workers.{told_at, told_row, numbers}
use Rattle.invokeall.specs.Buffers.{Places, blanks, placed, shown_place, shown, put_all, IsThere}

-- The reply at an index.
abbrev pub reply_in : Option Answer → Option Reply
reply_in (Some a) = reply_of a
reply_in None = None

abbrev pub told_all : List Call → Places → List (Call × Reply)
told_all calls places = answered calls (map reply_in places)

-- `IsBlank` holds if there is no answer at index `k`.
pub record IsBlank (places : Places) (k : ℕ) : Type 0 where
  pub blank : (p : Option Answer) → get_elem? places k ≡ some p → p ≡ None

under : (places : Places) (x : Option Answer) (k : ℕ) → IsBlank (x ∷ places) (suc k) → IsBlank places k
under places x k b = record { blank = λ a e. b.blank a e }

-- An answer that is written to a blank index adds its call to the answered calls, if it isn't a refusal.
pub told_set : (calls : List Call) (places : Places) (k : ℕ) (a : Answer) → length places ≡ length calls → IsBlank places k
    → IsPermutation (told_all calls places ++ told_at calls k a) (told_all calls (set places k (Some a)))
told_set [] places k a same b = IsPermutation-refl []
told_set (c ∷ cs) [] k a same b = absurd (omega arith)
told_set (c ∷ cs) (Some x ∷ xs) zero a same b = absurd (let e = b.blank (Some x) refl in cc)
told_set (c ∷ cs) (None ∷ xs) zero (Ok r) same b = IsPermutation-to_front (told_all cs xs) (c, r)
told_set (c ∷ cs) (None ∷ xs) zero (Err f) same b = subst (λ l. IsPermutation l (told_all cs xs)) (sym (append-nil (told_all cs xs))) (IsPermutation-refl (told_all cs xs))
told_set (c ∷ cs) (Some (Ok r) ∷ xs) (suc k) a same b =
    IsPermutation-cons (c, r) (told_all cs xs ++ told_at cs k a) (told_all cs (set xs k (Some a))) (told_set cs xs k a (omega arith) (under xs (Some (Ok r)) k b))
told_set (c ∷ cs) (Some (Err e) ∷ xs) (suc k) a same b = told_set cs xs k a (omega arith) (under xs (Some (Err e)) k b)
told_set (c ∷ cs) (None ∷ xs) (suc k) a same b = told_set cs xs k a (omega arith) (under xs None k b)

length_set : (xs : Places) (k : ℕ) (a : Option Answer) → length (set xs k a) ≡ length xs
length_set [] k a = refl
length_set (x ∷ xs) zero a = refl
length_set (x ∷ xs) (suc k) a = ap suc (length_set xs k a)

pub length_placed : (places : Places) (es : List (ℕ × Answer)) → length (placed places es) ≡ length places
length_placed places [] = refl
length_placed places (e ∷ es) = length_placed (set places e.0 (Some e.1)) es ∙ length_set places e.0 (Some e.1)

-- `AreOnce` holds if each number occurs at most once in the list.
pub record AreOnce (es : List (ℕ × Answer)) : Type 0 where
  pub once : (x : ℕ) → times x (numbers es) ≤ 1

one_there : (x y : ℕ) → x ≡ y → one_if (x == y) ≡ 1
one_there x y e = grind (arith, nat_tests)

none_there : (x y : ℕ) → x ≢ y → one_if (x == y) ≡ 0
none_there x y e = grind (arith, nat_tests)

once_rest : (e : ℕ × Answer) (es : List (ℕ × Answer)) → AreOnce (e ∷ es) → AreOnce es
once_rest e es o = record { once = λ x. let h = o.once x in omega arith }

not_again : (k : ℕ) (a : Answer) (es : List (ℕ × Answer)) → AreOnce ((k, a) ∷ es) → times k (numbers es) ≡ 0
not_again k a es o = let h = o.once k in let g = one_there k k refl in omega arith

apart_first : (k : ℕ) (e : ℕ × Answer) (es : List (ℕ × Answer)) → times k (numbers (e ∷ es)) ≡ 0 → (k ≢ e.0) × (times k (numbers es) ≡ 0)
apart_first k e es h = ((λ same. let g = one_there k e.0 same in absurd (omega arith)), omega arith)

-- `AreBlank` holds if the indices of the list's numbers are blank.
abbrev pub AreBlank : Places → List (ℕ × Answer) → Type 0
AreBlank places [] = Unit {0}
AreBlank places (e ∷ es) = IsBlank places e.0 × AreBlank places es

blank_else : (places : Places) (k j : ℕ) (a : Option Answer) → k ≢ j → IsBlank places j → IsBlank (set places k a) j
blank_else places k j a ne b = record {
  blank = λ y e. ⊎_elim
      (λ (t : (j ≡ k) × (a ≡ y)). absurd (ne (sym t.0)))
      (λ (t : (j ≢ k) × (get_elem? places j ≡ some y)). b.blank y t.1)
      (at_set places k j a y e);
}

still_blank : (places : Places) (k : ℕ) (a : Option Answer) (es : List (ℕ × Answer)) → times k (numbers es) ≡ 0 → AreBlank places es → AreBlank (set places k a) es
still_blank places k a [] none b = tt
still_blank places k a (e ∷ es) none b = let f = apart_first k e es none in (blank_else places k e.0 a f.0 b.0, still_blank places k a es f.1 b.1)

pub told_placed : (calls : List Call) (places : Places) (es : List (ℕ × Answer)) → length places ≡ length calls → AreOnce es → AreBlank places es
    → IsPermutation (told_all calls places ++ told_row calls es) (told_all calls (placed places es))
told_placed calls places [] same o b = subst (λ l. IsPermutation l (told_all calls places)) (sym (append-nil (told_all calls places))) (IsPermutation-refl (told_all calls places))
told_placed calls places ((k, a) ∷ es) same o b =
    let next : Places = set places k (Some a) in
    let one = told_set calls places k a same b.0 in
    let rest = told_placed calls next es (length_set places k (Some a) ∙ same) (once_rest (k, a) es o) (still_blank places k (Some a) es (not_again k a es o) b.1) in
    let first : IsPermutation ((told_all calls places ++ told_at calls k a) ++ told_row calls es) (told_all calls next ++ told_row calls es) =
    IsPermutation-append_left (told_row calls es) (told_all calls places ++ told_at calls k a) (told_all calls next) one in
    IsPermutation-trans (told_all calls places ++ (told_at calls k a ++ told_row calls es)) (told_all calls next ++ told_row calls es) (told_all calls (placed next es))
    (subst (λ l. IsPermutation l (told_all calls next ++ told_row calls es)) (append_assoc (told_all calls places) (told_at calls k a) (told_row calls es)) first)
    rest

-- Blank indices have no answered calls.
blank_told : (calls : List Call) (n : ℕ) → told_all calls (blanks n) ≡ []
blank_told [] zero = refl
blank_told [] (suc n) = refl
blank_told (c ∷ cs) zero = refl
blank_told (c ∷ cs) (suc n) = blank_told cs n

pub blank_at : (n k : ℕ) (p : Option Answer) → get_elem? (blanks n) k ≡ some p → p ≡ None
blank_at zero k p e = absurd (some-ne-none p (sym e))
blank_at (suc n) zero p e = sym (some-injective None p e)
blank_at (suc n) (suc k) p e = blank_at n k p e

pub all_blank : (n : ℕ) (es : List (ℕ × Answer)) → AreBlank (blanks n) es
all_blank n [] = tt
all_blank n (e ∷ es) = (record { blank = λ a f. blank_at n e.0 a f }, all_blank n es)

pub length_blanks : (n : ℕ) → length (blanks n) ≡ n
length_blanks zero = refl
length_blanks (suc n) = ap suc (length_blanks n)

-- The written answers and the lists have the same answered calls, in some order.
pub told_rows : (calls : List Call) (es : List (ℕ × Answer)) → AreOnce es → IsPermutation (told_row calls es) (told_all calls (placed (blanks (length calls)) es))
told_rows calls es o =
    subst (λ l. IsPermutation (l ++ told_row calls es) (told_all calls (placed (blanks (length calls)) es))) (blank_told calls (length calls))
    (told_placed calls (blanks (length calls)) es (length_blanks (length calls)) o (all_blank (length calls) es))

-- The answer at an index was there before, or comes from an entry.
pub from_entry : (places : Places) (es : List (ℕ × Answer)) (k : ℕ) (p : Option Answer) → get_elem? (placed places es) k ≡ some p
    → (get_elem? places k ≡ some p) ⊎ ((j : ℕ) × (a : Answer) × (p ≡ Some a) × (get_elem? es j ≡ some (k, a)))
from_entry places [] k p h = inl h
from_entry places (e ∷ es) k p h = ⊎_elim
    (λ (g : get_elem? (set places e.0 (Some e.1)) k ≡ some p). ⊎_elim
    (λ (t : (k ≡ e.0) × (Some e.1 ≡ p)). inr (0, e.1, sym t.1, (λ i. some (sym t.0 i, e.1))))
    (λ (t : (k ≢ e.0) × (get_elem? places k ≡ some p)). inl t.1)
    (at_set places e.0 k (Some e.1) p g))
    (λ (g : (j : ℕ) × (a : Answer) × (p ≡ Some a) × (get_elem? es j ≡ some (k, a))). inr (suc g.0, g.1, g.2, g.3))
    (from_entry (set places e.0 (Some e.1)) es k p h)

-- `HasAnswer` holds if there is an answer at index `k`, if it is in range.
pub record HasAnswer (places : Places) (k : ℕ) : Type 0 where
  pub there : (p : Option Answer) → get_elem? places k ≡ some p → IsThere p

has_set : (places : Places) (j k : ℕ) (a : Answer) → HasAnswer places k → HasAnswer (set places j (Some a)) k
has_set places j k a h = record {
  there = λ p e. ⊎_elim
      (λ (t : (k ≡ j) × (Some a ≡ p)). (a, sym t.1))
      (λ (t : (k ≢ j) × (get_elem? places k ≡ some p)). h.there p t.1)
      (at_set places j k (Some a) p e);
}

has_placed : (places : Places) (es : List (ℕ × Answer)) (k : ℕ) → HasAnswer places k → HasAnswer (placed places es) k
has_placed places [] k h = h
has_placed places (e ∷ es) k h = has_placed (set places e.0 (Some e.1)) es k (has_set places e.0 k e.1 h)

just_set : (places : Places) (k : ℕ) (a : Answer) → HasAnswer (set places k (Some a)) k
just_set places k a = record {
  there = λ p e. ⊎_elim
      (λ (t : (k ≡ k) × (Some a ≡ p)). (a, sym t.1))
      (λ (t : (k ≢ k) × (get_elem? places k ≡ some p)). absurd (t.0 refl))
      (at_set places k k (Some a) p e);
}

-- Each number of the list has an answer at its index.
answer_there : (places : Places) (es : List (ℕ × Answer)) (k : ℕ) → 0 < times k (numbers es) → HasAnswer (placed places es) k
answer_there places [] k h = absurd (omega arith)
answer_there places (e ∷ es) k h = dite (ℕ_discrete k e.0)
    (λ (same : k ≡ e.0). has_placed (set places e.0 (Some e.1)) es k (subst (λ (n : ℕ). HasAnswer (set places e.0 (Some e.1)) n) (sym same) (just_set places e.0 e.1)))
    (λ (other : k ≢ e.0). let n = none_there k e.0 other in answer_there (set places e.0 (Some e.1)) es k (omega arith))

all_there : (places : Places) → ((k : ℕ) → k < length places → HasAnswer places k) → All IsThere places
all_there [] h = All-nil IsThere
all_there (p ∷ ps) h = All-cons IsThere p ps ((h 0 (omega arith)).there p refl) (all_there ps (λ k below. record { there = λ q e. (h (suc k) (omega arith)).there q e }))

-- If the list has each number, each index has an answer.
pub all_filled : (n : ℕ) (es : List (ℕ × Answer)) → ((k : ℕ) → k < n → 0 < times k (numbers es)) → All IsThere (placed (blanks n) es)
all_filled n es h =
    let long : length (placed (blanks n) es) ≡ n = length_placed (blanks n) es ∙ length_blanks n in
    all_there (placed (blanks n) es) (λ k below. answer_there (blanks n) es k (h k (omega arith)))

-- ---- the answers at the indices

shown_set : (places : Places) (k : ℕ) (a : Answer) → shown (set places k (Some a)) ≡ set (shown places) k a
shown_set [] k a = refl
shown_set (p ∷ ps) zero a = refl
shown_set (p ∷ ps) (suc k) a = ap (λ (l : List Answer). shown_place p ∷ l) (shown_set ps k a)

-- Answers that are written over shown answers are the shown written answers.
pub put_shown : (places : Places) (es : List (ℕ × Answer)) → put_all (shown places) es ≡ shown (placed places es)
put_shown places [] = refl
put_shown places (e ∷ es) = ap (λ (l : List Answer). put_all l es) (sym (shown_set places e.0 e.1)) ∙ put_shown (set places e.0 (Some e.1)) es

pub shown_blanks : (n : ℕ) → replicate n (Err NoMemory) ≡ shown (blanks n)
shown_blanks zero = refl
shown_blanks (suc n) = ap (λ (l : List Answer). Err NoMemory ∷ l) (shown_blanks n)

-- If each index has an answer, it is the shown one.
pub shown_there : (places : Places) → All IsThere places → map Some (shown places) ≡ places
shown_there [] all = refl
shown_there (p ∷ ps) all =
    let (a, is) = All-head IsThere p ps all in
    let here : Some (shown_place p) ≡ p = ap (λ (x : Option Answer). Some (shown_place x)) is ∙ sym is in
    (λ i. here i ∷ shown_there ps (All-tail IsThere p ps all) i)
