-- A round at one seat.
use Rattle.std.proofs.Common.{Bool, true, ◌≡◌, ℕ, zero, suc, List, [], ◌∷◌, ◌++◌, length, map, take, Ok, Err, refl, sym, ap, ◌∙◌, subst, ◌⊎◌, inl, inr, ⊎_elim, arith, IsPermutation}
use Rattle.std.proofs.lemmas.List.{append-nil}
use Rattle.std.proofs.lemmas.List.Sorted.{IsPermutation-refl}
use mathlib.Core.Option.{some, some-injective, some-ne-none}
use lib.ListN.{get_elem?}
use Rattle.stripe.specs.declared.call.Reply.{Reply}
use Rattle.stripe.specs.History.{Call}
use Rattle.stripe.specs.Kept.{may_make}
use Rattle.cache.specs.declared.refusal.InvokeRefusal.TheVariants.{JournalFull, NoMemory}
use Rattle.cache.specs.Opened.{Opened, Sitting, stripe_in}
use Rattle.round_outcome.specs.Outcome.{answered}
use Rattle.round_outcome.specs.Closed.{calls_told, calls_at, AreFiled, AllAreFiled}
use Rattle.invokeall.specs.Rounds.{Answer, reply_of, IsLaterSeat, IsFull, IsRound, NeedMemory}
use Rattle.invokeall.specs.Workers.{told_answer}
use Rattle.invokeall.proofs.Turns.{OneCall}

-- `IsShown` holds if the seat has the full flag of the stripe of each call refused with `JournalFull`.
abbrev pub IsShown : {L : Type 0} → Opened L → List Call → Sitting → List Answer → Type 0
IsShown d calls s answers = (k : ℕ) (c : Call) → get_elem? answers k ≡ some (Err JournalFull) → get_elem? calls k ≡ some c → IsFull d c s

-- The answered calls after one further answer.
pub answered_more : (calls : List Call) (answers : List Answer) (n : ℕ) (c : Call) (x : Answer) → length answers ≡ n → get_elem? calls n ≡ some c
    → answered (take (suc n) calls) (map reply_of (answers ++ x ∷ [])) ≡ answered (take n calls) (map reply_of answers) ++ told_answer c x
answered_more [] answers n c x long at = absurd (some-ne-none c (sym at))
answered_more (d ∷ calls) [] zero c (Ok r) long at = ap (λ (e : Call). (e, r) ∷ []) (some-injective d c at)
answered_more (d ∷ calls) [] zero c (Err e) long at = refl
answered_more (d ∷ calls) [] (suc n) c x long at = absurd (omega (arith, long))
answered_more (d ∷ calls) (a ∷ answers) zero c x long at = absurd (omega (arith, long))
answered_more (d ∷ calls) (Ok r ∷ answers) (suc n) c x long at = ap (λ (l : List (Call × Reply)). (d, r) ∷ l) (answered_more calls answers n c x (omega (arith, long)) at)
answered_more (d ∷ calls) (Err e ∷ answers) (suc n) c x long at = answered_more calls answers n c x (omega (arith, long)) at

-- The element at an index of a list with an appended element.
at_more : (l : List Answer) (a b : Answer) (j : ℕ) → get_elem? (l ++ a ∷ []) j ≡ some b → (get_elem? l j ≡ some b) ⊎ ((j ≡ length l) × (a ≡ b))
at_more [] a b zero e = inr (refl, some-injective a b e)
at_more [] a b (suc j) e = absurd (some-ne-none b (sym e))
at_more (x ∷ xs) a b zero e = inl e
at_more (x ∷ xs) a b (suc j) e = ⊎_elim
    (λ (h : get_elem? xs j ≡ some b). inl h)
    (λ (h : (j ≡ length xs) × (a ≡ b)). inr (ap suc h.0, h.1))
    (at_more xs a b j e)

pub shown_more : {L : Type 0} (loads : Bool) (d : Opened L) (calls : List Call) (a b : Sitting) (answers : List Answer) (n : ℕ) (c : Call) (x : Answer) → length answers ≡ n → get_elem? calls n ≡ some c → OneCall loads d c a b x
    → IsShown d calls a answers → IsShown d calls b (answers ++ x ∷ [])
shown_more loads d calls a b answers n c x long at one old k u e there = ⊎_elim
    (λ (h : get_elem? answers k ≡ some (Err JournalFull)). one.later.full (stripe_in d u) (old k u h there))
    (λ (h : (k ≡ length answers) × (x ≡ Err JournalFull)).
    subst (λ (z : Call). IsFull d z b) (some-injective c u (sym at ∙ subst (λ (m : ℕ). get_elem? calls m ≡ some u) (h.0 ∙ long) there)) (one.full h.1))
    (at_more answers x (Err JournalFull) k e)

pub need_memory_more : (loads : Bool) (calls : List Call) (answers : List Answer) (n : ℕ) (c : Call) (x : Answer) → length answers ≡ n → get_elem? calls n ≡ some c → (x ≡ Err NoMemory → may_make loads c ≡ true)
    → NeedMemory loads calls answers → NeedMemory loads calls (answers ++ x ∷ [])
need_memory_more loads calls answers n c x long at may old k u e there = ⊎_elim
    (λ (h : get_elem? answers k ≡ some (Err NoMemory)). old k u h there)
    (λ (h : (k ≡ length answers) × (x ≡ Err NoMemory)).
    subst (λ (z : Call). may_make loads z ≡ true) (some-injective c u (sym at ∙ subst (λ (m : ℕ). get_elem? calls m ≡ some u) (h.0 ∙ long) there)) (may h.1))
    (at_more answers x (Err NoMemory) k e)

-- The round after all calls are made.
pub alone_round : {L : Type 0} (d : Opened L) (calls : List Call) (a b : Sitting) (answers : List Answer) → length answers ≡ length calls → IsLaterSeat a b
    → calls_told b.receipts ≡ calls_told a.receipts ++ answered calls (map reply_of answers) → (AreFiled (length d.tables) a.receipts → AreFiled (length d.tables) b.receipts)
    → IsShown d calls b answers → IsRound d calls (a ∷ []) (b ∷ []) answers
alone_round d calls a b answers count later receipts filed full = record {
  count = count;
  seats = refl;
  later = later_there;
  receipts = subst (λ l. IsPermutation (calls_at (a ∷ []) ++ told) l) (ap (λ l. l ++ told) (same a) ∙ sym receipts ∙ sym (same b)) (IsPermutation-refl (calls_at (a ∷ []) ++ told));
  filed = filed_there;
  full = λ k c e there. (0, b, refl, full k c e there);
}
  where
    told : List (Call × Reply)
    told = answered calls (map reply_of answers)

    same : (s : Sitting) → calls_at (s ∷ []) ≡ calls_told s.receipts
    same s = ap calls_told (append-nil s.receipts)

    later_there : (i : ℕ) (x y : Sitting) → get_elem? (a ∷ []) i ≡ some x → get_elem? (b ∷ []) i ≡ some y → IsLaterSeat x y
    later_there zero x y e f = subst (λ (z : Sitting). IsLaterSeat z y) (some-injective a x e) (subst (λ (z : Sitting). IsLaterSeat a z) (some-injective b y f) later)
    later_there (suc i) x y e f = absurd (some-ne-none x (sym e))

    filed_there : AllAreFiled (length d.tables) (a ∷ []) → AllAreFiled (length d.tables) (b ∷ [])
    filed_there h zero s e = subst (λ (z : Sitting). AreFiled (length d.tables) z.receipts) (some-injective b s e) (filed (h 0 a refl))
    filed_there h (suc i) s e = absurd (some-ne-none s (sym e))
