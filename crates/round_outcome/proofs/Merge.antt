-- The concatenated histories of stripes are one history.
use Rattle.std.proofs.Common.{arith, ◌≡◌, ◌≢◌, ℕ, zero, suc, ◌+◌, ◌<◌, ℤ, Bool, true, false, if◌then◌else◌, List, [], ◌∷◌, ◌++◌, length, refl, sym, ap, ◌∙◌, subst, append_assoc}
use Rattle.std.proofs.lemmas.List.{append-nil}
use Rattle.std.proofs.lemmas.Bool.Decides.{Decides-int_eq}
use Rattle.std.specs.Ordering.{int_eq}
use mathlib.Core.Option.{some}
use lib.ListN.{get_elem?}
use Rattle.jtypes.specs.Entry.{Entry}
use Rattle.stripe.specs.History.{Record, Entries, key_of, entry_after, entries_after, Answers, IsLegalAfter, stripe_of}
use Rattle.cache.specs.Closing.{history_at}
use Rattle.round_outcome.specs.Closed.{all_records}

-- ---- a property of each record

abbrev pub Each : (Record → Type 0) → List Record → Type 0
Each P [] = Unit {0}
Each P (r ∷ rs) = P r × Each P rs

each_append : (P : Record → Type 0) (xs ys : List Record) → Each P xs → Each P ys → Each P (xs ++ ys)
each_append P [] ys h g = g
each_append P (x ∷ xs) ys h g = (h.0, each_append P xs ys h.1 g)

each_map : (P Q : Record → Type 0) (xs : List Record) → ((r : Record) → P r → Q r) → Each P xs → Each Q xs
each_map P Q [] f h = tt
each_map P Q (x ∷ xs) f h = (f x h.0, each_map P Q xs f h.1)

pub each_of : (P : Record → Type 0) (xs : List Record) → ((q : ℕ) (r : Record) → get_elem? xs q ≡ some r → P r) → Each P xs
each_of P [] f = tt
each_of P (x ∷ xs) f = (f 0 x refl, each_of P xs (λ q r e. f (suc q) r e))

-- ---- records of calls on other keys

other : (x k : ℤ) (a b : Entry) → x ≢ k → (if int_eq x k then a else b) ≡ b
other x k a b h = by (int_eq x k) refl
  where
    by : (t : Bool) → int_eq x k ≡ t → (if t then a else b) ≡ b
    by true e = absurd (h ((Decides-int_eq x k).0 e))
    by false e = refl

after_other : (e : Entry) (rs : List Record) (k : ℤ) → Each (λ r. key_of r.call ≢ k) rs → entry_after e rs k ≡ e
after_other e [] k h = refl
after_other e (r ∷ rs) k h = after_other (if int_eq (key_of r.call) k then r.after else e) rs k h.1 ∙ other (key_of r.call) k r.after e h.0

pub after_append : (e : Entry) (xs ys : List Record) (k : ℤ) → entry_after e (xs ++ ys) k ≡ entry_after (entry_after e xs k) ys k
after_append e [] ys k = refl
after_append e (x ∷ xs) ys k = after_append (if int_eq (key_of x.call) k then x.after else e) xs ys k

pub legal_append : (loads : Bool) (b : Entries) (seen xs ys : List Record) → IsLegalAfter loads b seen xs → IsLegalAfter loads b (seen ++ xs) ys → IsLegalAfter loads b seen (xs ++ ys)
legal_append loads b seen [] ys h g = subst (λ (l : List Record). IsLegalAfter loads b l ys) (append-nil seen) g
legal_append loads b seen (x ∷ xs) ys h g =
    (h.0, legal_append loads b (seen ++ x ∷ []) xs ys h.1 (subst (λ (l : List Record). IsLegalAfter loads b l ys) (sym (append_assoc seen (x ∷ []) xs)) g))

-- A history is legal after records of calls on other keys.
legal_behind : (loads : Bool) (b : Entries) (front own xs : List Record) → Each (λ r. Each (λ f. key_of f.call ≢ key_of r.call) front) xs → IsLegalAfter loads b own xs → IsLegalAfter loads b (front ++ own) xs
legal_behind loads b front own [] apart h = tt
legal_behind loads b front own (r ∷ rs) apart h =
    let k : ℤ = key_of r.call in
    let same : entry_after (b k) (front ++ own) k ≡ entry_after (b k) own k = after_append (b k) front own k ∙ ap (λ e. entry_after e own k) (after_other (b k) front k apart.0) in (
      subst (λ e. Answers loads e r.call r.reply r.after r.asked) (sym same) h.0,
      subst (λ (l : List Record). IsLegalAfter loads b l rs) (sym (append_assoc front own (r ∷ []))) (legal_behind loads b front (own ++ r ∷ []) rs apart.1 h.1),
    )

-- ---- a history after other records

pub legal_from : (loads : Bool) (b m : Entries) (front own xs : List Record) → ((k : ℤ) → m k ≡ entries_after b front k) → IsLegalAfter loads m own xs → IsLegalAfter loads b (front ++ own) xs
legal_from loads b m front own [] same h = tt
legal_from loads b m front own (r ∷ rs) same h =
    let k : ℤ = key_of r.call in (
      subst (λ e. Answers loads e r.call r.reply r.after r.asked) (ap (λ e. entry_after e own k) (same k) ∙ sym (after_append (b k) front own k)) h.0,
      subst (λ (l : List Record). IsLegalAfter loads b l rs) (sym (append_assoc front own (r ∷ []))) (legal_from loads b m front (own ++ r ∷ []) rs same h.1),
    )

-- ---- the records of one stripe after those of earlier stripes

-- `AreOn` holds if the key of each record belongs to stripe `i` of `n`.
abbrev pub AreOn : ℕ → ℕ → List Record → Type 0
AreOn n i rs = Each (λ r. stripe_of n (key_of r.call) ≡ i) rs

-- `AreBelow` holds if the key of each record belongs to a stripe below `i` of `n`.
abbrev AreBelow : ℕ → ℕ → List Record → Type 0
AreBelow n i rs = Each (λ r. stripe_of n (key_of r.call) < i) rs

-- `AreFrom` holds if the histories are those of the stripes from `i` on.
abbrev pub AreFrom : ℕ → ℕ → List (List Record) → Type 0
AreFrom n i hs = (j : ℕ) → j < length hs → AreOn n (i + j) (history_at hs j)

rest_from : (n i : ℕ) (h : List Record) (hs : List (List Record)) → AreFrom n i (h ∷ hs) → AreFrom n (suc i) hs
rest_from n i h hs each j lt =
    each_map (λ r. stripe_of n (key_of r.call) ≡ i + suc j) (λ r. stripe_of n (key_of r.call) ≡ suc i + j) (history_at hs j) (λ r e. omega (arith, e)) (each (suc j) (omega (arith, lt)))

first_from : (n i : ℕ) (h : List Record) (hs : List (List Record)) → AreFrom n i (h ∷ hs) → AreOn n i h
first_from n i h hs each = each_map (λ r. stripe_of n (key_of r.call) ≡ i + 0) (λ r. stripe_of n (key_of r.call) ≡ i) h (λ r e. omega (arith, e)) (each 0 (omega arith))

away : (n i : ℕ) (x k : ℤ) → stripe_of n x < i → stripe_of n k ≡ i → x ≢ k
away n i x k low at e = let same : stripe_of n x ≡ stripe_of n k = ap (stripe_of n) e in absurd (omega (arith, low, at, same))

pub all_legal : (loads : Bool) (b : Entries) (n i : ℕ) (front : List Record) (hs : List (List Record)) → AreBelow n i front → AreFrom n i hs
    → ((j : ℕ) → j < length hs → IsLegalAfter loads b [] (history_at hs j)) → IsLegalAfter loads b front (all_records hs)
all_legal loads b n i front [] small each legal = tt
all_legal loads b n i front (h ∷ hs) small each legal =
    let here : AreOn n i h = first_from n i h hs each in
    let apart : Each (λ r. Each (λ f. key_of f.call ≢ key_of r.call) front) h =
    each_map (λ r. stripe_of n (key_of r.call) ≡ i) (λ r. Each (λ f. key_of f.call ≢ key_of r.call) front) h
    (λ r at. each_map (λ f. stripe_of n (key_of f.call) < i) (λ f. key_of f.call ≢ key_of r.call) front (λ f low. away n i (key_of f.call) (key_of r.call) low at) small) here in
    let below : AreBelow n (suc i) (front ++ h) = each_append (λ r. stripe_of n (key_of r.call) < suc i) front h
    (each_map (λ r. stripe_of n (key_of r.call) < i) (λ r. stripe_of n (key_of r.call) < suc i) front (λ r low. omega (arith, low)) small)
    (each_map (λ r. stripe_of n (key_of r.call) ≡ i) (λ r. stripe_of n (key_of r.call) < suc i) h (λ r at. omega (arith, at)) here) in
    legal_append loads b front h (all_records hs)
    (subst (λ (l : List Record). IsLegalAfter loads b l h) (append-nil front) (legal_behind loads b front [] h apart (legal 0 (omega arith))))
    (all_legal loads b n (suc i) (front ++ h) hs below (rest_from n i h hs each) (λ j lt. legal (suc j) (omega (arith, lt))))

-- ---- the entry of a key

none_named : (n i : ℕ) (k : ℤ) (hs : List (List Record)) → stripe_of n k < i → AreFrom n i hs → Each (λ r. key_of r.call ≢ k) (all_records hs)
none_named n i k [] low each = tt
none_named n i k (h ∷ hs) low each =
    each_append (λ r. key_of r.call ≢ k) h (all_records hs)
    (each_map (λ r. stripe_of n (key_of r.call) ≡ i) (λ r. key_of r.call ≢ k) h (λ r at e. away n i k (key_of r.call) low at (sym e)) (first_from n i h hs each))
    (none_named n (suc i) k hs (omega (arith, low)) (rest_from n i h hs each))

-- The entry of a key after all records is that after the records of its stripe.
pub after_all : (e : Entry) (n i : ℕ) (k : ℤ) (hs : List (List Record)) → AreFrom n i hs → (j : ℕ) → stripe_of n k ≡ i + j → entry_after e (all_records hs) k ≡ entry_after e (history_at hs j) k
after_all e n i k [] each j here = refl
after_all e n i k (h ∷ hs) each zero here =
    after_append e h (all_records hs) k ∙ after_other (entry_after e h k) (all_records hs) k (none_named n (suc i) k hs (omega (arith, here)) (rest_from n i h hs each))
after_all e n i k (h ∷ hs) each (suc j) here =
    after_append e h (all_records hs) k
    ∙ ap (λ o. entry_after o (all_records hs) k) (after_other e h k (each_map (λ r. stripe_of n (key_of r.call) ≡ i) (λ r. key_of r.call ≢ k) h (λ r at q. one r at (ap (stripe_of n) q)) (first_from n i h hs each)))
    ∙ after_all e n (suc i) k hs (rest_from n i h hs each) j (omega (arith, here))
  where
    one : (r : Record) → stripe_of n (key_of r.call) ≡ i → stripe_of n (key_of r.call) ≡ stripe_of n k → ⊥
    one r at same = absurd (omega (arith, at, same, here))
