-- The records of a closed cache of one stripe are numbered in order.
use Rattle.std.proofs.Common.{arith, ◌≡◌, ◌<◌, ◌≤◌, ◌+◌, ◌==◌, ℕ, zero, suc, ℤ, Bool, true, false, cond, ◌⊎◌, inl, inr, List, [], ◌∷◌, ◌++◌, length, refl, sym, ap, subst, ◌∙◌, append_assoc, true≢false}
use Rattle.std.proofs.lemmas.Bool.{eq-eqb, eqb-true}
use mathlib.Core.Option.{some, some-injective, some-ne-none}
use lib.ListN.{get_elem?}
use Rattle.jtypes.specs.declared.loader.LoadAnswer.{LoadAnswer}
use Rattle.stripe.specs.History.{Record, key_of, stripe_of}
use Rattle.stripe.specs.Stored.{Stored, entry_among}
use Rattle.cache.specs.Receipts.{Receipt}
use Rattle.cache.specs.Opened.{Opened, Sitting}
use Rattle.cache.specs.Accounts.{Accounts}
use Rattle.cache.specs.Closing.{history_at, receipts_at, full_at, Settles}
use Rattle.world.specs.World.{records_on}
use Rattle.world.proofs.Places.{one_if, sum_more, trichotomy}
use Rattle.world.proofs.Histories.{stripe_below}
use Rattle.history_runs.specs.OneByOne.{count_of, AreNumberedAfter, AreNumbered}
use Rattle.history_runs.specs.Settled.{IsInterleaving}
use Rattle.history_runs.specs.Statements.{CachesOfOneStripeAreRuns}
use Rattle.history_runs.proofs.Caches.{caches_are_settled, interleavings_are_runs}

-- ---- lists

earlier : {X : Type 0} (xs : List X) (m n : ℕ) (x : X) → m < n → get_elem? xs n ≡ some x → (y : X) × (get_elem? xs m ≡ some y)
earlier [] m n x lt e = absurd (some-ne-none x (sym e))
earlier (z ∷ zs) zero n x lt e = (z, refl)
earlier (z ∷ zs) (suc m) zero x lt e = absurd (omega (arith, lt))
earlier (z ∷ zs) (suc m) (suc n) x lt e = earlier zs m n x (omega (arith, lt)) e

behind : {X : Type 0} (xs ys : List X) (x : X) → get_elem? (xs ++ x ∷ ys) (length xs) ≡ some x
behind [] ys x = refl
behind (z ∷ zs) ys x = behind zs ys x

longer : {X : Type 0} (xs : List X) (x : X) → length (xs ++ x ∷ []) ≡ suc (length xs)
longer [] x = refl
longer (z ∷ zs) x = ap suc (longer zs x)

count_more : (c : ℕ) (seen : List Record) (r : Record) → count_of c (seen ++ r ∷ []) ≡ count_of c seen + one_if (r.caller == c)
count_more c seen r = sum_more (λ (x : Record). one_if (x.caller == c)) seen r

-- ---- one history, and the receipts of its records

record AreReceipts (h : List Record) (receipts : ℕ → List Receipt) : Type 0 where
  recorded : (q : ℕ) (r : Record) → get_elem? h q ≡ some r → (t : Receipt) × (get_elem? (receipts r.caller) r.number ≡ some t) × (t.place ≡ q)
  received : (c n : ℕ) (t : Receipt) → get_elem? (receipts c) n ≡ some t → (made : Record) × (get_elem? h t.place ≡ some made) × (made.caller ≡ c)
  rising : (c n m : ℕ) (t u : Receipt) → n < m → get_elem? (receipts c) n ≡ some t → get_elem? (receipts c) m ≡ some u → t.place < u.place

module _ (h : List Record) (receipts : ℕ → List Receipt) (is : AreReceipts h receipts) where
  -- The receipts of the first records are the first ones of their seats.
  record AreFirst (seen : List Record) : Type 0 where
    below : (c n : ℕ) (t : Receipt) → n < count_of c seen → get_elem? (receipts c) n ≡ some t → t.place < length seen
    from : (c n : ℕ) (t : Receipt) → count_of c seen ≤ n → get_elem? (receipts c) n ≡ some t → length seen ≤ t.place

  module _ (seen rest : List Record) (r : Record) (whole : h ≡ seen ++ r ∷ rest) (first : AreFirst seen) where
    there : get_elem? h (length seen) ≡ some r
    there = ap (λ xs. get_elem? xs (length seen)) whole ∙ behind seen rest r

    abbrev its : Receipt
    its = (is.recorded (length seen) r there).0

    its_there : get_elem? (receipts r.caller) r.number ≡ some its
    its_there = (is.recorded (length seen) r there).1

    its_place : its.place ≡ length seen
    its_place = (is.recorded (length seen) r there).2

    number : r.number ≡ count_of r.caller seen
    number = by (trichotomy r.number (count_of r.caller seen))
      where
        by : (suc r.number ≤ count_of r.caller seen) ⊎ ((r.number ≡ count_of r.caller seen) ⊎ (suc (count_of r.caller seen) ≤ r.number)) → r.number ≡ count_of r.caller seen
        by (inl low) = absurd (omega (arith, first.below r.caller r.number its (omega (arith, low)) its_there, its_place))
        by (inr (inl same)) = same
        by (inr (inr high)) =
            let (u, at) = earlier (receipts r.caller) (count_of r.caller seen) r.number its (omega (arith, high)) its_there in
            absurd (omega (arith, first.from r.caller (count_of r.caller seen) u (omega arith) at, is.rising r.caller (count_of r.caller seen) r.number u its (omega (arith, high)) at its_there, its_place))

    -- The receipts of the caller.
    own_below : (n : ℕ) (t : Receipt) → n < suc (count_of r.caller seen) → get_elem? (receipts r.caller) n ≡ some t → t.place < suc (length seen)
    own_below n t lt e = by (trichotomy n (count_of r.caller seen))
      where
        by : (suc n ≤ count_of r.caller seen) ⊎ ((n ≡ count_of r.caller seen) ⊎ (suc (count_of r.caller seen) ≤ n)) → t.place < suc (length seen)
        by (inl low) = omega (arith, first.below r.caller n t (omega (arith, low)) e)
        by (inr (inl same)) =
            let one : its ≡ t = some-injective its t (sym its_there ∙ ap (get_elem? (receipts r.caller)) (number ∙ sym same) ∙ e) in
            omega (arith, ap (λ (x : Receipt). x.place) one, its_place)
        by (inr (inr high)) = absurd (omega (arith, high, lt))

    own_from : (n : ℕ) (t : Receipt) → suc (count_of r.caller seen) ≤ n → get_elem? (receipts r.caller) n ≡ some t → suc (length seen) ≤ t.place
    own_from n t le e = omega (arith, is.rising r.caller r.number n its t (omega (arith, number, le)) its_there e, its_place)

    -- The receipts of another caller.
    other_from : (c n : ℕ) (t : Receipt) → ¬ (r.caller ≡ c) → count_of c seen ≤ n → get_elem? (receipts c) n ≡ some t → suc (length seen) ≤ t.place
    other_from c n t other le e = by (trichotomy (length seen) t.place)
      where
        v : (made : Record) × (get_elem? h t.place ≡ some made) × (made.caller ≡ c)
        v = is.received c n t e

        by : (suc (length seen) ≤ t.place) ⊎ ((length seen ≡ t.place) ⊎ (suc t.place ≤ length seen)) → suc (length seen) ≤ t.place
        by (inl more) = more
        by (inr (inl same)) =
            let one : r ≡ v.0 = some-injective r v.0 (sym there ∙ ap (get_elem? h) same ∙ v.1) in
            absurd (other (ap (λ (x : Record). x.caller) one ∙ v.2))
        by (inr (inr less)) = absurd (omega (arith, less, first.from c n t le e))

    first_more : AreFirst (seen ++ r ∷ [])
    first_more =
        record {
          below = λ c n t lt e. subst (λ l. t.place < l) (sym (longer seen r)) (low c n t (r.caller == c) refl (subst (λ m. n < m) (count_more c seen r) lt) e);
          from = λ c n t le e. subst (λ l. l ≤ t.place) (sym (longer seen r)) (high c n t (r.caller == c) refl (subst (λ m. m ≤ n) (count_more c seen r) le) e);
        }
      where
        low : (c n : ℕ) (t : Receipt) (b : Bool) → (r.caller == c) ≡ b → n < count_of c seen + one_if b → get_elem? (receipts c) n ≡ some t → t.place < suc (length seen)
        low c n t true is_own lt e =
            let own : r.caller ≡ c = eqb-true r.caller c is_own in
            own_below n t (subst (λ x. n < suc (count_of x seen)) (sym own) (omega (arith, lt))) (ap (λ x. get_elem? (receipts x) n) own ∙ e)
        low c n t false is_other lt e = omega (arith, first.below c n t (omega (arith, lt)) e)

        high : (c n : ℕ) (t : Receipt) (b : Bool) → (r.caller == c) ≡ b → count_of c seen + one_if b ≤ n → get_elem? (receipts c) n ≡ some t → suc (length seen) ≤ t.place
        high c n t true is_own le e =
            let own : r.caller ≡ c = eqb-true r.caller c is_own in
            own_from n t (subst (λ x. suc (count_of x seen) ≤ n) (sym own) (omega (arith, le))) (ap (λ x. get_elem? (receipts x) n) own ∙ e)
        high c n t false is_other le e = other_from c n t (λ q. true≢false (sym (eq-eqb r.caller c q) ∙ is_other)) (omega (arith, le)) e

  numbered_from : (seen rest : List Record) → h ≡ seen ++ rest → AreFirst seen → AreNumberedAfter seen rest
  numbered_from seen [] whole first = tt
  numbered_from seen (r ∷ rest) whole first = (number seen rest r whole first, numbered_from (seen ++ r ∷ []) rest (whole ∙ sym (append_assoc seen (r ∷ []) rest)) (first_more seen rest r whole first))

  in_order : AreNumbered h
  in_order = numbered_from [] h refl (record { below = λ c n t lt e. absurd (omega (arith, lt)); from = λ c n t le e. omega arith })

-- ---- the cache

-- A place of a single history is in that history.
only_there : (hs : List (List Record)) (i q : ℕ) (r : Record) → length hs ≡ 1 → get_elem? (history_at hs i) q ≡ some r → i ≡ 0
only_there [] i q r one e = absurd (some-ne-none r (sym e))
only_there (h ∷ hs) zero q r one e = refl
only_there (h ∷ []) (suc i) q r one e = absurd (some-ne-none r (sym e))
only_there (h ∷ g ∷ hs) (suc i) q r one e = absurd (omega (arith, one))

one_part : (i : ℕ) (rs : List Record) → i < 1 → records_on 1 i rs ≡ rs
one_part i [] lt = refl
one_part i (r ∷ rs) lt =
    let low : stripe_of 1 (key_of r.call) < 1 = stripe_below 1 (key_of r.call) (omega arith) in
    let same : stripe_of 1 (key_of r.call) ≡ i = omega (arith, low, lt) in
    ap (λ b. cond b (r ∷ records_on 1 i rs) (records_on 1 i rs)) (eq-eqb (stripe_of 1 (key_of r.call)) i same) ∙ ap (λ xs. r ∷ xs) (one_part i rs lt)

module _ {L : Type 0} (loads : Bool) (gives : ℤ → LoadAnswer → Type 0) (d : Opened L) (seats : List Sitting) (tables : List Stored) (histories : List (List Record)) (one : length d.tables ≡ 1) (s : Settles loads gives d seats tables histories) where
  abbrev a : Accounts d.journal d.seats (history_at histories) (receipts_at seats) (full_at seats)
  a = s.accounts

  on_first : (c n : ℕ) (t : Receipt) → get_elem? (receipts_at seats c) n ≡ some t → t.stripe ≡ 0
  on_first c n t e = let v = a.received c n t e in only_there histories t.stripe t.place v.made (s.histories_count ∙ one) v.there

  are_receipts : AreReceipts (history_at histories 0) (receipts_at seats)
  are_receipts =
      record {
        recorded = λ q r e. let t = (a.recorded 0 q r e).1 in (t.receipt, t.there, t.place_is);
        received = λ c n t e. let v = a.received c n t e in (v.made, ap (λ i. get_elem? (history_at histories i) t.place) (sym (on_first c n t e)) ∙ v.there, v.caller_is);
        rising = λ c n m t u lt e f. a.rising c n m t u lt e f (on_first c n t e ∙ sym (on_first c m u f));
      }

  alone : IsInterleaving (length d.tables) histories (history_at histories 0)
  alone = subst (λ n. IsInterleaving n histories (history_at histories 0)) (sym one) (λ i lt. let same : 0 ≡ i = omega (arith, lt) in one_part i (history_at histories 0) lt ∙ ap (history_at histories) same)

pub one_stripe_is_run : (L : Type 0) (loads : Bool) (gives : ℤ → LoadAnswer → Type 0) → CachesOfOneStripeAreRuns L loads gives
one_stripe_is_run L loads gives d seats tables histories one s =
    interleavings_are_runs loads gives d.tables d.journal (entry_among tables) histories (history_at histories 0) (omega (arith, one)) (caches_are_settled L loads gives d seats tables histories s)
    (alone loads gives d seats tables histories one s) (in_order (history_at histories 0) (receipts_at seats) (are_receipts loads gives d seats tables histories one s))
