-- A further record, or a further full stripe, preserves the accounts.
use Rattle.std.proofs.Common.{◌≡◌, ◌⊎◌, ℕ, ◌+◌, ◌<◌, ◌≤◌, List, [], ◌∷◌, ◌++◌, length, get_or, set, Bool, true, false, sym, refl, ap, ◌∙◌, subst, inl, inr, ⊎_elim, arith, length-append, get_or-set_other}
use mathlib.Core.Option.{some}
use lib.ListN.{get_elem?}
use Rattle.atomic_table.proofs.Lists.{at_longer, at_last}
use Rattle.stripe.specs.History.{Record}
use Rattle.cache.specs.Receipts.{Receipt, receipt_behind}
use Rattle.cache.specs.Accounts.{HasReceipt, HasRecord, Accounts}
use Rattle.cache.specs.Guarded.{count_records}
use Rattle.cache.proofs.Puts.{put, put_here, put_else, put_same, by_place, within, get_length}
use Rattle.cache.proofs.Counts.{count_put}

-- The accounts of `n` stripes, with at most as many receipts at each seat as there are records.
pub record Books (n journal seats : ℕ) (history : ℕ → List Record) (receipts : ℕ → List Receipt) (full : ℕ → List Bool) : Type 0 where
  pub accounts : Accounts journal seats history receipts full
  pub counted : (c : ℕ) → length (receipts c) ≤ count_records history n

pub put_is : {A : Type 0} (f : ℕ → A) (i : ℕ) (x : A) → x ≡ f i → put f i x ≡ f
put_is f i x e = λ k j. (ap (λ y. put f i y j) e ∙ put_same f i j) k

module _ (n journal seats : ℕ) (history : ℕ → List Record) (receipts : ℕ → List Receipt) (full : ℕ → List Bool) (old : Books n journal seats history receipts full) where
  pub same_books : (i c : ℕ) (h : List Record) (l : List Receipt) (f : List Bool) → h ≡ history i → l ≡ receipts c → f ≡ full c → Books n journal seats (put history i h) (put receipts c l) (put full c f)
  same_books i c h l f eh el ef =
      subst (λ (x : (ℕ → List Record) × (ℕ → List Receipt) × (ℕ → List Bool)). Books n journal seats x.0 x.1 x.2) (λ k. (sym (put_is history i h eh) k, sym (put_is receipts c l el) k, sym (put_is full c f ef) k)) old

  pub more_full : (i c : ℕ) → length (history i) ≡ journal → Books n journal seats history receipts (put full c (set (full c) i true))
  more_full i c whole = record {
    accounts = record {
      recorded = old.accounts.recorded;
      received = old.accounts.received;
      rising = old.accounts.rising;
      filled = λ d j e. by_place c d
          (λ same. by_place i j
          (λ here. ap (λ (x : ℕ). length (history x)) here ∙ whole)
          (λ apart. old.accounts.filled c j (sym (get_or-set_other (full c) i j true false apart) ∙ ap (λ (x : List Bool). get_or x j false) (sym (put_here full c (set (full c) i true))) ∙ subst (λ (x : ℕ). get_or (put full c (set (full c) i true) x) j false ≡ true) same e)))
          (λ apart. old.accounts.filled d j (ap (λ (x : List Bool). get_or x j false) (sym (put_else full c d (set (full c) i true) apart)) ∙ e));
    };
    counted = old.counted;
  }

  module _ (i c : ℕ) (r : Record) (inside : i < n) (room : length (history i) < journal) (known : c < seats) (by : r.caller ≡ c) (number : r.number ≡ length (receipts c)) where
    abbrev t : Receipt
    t = receipt_behind i (history i) r

    abbrev history' : ℕ → List Record
    history' = put history i (history i ++ r ∷ [])

    abbrev receipts' : ℕ → List Receipt
    receipts' = put receipts c (receipts c ++ t ∷ [])

    kept_record : (j q : ℕ) (x : Record) → get_elem? (history j) q ≡ some x → get_elem? (history' j) q ≡ some x
    kept_record j q x e = by_place i j
        (λ same. ap (λ (l : List Record). get_elem? l q) (ap history' same ∙ put_here history i (history i ++ r ∷ [])) ∙ at_longer (history i) (r ∷ []) q x (ap (λ (k : ℕ). get_elem? (history k) q) (sym same) ∙ e))
        (λ apart. ap (λ (l : List Record). get_elem? l q) (put_else history i j (history i ++ r ∷ []) apart) ∙ e)

    kept_receipt : (d m : ℕ) (x : Receipt) → get_elem? (receipts d) m ≡ some x → get_elem? (receipts' d) m ≡ some x
    kept_receipt d m x e = by_place c d
        (λ same. ap (λ (l : List Receipt). get_elem? l m) (ap receipts' same ∙ put_here receipts c (receipts c ++ t ∷ [])) ∙ at_longer (receipts c) (t ∷ []) m x (ap (λ (k : ℕ). get_elem? (receipts k) m) (sym same) ∙ e))
        (λ apart. ap (λ (l : List Receipt). get_elem? l m) (put_else receipts c d (receipts c ++ t ∷ []) apart) ∙ e)

    which_record : (j q : ℕ) (x : Record) → get_elem? (history' j) q ≡ some x → (get_elem? (history j) q ≡ some x) ⊎ ((j ≡ i) × (q ≡ length (history i)) × (r ≡ x))
    which_record j q x e = by_place i j
        (λ same. ⊎_elim (λ (h : get_elem? (history i) q ≡ some x). inl (ap (λ (k : ℕ). get_elem? (history k) q) same ∙ h)) (λ (h : (q ≡ length (history i)) × (r ≡ x)). inr (same, h.0, h.1))
        (get_length (history i) r x q (ap (λ (l : List Record). get_elem? l q) (sym (ap history' same ∙ put_here history i (history i ++ r ∷ []))) ∙ e)))
        (λ apart. inl (ap (λ (l : List Record). get_elem? l q) (sym (put_else history i j (history i ++ r ∷ []) apart)) ∙ e))

    which_receipt : (d m : ℕ) (x : Receipt) → get_elem? (receipts' d) m ≡ some x → (get_elem? (receipts d) m ≡ some x) ⊎ ((d ≡ c) × (m ≡ length (receipts c)) × (t ≡ x))
    which_receipt d m x e = by_place c d
        (λ same. ⊎_elim (λ (h : get_elem? (receipts c) m ≡ some x). inl (ap (λ (k : ℕ). get_elem? (receipts k) m) same ∙ h)) (λ (h : (m ≡ length (receipts c)) × (t ≡ x)). inr (same, h.0, h.1))
        (get_length (receipts c) t x m (ap (λ (l : List Receipt). get_elem? l m) (sym (ap receipts' same ∙ put_here receipts c (receipts c ++ t ∷ []))) ∙ e)))
        (λ apart. inl (ap (λ (l : List Receipt). get_elem? l m) (sym (put_else receipts c d (receipts c ++ t ∷ []) apart)) ∙ e))

    new_record : get_elem? (history' i) (length (history i)) ≡ some r
    new_record = ap (λ (l : List Record). get_elem? l (length (history i))) (put_here history i (history i ++ r ∷ [])) ∙ at_last (history i) r (length (history i)) refl

    new_receipt : get_elem? (receipts' c) (length (receipts c)) ≡ some t
    new_receipt = ap (λ (l : List Receipt). get_elem? l (length (receipts c))) (put_here receipts c (receipts c ++ t ∷ [])) ∙ at_last (receipts c) t (length (receipts c)) refl

    rises : (d m q : ℕ) (x y : Receipt) → m < q → x.stripe ≡ y.stripe → (get_elem? (receipts d) m ≡ some x) ⊎ ((d ≡ c) × (m ≡ length (receipts c)) × (t ≡ x)) → (get_elem? (receipts d) q ≡ some y) ⊎ ((d ≡ c) × (q ≡ length (receipts c)) × (t ≡ y)) → x.place < y.place
    rises d m q x y less same (inl a) (inl b) = old.accounts.rising d m q x y less a b same
    rises d m q x y less same (inl a) (inr b) =
        let z = old.accounts.received d m x a in
        let w = within (history x.stripe) x.place z.made z.there in
        let l : length (history x.stripe) ≡ length (history i) = ap (λ (k : ℕ). length (history k)) (same ∙ ap (λ (u : Receipt). u.stripe) (sym b.2)) in
        let p : length (history i) ≡ y.place = ap (λ (u : Receipt). u.place) b.2 in omega arith
    rises d m q x y less same (inr a) (inl b) = let w = within (receipts d) q y b in let l : length (receipts d) ≡ length (receipts c) = ap (λ (k : ℕ). length (receipts k)) a.0 in let e = a.1 in absurd (omega arith)
    rises d m q x y less same (inr a) (inr b) = let e = a.1 in let f = b.1 in absurd (omega arith)

    old_record : (j q : ℕ) (x : Record) → get_elem? (history j) q ≡ some x → (x.caller < seats) × HasReceipt receipts' j q x
    old_record j q x h =
        let a = old.accounts.recorded j q x h in
        let b = a.1 in
        (a.0, record { receipt = b.receipt; there = kept_receipt x.caller x.number b.receipt b.there; stripe_is = b.stripe_is; place_is = b.place_is })

    one_record : (r.caller < seats) × HasReceipt receipts' i (length (history i)) r
    one_record = (omega (arith, by, known), record { receipt = t; there = (λ k. get_elem? (receipts' (by k)) (number k)) ∙ new_receipt; stripe_is = refl; place_is = refl })

    old_receipt : (d m : ℕ) (x : Receipt) → get_elem? (receipts d) m ≡ some x → HasRecord history' d m x
    old_receipt d m x h =
        let a = old.accounts.received d m x h in
        record { made = a.made; there = kept_record x.stripe x.place a.made a.there; caller_is = a.caller_is; number_is = a.number_is; same = a.same }

    one_receipt : HasRecord history' c (length (receipts c)) t
    one_receipt = record { made = r; there = new_record; caller_is = by; number_is = number; same = record { call = refl; reply = refl } }

    pub more_books : Books n journal seats history' receipts' full
    more_books = record {
      accounts = record {
        recorded = λ j q x e. ⊎_elim
            (λ (h : get_elem? (history j) q ≡ some x). old_record j q x h)
            (λ (h : (j ≡ i) × (q ≡ length (history i)) × (r ≡ x)). subst (λ (y : ℕ × ℕ × Record). (y.2.caller < seats) × HasReceipt receipts' y.0 y.1 y.2) (λ k. (sym h.0 k, sym h.1 k, h.2 k)) one_record)
            (which_record j q x e);
        received = λ d m x e. ⊎_elim
            (λ (h : get_elem? (receipts d) m ≡ some x). old_receipt d m x h)
            (λ (h : (d ≡ c) × (m ≡ length (receipts c)) × (t ≡ x)). subst (λ (y : ℕ × ℕ × Receipt). HasRecord history' y.0 y.1 y.2) (λ k. (sym h.0 k, sym h.1 k, h.2 k)) one_receipt)
            (which_receipt d m x e);
        rising = λ d m q x y less ex ey same. rises d m q x y less same (which_receipt d m x ex) (which_receipt d q y ey);
        filled = λ d j e. by_place i j
            (λ here. let was = old.accounts.filled d j e in absurd (omega (arith, was, room, ap (λ (x : ℕ). length (history x)) here)))
            (λ apart. ap (λ (l : List Record). length l) (put_else history i j (history i ++ r ∷ []) apart) ∙ old.accounts.filled d j e);
      };
      counted = λ d.
          let total : count_records history' n + length (history i) ≡ count_records history n + length (history i ++ r ∷ []) = count_put history i (history i ++ r ∷ []) n inside in
          let more : length (history i ++ r ∷ []) ≡ length (history i) + 1 = length-append (history i) (r ∷ []) in
          by_place c d
          (λ same.
          let here : length (receipts' d) ≡ length (receipts c ++ t ∷ []) = ap (λ (k : ℕ). length (receipts' k)) same ∙ ap (λ (l : List Receipt). length l) (put_here receipts c (receipts c ++ t ∷ [])) in
          omega (arith, here, length-append (receipts c) (t ∷ []), old.counted c, total, more))
          (λ apart.
          let here : length (receipts' d) ≡ length (receipts d) = ap (λ (l : List Receipt). length l) (put_else receipts c d (receipts c ++ t ∷ []) apart) in
          omega (arith, here, old.counted d, total, more));
    }
