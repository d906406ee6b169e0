-- A history is legal if each stripe's part of it is.
use Rattle.std.proofs.Common.{arith, ◌≡◌, ◌<◌, ◌+◌, ℕ, zero, suc, ℤ, Bool, true, false, cond, List, [], ◌∷◌, ◌++◌, length, refl, sym, ap, subst, ◌∙◌, true≢false, zero-add}
use Rattle.std.proofs.lemmas.Bool.{eq-eqb, eqb-true}
use Rattle.jtypes.specs.declared.loader.LoadAnswer.{LoadAnswer}
use Rattle.jtypes.specs.Loading.{IsGiven}
use Rattle.stripe.specs.History.{Record, Entries, Answers, IsLegalAfter, IsLegal, AreGiven, entries_after, key_of, stripe_of}
use Rattle.stripe.specs.Stored.{Stored, entry_among}
use Rattle.cache.specs.Closing.{history_at}
use Rattle.world.specs.World.{World, Event, Runs, opened, entries_now, is_on, records_on}
use Rattle.world.proofs.Histories.{part_there, part_elsewhere, stripe_below}
use Rattle.world.proofs.Lawful.{part_after}
use Rattle.history_runs.specs.Settled.{AreSettled, IsInterleaving}
use Rattle.history_runs.proofs.Sound.{runs_are_legal}
use Rattle.history_runs.proofs.Complete.{given_first, given_rest}

module _ (n : ℕ) (least : 0 < n) where
  abbrev on : Record → ℕ
  on r = stripe_of n (key_of r.call)

  is_there : (r : Record) → is_on n (on r) r ≡ true
  is_there r = eq-eqb (on r) (on r) refl

  own_part : (r : Record) (rs : List Record) → records_on n (on r) (r ∷ rs) ≡ r ∷ records_on n (on r) rs
  own_part r rs = ap (λ b. cond b (r ∷ records_on n (on r) rs) (records_on n (on r) rs)) (is_there r)

  -- ---- legality

  module _ (loads : Bool) (opening : Entries) where
    rest_of : (seen rs : List Record) (r : Record) (j : ℕ) (b : Bool) → is_on n j r ≡ b → IsLegalAfter loads opening (records_on n j seen) (cond b (r ∷ records_on n j rs) (records_on n j rs))
        → IsLegalAfter loads opening (records_on n j (seen ++ r ∷ [])) (records_on n j rs)
    rest_of seen rs r j true t h = subst (λ xs. IsLegalAfter loads opening xs (records_on n j rs)) (sym (part_there n j seen r (eqb-true (on r) j t))) h.1
    rest_of seen rs r j false t h = subst (λ xs. IsLegalAfter loads opening xs (records_on n j rs)) (sym (part_elsewhere n j seen r (λ q. true≢false (sym (eq-eqb (on r) j q) ∙ t)))) h

    pub legal_whole : (seen rs : List Record) → ((i : ℕ) → i < n → IsLegalAfter loads opening (records_on n i seen) (records_on n i rs)) → IsLegalAfter loads opening seen rs
    legal_whole seen [] each = tt
    legal_whole seen (r ∷ rs) each =
        let own : IsLegalAfter loads opening (records_on n (on r) seen) (r ∷ records_on n (on r) rs) =
        subst (IsLegalAfter loads opening (records_on n (on r) seen)) (own_part r rs) (each (on r) (stripe_below n (key_of r.call) least)) in (
          subst (λ e. Answers loads e r.call r.reply r.after r.asked) (part_after n (on r) (opening (key_of r.call)) seen (key_of r.call) refl) own.0,
          legal_whole (seen ++ r ∷ []) rs (λ j lt. rest_of seen rs r j (is_on n j r) refl (each j lt)),
        )

  -- ---- the loader's answers

  module _ (gives : ℤ → LoadAnswer → Type 0) where
    given_more : (r : Record) (rs : List Record) → IsGiven gives (key_of r.call) r.asked → AreGiven gives rs → AreGiven gives (r ∷ rs)
    given_more r rs one h zero d k = one
    given_more r rs one h (suc q) d k = h q d (omega (arith, k))

    given_tail : (r : Record) (rs : List Record) (j : ℕ) (b : Bool) → AreGiven gives (cond b (r ∷ records_on n j rs) (records_on n j rs)) → AreGiven gives (records_on n j rs)
    given_tail r rs j true h = given_rest gives r (records_on n j rs) h
    given_tail r rs j false h = h

    pub given_whole : (rs : List Record) → ((i : ℕ) → i < n → AreGiven gives (records_on n i rs)) → AreGiven gives rs
    given_whole [] each = λ q d k. absurd (omega (arith, k))
    given_whole (r ∷ rs) each =
        given_more r rs (given_first gives r (records_on n (on r) rs) (subst (AreGiven gives) (own_part r rs) (each (on r) (stripe_below n (key_of r.call) least))))
        (given_whole rs (λ j lt. given_tail r rs j (is_on n j r) (each j lt)))

    part_given : (rs : List Record) (j : ℕ) → AreGiven gives rs → AreGiven gives (records_on n j rs)
    part_given [] j h = h
    part_given (r ∷ rs) j h = by (is_on n j r) (part_given rs j (given_rest gives r rs h))
      where
        by : (b : Bool) → AreGiven gives (records_on n j rs) → AreGiven gives (cond b (r ∷ records_on n j rs) (records_on n j rs))
        by true rest = given_more r (records_on n j rs) (given_first gives r rs h) rest
        by false rest = rest

-- ---- the histories of a list of records

-- The parts of `count` stripes from stripe `i` on.
abbrev parts : ℕ → ℕ → ℕ → List Record → List (List Record)
parts n i zero rs = []
parts n i (suc count) rs = records_on n i rs ∷ parts n (suc i) count rs

parts_count : (n i count : ℕ) (rs : List Record) → length (parts n i count rs) ≡ count
parts_count n i zero rs = refl
parts_count n i (suc count) rs = ap suc (parts_count n (suc i) count rs)

parts_at : (n i count j : ℕ) (rs : List Record) → j < count → history_at (parts n i count rs) j ≡ records_on n (i + j) rs
parts_at n i zero j rs lt = absurd (omega (arith, lt))
parts_at n i (suc count) zero rs lt = let same : i ≡ i + 0 = omega arith in ap (λ m. records_on n m rs) same
parts_at n i (suc count) (suc j) rs lt = let same : suc i + j ≡ i + suc j = omega arith in parts_at n (suc i) count j rs (omega (arith, lt)) ∙ ap (λ m. records_on n m rs) same

module _ (loads : Bool) (gives : ℤ → LoadAnswer → Type 0) (opening : List Stored) (journal : ℕ) where
  abbrev n : ℕ
  n = length opening

  pub runs_are_interleavings : (events : List Event) (w : World) → 0 < length opening → Runs gives (opened loads opening journal) events w
      → (histories : List (List Record)) × IsInterleaving (length opening) histories w.finished × AreSettled loads gives opening (entries_now w) histories
  runs_are_interleavings events w least runs =
      let h = runs_are_legal gives loads opening journal events w runs in
      let is : (i : ℕ) → i < n → history_at (parts n 0 n w.finished) i ≡ records_on n i w.finished = λ i lt. parts_at n 0 n i w.finished lt ∙ ap (λ m. records_on n m w.finished) (zero-add i) in (
        parts n 0 n w.finished,
        λ i lt. sym (is i lt),
        record {
          count = parts_count n 0 n w.finished;
          legal = λ i lt. subst (IsLegal loads (entry_among opening)) (sym (is i lt)) (h.0.by_stripe i);
          given = λ i lt. subst (AreGiven gives) (sym (is i lt)) (part_given n least gives w.finished i h.1);
          left = λ k. h.0.left_by_stripe k ∙ ap (λ rs. entries_after (entry_among opening) rs k) (sym (is (stripe_of n k) (stripe_below n k least)));
        },
      )
