-- Each stripe's part of a legal history is legal.
use Rattle.std.proofs.Common.{◌≡◌, ℕ, ℤ, Bool, true, false, cond, if◌then◌else◌, List, [], ◌∷◌, ◌++◌, length, refl, sym, ap, subst, ◌∙◌, true≢false}
use Rattle.std.proofs.lemmas.Bool.{eq-eqb, eqb-true}
use Rattle.std.proofs.lemmas.Bool.Decides.{Decides-int_eq}
use Rattle.std.specs.Ordering.{int_eq}
use Rattle.jtypes.specs.Entry.{Entry}
use Rattle.stripe.specs.History.{Record, Entries, key_of, entry_after, entries_after, Answers, IsLegalAfter, IsLegal, stripe_of}
use Rattle.stripe.specs.Stored.{Stored, entry_among}
use Rattle.world.specs.World.{is_on, records_on}
use Rattle.world.specs.Lawful.{IsLawful}
use Rattle.world.proofs.Histories.{part_there, part_elsewhere}

-- ---- the records on a stripe

module _ (n i : ℕ) where
  -- Records on other stripes do not affect an entry.
  pub part_after : (e : Entry) (rs : List Record) (k : ℤ) → stripe_of n k ≡ i → entry_after e (records_on n i rs) k ≡ entry_after e rs k
  part_after e [] k at = refl
  part_after e (r ∷ rs) k at = by (is_on n i r) refl (part_after (if int_eq (key_of r.call) k then r.after else e) rs k at) (part_after e rs k at)
    where
      other : is_on n i r ≡ false → (c : Bool) → int_eq (key_of r.call) k ≡ c → (if c then r.after else e) ≡ e
      other t true q =
          let same : key_of r.call ≡ k = (Decides-int_eq (key_of r.call) k).0 q in
          absurd (true≢false (sym (eq-eqb (stripe_of n (key_of r.call)) i (ap (stripe_of n) same ∙ at)) ∙ t))
      other t false q = refl

      by : (b : Bool) → is_on n i r ≡ b → entry_after (if int_eq (key_of r.call) k then r.after else e) (records_on n i rs) k ≡ entry_after (if int_eq (key_of r.call) k then r.after else e) rs k
          → entry_after e (records_on n i rs) k ≡ entry_after e rs k
          → entry_after e (cond b (r ∷ records_on n i rs) (records_on n i rs)) k ≡ entry_after (if int_eq (key_of r.call) k then r.after else e) rs k
      by true t with_it without = with_it
      by false t with_it without = without ∙ ap (λ v. entry_after v rs k) (sym (other t (int_eq (key_of r.call) k) refl))

  pub legal_part : (loads : Bool) (opening : Entries) (seen rs : List Record) → IsLegalAfter loads opening seen rs → IsLegalAfter loads opening (records_on n i seen) (records_on n i rs)
  legal_part loads opening seen [] l = tt
  legal_part loads opening seen (r ∷ rs) l = by (is_on n i r) refl (legal_part loads opening (seen ++ r ∷ []) rs l.1)
    where
      by : (b : Bool) → is_on n i r ≡ b → IsLegalAfter loads opening (records_on n i (seen ++ r ∷ [])) (records_on n i rs)
          → IsLegalAfter loads opening (records_on n i seen) (cond b (r ∷ records_on n i rs) (records_on n i rs))
      by true t rest =
          let at : stripe_of n (key_of r.call) ≡ i = eqb-true (stripe_of n (key_of r.call)) i t in (
            subst (λ e. Answers loads e r.call r.reply r.after r.asked) (sym (part_after (opening (key_of r.call)) seen (key_of r.call) at)) l.0,
            subst (λ (xs : List Record). IsLegalAfter loads opening xs (records_on n i rs)) (part_there n i seen r at) rest,
          )
      by false t rest =
          subst (λ (xs : List Record). IsLegalAfter loads opening xs (records_on n i rs)) (part_elsewhere n i seen r (λ q. true≢false (sym (eq-eqb (stripe_of n (key_of r.call)) i q) ∙ t))) rest

-- ---- the whole history

pub is_lawful : (loads : Bool) (opening : List Stored) (finished : List Record) (now : Entries) → IsLegal loads (entry_among opening) finished
    → ((k : ℤ) → now k ≡ entries_after (entry_among opening) finished k) → IsLawful loads opening finished now
is_lawful loads opening finished now legal left =
    record {
      legal = legal;
      by_stripe = λ i. legal_part (length opening) i loads (entry_among opening) [] finished legal;
      left = left;
      left_by_stripe = λ k. left k ∙ sym (part_after (length opening) (stripe_of (length opening) k) (entry_among opening k) finished k refl);
    }
