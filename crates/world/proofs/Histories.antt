-- Histories with one more record.
use Rattle.std.proofs.Common.{arith, ◌≡◌, ℕ, ℤ, pos, negsuc, ◌<◌, Bool, true, false, cond, if◌then◌else◌, List, [], ◌∷◌, ◌++◌, filter, refl, sym, subst, ◌∙◌, append_assoc, true≢false}
use Rattle.std.proofs.lemmas.List.{append-nil}
use Rattle.std.proofs.lemmas.Bool.{eq-eqb, eqb-true}
use Rattle.std.proofs.lemmas.Bool.Decides.{Decides-int_eq}
use Rattle.std.specs.Ordering.{int_eq}
use Rattle.jtypes.specs.Entry.{Entry}
use Rattle.stripe.specs.History.{Record, Entries, key_of, entry_after, entries_after, Answers, IsLegalAfter, IsLegal, stripe_of}
use Rattle.world.specs.World.{is_on}
use Rattle.world.proofs.Places.{filter_more}

pub stripe_below : (n : ℕ) (k : ℤ) → 0 < n → stripe_of n k < n
stripe_below n (pos a) h = omega arith
stripe_below n (negsuc a) h = omega arith

-- ---- entries

module _ (e : Entry) (rs : List Record) (r : Record) (k : ℤ) where
  pub entry_there : key_of r.call ≡ k → entry_after e (rs ++ r ∷ []) k ≡ r.after
  entry_there same = snoc e rs ∙ by (int_eq (key_of r.call) k) ((Decides-int_eq (key_of r.call) k).1 same)
    where
      snoc : (e : Entry) (rs : List Record) → entry_after e (rs ++ r ∷ []) k ≡ (if int_eq (key_of r.call) k then r.after else entry_after e rs k)
      snoc e [] = refl
      snoc e (x ∷ xs) = snoc (if int_eq (key_of x.call) k then x.after else e) xs

      by : (b : Bool) → b ≡ true → (if b then r.after else entry_after e rs k) ≡ r.after
      by true t = refl
      by false t = absurd (true≢false (sym t))

  pub entry_elsewhere : ¬ (key_of r.call ≡ k) → entry_after e (rs ++ r ∷ []) k ≡ entry_after e rs k
  entry_elsewhere other = snoc e rs ∙ by (int_eq (key_of r.call) k) refl
    where
      snoc : (e : Entry) (rs : List Record) → entry_after e (rs ++ r ∷ []) k ≡ (if int_eq (key_of r.call) k then r.after else entry_after e rs k)
      snoc e [] = refl
      snoc e (x ∷ xs) = snoc (if int_eq (key_of x.call) k then x.after else e) xs

      by : (b : Bool) → int_eq (key_of r.call) k ≡ b → (if b then r.after else entry_after e rs k) ≡ entry_after e rs k
      by true t = absurd (other ((Decides-int_eq (key_of r.call) k).0 t))
      by false t = refl

-- ---- legality

module _ (loads : Bool) (opening : Entries) (r : Record) where
  abbrev AnswersAfter : List Record → Type 0
  AnswersAfter rs = Answers loads (entries_after opening rs (key_of r.call)) r.call r.reply r.after r.asked

  legal_after : (seen rs : List Record) → IsLegalAfter loads opening seen rs → AnswersAfter (seen ++ rs) → IsLegalAfter loads opening seen (rs ++ r ∷ [])
  legal_after seen [] l a = (subst AnswersAfter (append-nil seen) a, tt)
  legal_after seen (x ∷ xs) l a =
      (l.0, legal_after (seen ++ x ∷ []) xs l.1 (subst AnswersAfter (sym (append_assoc seen (x ∷ []) xs)) a))

  pub legal_more : (rs : List Record) → IsLegal loads opening rs → AnswersAfter rs → IsLegal loads opening (rs ++ r ∷ [])
  legal_more rs l a = legal_after [] rs l a

-- ---- the part of a list on a stripe

module _ (n i : ℕ) (rs : List Record) (r : Record) where
  pub part_there : stripe_of n (key_of r.call) ≡ i → filter (is_on n i) (rs ++ r ∷ []) ≡ filter (is_on n i) rs ++ r ∷ []
  part_there same = filter_more (is_on n i) rs r ∙ by (is_on n i r) (eq-eqb (stripe_of n (key_of r.call)) i same)
    where
      by : (b : Bool) → b ≡ true → cond b (filter (is_on n i) rs ++ r ∷ []) (filter (is_on n i) rs) ≡ filter (is_on n i) rs ++ r ∷ []
      by true t = refl
      by false t = absurd (true≢false (sym t))

  pub part_elsewhere : ¬ (stripe_of n (key_of r.call) ≡ i) → filter (is_on n i) (rs ++ r ∷ []) ≡ filter (is_on n i) rs
  part_elsewhere other = filter_more (is_on n i) rs r ∙ by (is_on n i r) refl
    where
      by : (b : Bool) → is_on n i r ≡ b → cond b (filter (is_on n i) rs ++ r ∷ []) (filter (is_on n i) rs) ≡ filter (is_on n i) rs
      by true t = absurd (other (eqb-true (stripe_of n (key_of r.call)) i t))
      by false t = refl
