-- Records with the numbers that a world gives them.
use Rattle.std.proofs.Common.{arith, ◌≡◌, ℕ, zero, suc, ℤ, Bool, true, false, cond, List, [], ◌∷◌, ◌++◌, map, if◌then◌else◌, refl, sym, ap, subst, ◌∙◌}
use Rattle.std.specs.Ordering.{int_eq}
use Rattle.jtypes.specs.declared.loader.LoadAnswer.{LoadAnswer}
use Rattle.jtypes.specs.Entry.{Entry}
use Rattle.stripe.specs.History.{Record, Entries, Answers, IsLegalAfter, AreGiven, entry_after, key_of}
use Rattle.world.specs.World.{is_on, records_on}
use Rattle.history_runs.specs.OneByOne.{count_of, AreNumberedAfter}
use Rattle.history_runs.specs.Settled.{said}
use Rattle.history_runs.proofs.Complete.{given_first, given_rest}

abbrev pub with_number : ℕ → Record → Record
with_number n r = record { caller = r.caller; number = n; call = r.call; reply = r.reply; after = r.after; asked = r.asked }

-- The records, numbered behind those of `seen`.
abbrev pub numbered : List Record → List Record → List Record
numbered seen [] = []
numbered seen (r ∷ rs) = with_number (count_of r.caller seen) r ∷ numbered (seen ++ with_number (count_of r.caller seen) r ∷ []) rs

pub numbered_said : (seen rs : List Record) → map said (numbered seen rs) ≡ map said rs
numbered_said seen [] = refl
numbered_said seen (r ∷ rs) = ap (λ xs. said r ∷ xs) (numbered_said (seen ++ with_number (count_of r.caller seen) r ∷ []) rs)

pub are_numbered : (seen rs : List Record) → AreNumberedAfter seen (numbered seen rs)
are_numbered seen [] = tt
are_numbered seen (r ∷ rs) = (refl, are_numbered (seen ++ with_number (count_of r.caller seen) r ∷ []) rs)

-- ---- the number changes nothing else

after_same : (e : Entry) (rs ts : List Record) (r : Record) (n : ℕ) (k : ℤ) → ((d : Entry) → entry_after d rs k ≡ entry_after d ts k) → entry_after e (rs ++ r ∷ []) k ≡ entry_after e (ts ++ with_number n r ∷ []) k
after_same e rs ts r n k same = after_more e rs r k ∙ ap (λ d. if int_eq (key_of r.call) k then r.after else d) (same e) ∙ sym (after_more e ts (with_number n r) k)
  where
    after_more : (e : Entry) (rs : List Record) (r : Record) (k : ℤ) → entry_after e (rs ++ r ∷ []) k ≡ (if int_eq (key_of r.call) k then r.after else entry_after e rs k)
    after_more e [] r k = refl
    after_more e (x ∷ xs) r k = after_more (if int_eq (key_of x.call) k then x.after else e) xs r k

-- Records that leave the same entries.
abbrev LeaveSame : List Record → List Record → Type 0
LeaveSame rs ts = (e : Entry) (k : ℤ) → entry_after e rs k ≡ entry_after e ts k

pub numbered_legal : (loads : Bool) (opening : Entries) (old seen rs : List Record) → LeaveSame old seen → IsLegalAfter loads opening old rs → IsLegalAfter loads opening seen (numbered seen rs)
numbered_legal loads opening old seen [] same h = tt
numbered_legal loads opening old seen (r ∷ rs) same h = (
  subst (λ e. Answers loads e r.call r.reply r.after r.asked) (same (opening (key_of r.call)) (key_of r.call)) h.0,
  numbered_legal loads opening (old ++ r ∷ []) (seen ++ with_number (count_of r.caller seen) r ∷ []) rs (λ e k. after_same e old seen r (count_of r.caller seen) k (λ d. same d k)) h.1,
)

pub numbered_given : (gives : ℤ → LoadAnswer → Type 0) (seen rs : List Record) → AreGiven gives rs → AreGiven gives (numbered seen rs)
numbered_given gives seen [] h = h
numbered_given gives seen (r ∷ rs) h = by (numbered_given gives (seen ++ with_number (count_of r.caller seen) r ∷ []) rs (given_rest gives r rs h))
  where
    by : AreGiven gives (numbered (seen ++ with_number (count_of r.caller seen) r ∷ []) rs) → AreGiven gives (numbered seen (r ∷ rs))
    by rest zero d k = given_first gives r rs h
    by rest (suc q) d k = rest q d (omega (arith, k))

-- The records on a stripe say the same.
pub numbered_on : (n i : ℕ) (seen rs : List Record) → map said (records_on n i (numbered seen rs)) ≡ map said (records_on n i rs)
numbered_on n i seen [] = refl
numbered_on n i seen (r ∷ rs) = by (is_on n i r) (numbered_on n i (seen ++ with_number (count_of r.caller seen) r ∷ []) rs)
  where
    by : (b : Bool) → map said (records_on n i (numbered (seen ++ with_number (count_of r.caller seen) r ∷ []) rs)) ≡ map said (records_on n i rs)
        → map said (cond b (with_number (count_of r.caller seen) r ∷ records_on n i (numbered (seen ++ with_number (count_of r.caller seen) r ∷ []) rs)) (records_on n i (numbered (seen ++ with_number (count_of r.caller seen) r ∷ []) rs)))
        ≡ map said (cond b (r ∷ records_on n i rs) (records_on n i rs))
    by true h = ap (λ xs. said r ∷ xs) h
    by false h = h

pub numbered_leaves : (e : Entry) (seen rs : List Record) (k : ℤ) → entry_after e rs k ≡ entry_after e (numbered seen rs) k
numbered_leaves e seen [] k = refl
numbered_leaves e seen (r ∷ rs) k = numbered_leaves (if int_eq (key_of r.call) k then r.after else e) (seen ++ with_number (count_of r.caller seen) r ∷ []) rs k
