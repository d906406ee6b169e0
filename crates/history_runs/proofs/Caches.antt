-- The histories of a closed cache as runs of a world.
use Rattle.std.proofs.Common.{arith, ◌≡◌, ◌<◌, ◌+◌, ℕ, zero, suc, ℤ, Bool, true, false, cond, List, [], ◌∷◌, ◌++◌, length, map, refl, sym, ap, subst, ◌∙◌, zero-add}
use Rattle.std.proofs.lemmas.Bool.{eq-eqb, eqb-true}
use Rattle.std.proofs.lemmas.List.{append-nil}
use Rattle.std.proofs.lemmas.List.Elements.{filter-append}
use mathlib.Core.Option.{some, some-injective, some-ne-none}
use lib.ListN.{get_elem?}
use Rattle.jtypes.specs.declared.loader.LoadAnswer.{LoadAnswer}
use Rattle.stripe.specs.History.{Record, Entries, IsLegal, AreGiven, entries_after, key_of, stripe_of}
use Rattle.stripe.specs.Stored.{Stored, entry_among}
use Rattle.cache.specs.Opened.{Opened, Sitting}
use Rattle.cache.specs.Closing.{history_at, receipts_at, Settles}
use Rattle.round_outcome.specs.Closed.{all_records, AreFiled, AllAreFiled}
use Rattle.world.specs.World.{World, Event, entries_now, is_on, records_on}
use Rattle.world.proofs.Histories.{stripe_below}
use Rattle.world.proofs.Lawful.{part_after}
use Rattle.history_runs.specs.OneByOne.{IsRunOneByOne}
use Rattle.history_runs.specs.Settled.{AreSettled, IsInterleaving, said}
use Rattle.history_runs.specs.Statements.{CachesAreSettled, InterleavingsAreRuns, CachesAreRuns}
use Rattle.history_runs.proofs.Sound.{runs_are_legal}
use Rattle.history_runs.proofs.Complete.{legal_are_runs}
use Rattle.history_runs.proofs.Local.{legal_whole, given_whole}
use Rattle.history_runs.proofs.Numbers.{numbered, numbered_said, are_numbered, numbered_legal, numbered_given, numbered_on, numbered_leaves}

pub caches_are_settled : (L : Type 0) (loads : Bool) (gives : ℤ → LoadAnswer → Type 0) → CachesAreSettled L loads gives
caches_are_settled L loads gives d seats tables histories s = record { count = s.histories_count; legal = s.legal; given = s.given; left = s.left }

-- ---- interleavings

module _ (loads : Bool) (gives : ℤ → LoadAnswer → Type 0) (opening : List Stored) (journal : ℕ) (now : Entries) (histories : List (List Record)) (records : List Record) where
  module _ (least : 0 < length opening) (h : AreSettled loads gives opening now histories) (is : IsInterleaving (length opening) histories records) where
    abbrev n : ℕ
    n = length opening

    whole : IsLegal loads (entry_among opening) records
    whole = legal_whole n least loads (entry_among opening) [] records (λ i lt. subst (IsLegal loads (entry_among opening)) (sym (is i lt)) (h.legal i lt))

    answers : AreGiven gives records
    answers = given_whole n least gives records (λ i lt. subst (AreGiven gives) (sym (is i lt)) (h.given i lt))

    left_by : (k : ℤ) → now k ≡ entries_after (entry_among opening) records k
    left_by k =
        h.left k ∙ ap (λ rs. entries_after (entry_among opening) rs k) (sym (is (stripe_of n k) (stripe_below n k least)))
        ∙ part_after n (stripe_of n k) (entry_among opening k) records k refl

  -- The entries at the end of a run.
  at_end : (events : List Event) (final : World) → IsRunOneByOne loads gives opening journal records events final → (k : ℤ) → entries_now final k ≡ entries_after (entry_among opening) records k
  at_end events final r k = (runs_are_legal gives loads opening journal events final r.runs).0.left k ∙ ap (λ rs. entries_after (entry_among opening) rs k) r.finished

pub interleavings_are_runs : (loads : Bool) (gives : ℤ → LoadAnswer → Type 0) → InterleavingsAreRuns loads gives
interleavings_are_runs loads gives opening journal now histories records least h is are =
    let (events, final, run) = legal_are_runs loads gives opening journal records least (whole loads gives opening journal now histories records least h is) (answers loads gives opening journal now histories records least h is) are in (
      events,
      final,
      record {
        run = run;
        histories_are = λ i lt. ap (map said) (is i lt);
        left = λ k. left_by loads gives opening journal now histories records least h is k ∙ sym (at_end loads gives opening journal now histories records events final run k);
      },
    )

-- ---- one history after the other

-- Each record is on stripe `i` of `n`.
abbrev AreOn : ℕ → ℕ → List Record → Type 0
AreOn n i [] = Unit {0}
AreOn n i (r ∷ rs) = (stripe_of n (key_of r.call) ≡ i) × AreOn n i rs

are_on : (n i : ℕ) (rs : List Record) → ((q : ℕ) (r : Record) → get_elem? rs q ≡ some r → stripe_of n (key_of r.call) ≡ i) → AreOn n i rs
are_on n i [] each = tt
are_on n i (r ∷ rs) each = (each 0 r refl, are_on n i rs (λ q x e. each (suc q) x e))

-- Each record of each history is on its stripe.
abbrev AreOwn : ℕ → ℕ → List (List Record) → Type 0
AreOwn n i [] = Unit {0}
AreOwn n i (h ∷ hs) = AreOn n i h × AreOwn n (suc i) hs

on_own : (n i : ℕ) (h : List Record) → AreOn n i h → records_on n i h ≡ h
on_own n i [] own = refl
on_own n i (r ∷ rs) own = ap (λ b. cond b (r ∷ records_on n i rs) (records_on n i rs)) (eq-eqb (stripe_of n (key_of r.call)) i own.0) ∙ ap (λ xs. r ∷ xs) (on_own n i rs own.1)

on_other : (n i j : ℕ) (h : List Record) → ¬ (j ≡ i) → AreOn n j h → records_on n i h ≡ []
on_other n i j [] apart own = refl
on_other n i j (r ∷ rs) apart own = ap (λ b. cond b (r ∷ records_on n i rs) (records_on n i rs)) (away (is_on n i r) refl) ∙ on_other n i j rs apart own.1
  where
    away : (b : Bool) → is_on n i r ≡ b → is_on n i r ≡ false
    away true e = absurd (apart (sym own.0 ∙ eqb-true (stripe_of n (key_of r.call)) i e))
    away false e = e

below_none : (n i j : ℕ) (hs : List (List Record)) → j < i → AreOwn n i hs → records_on n j (all_records hs) ≡ []
below_none n i j [] lt own = refl
below_none n i j (h ∷ hs) lt own =
    filter-append (is_on n j) h (all_records hs) ∙ ap (λ xs. xs ++ records_on n j (all_records hs)) (on_other n j i h (λ e. absurd (omega (arith, lt, e))) own.0)
    ∙ below_none n (suc i) j hs (omega (arith, lt)) own.1

all_on : (n i j : ℕ) (hs : List (List Record)) → AreOwn n i hs → records_on n (i + j) (all_records hs) ≡ history_at hs j
all_on n i j [] own = refl
all_on n i zero (h ∷ hs) own =
    let same : i + 0 ≡ i = omega arith in
    ap (λ m. records_on n m (h ++ all_records hs)) same ∙ filter-append (is_on n i) h (all_records hs)
    ∙ (λ k. on_own n i h own.0 k ++ below_none n (suc i) i hs (omega arith) own.1 k) ∙ append-nil h
all_on n i (suc j) (h ∷ hs) own =
    let same : i + suc j ≡ suc i + j = omega arith in
    filter-append (is_on n (i + suc j)) h (all_records hs) ∙ ap (λ xs. xs ++ records_on n (i + suc j) (all_records hs)) (on_other n (i + suc j) i h (λ e. absurd (omega (arith, e))) own.0)
    ∙ ap (λ m. records_on n m (all_records hs)) same ∙ all_on n (suc i) j hs own.1

filed_at : (stripes : ℕ) (seats : List Sitting) → AllAreFiled stripes seats → (c : ℕ) → AreFiled stripes (receipts_at seats c)
filed_at stripes [] filed c n t e = absurd (some-ne-none t (sym e))
filed_at stripes (s ∷ ss) filed zero n t e = filed 0 s refl n t e
filed_at stripes (s ∷ ss) filed (suc c) n t e = filed_at stripes ss (λ d x f. filed (suc d) x f) c n t e

module _ {L : Type 0} (loads : Bool) (gives : ℤ → LoadAnswer → Type 0) (d : Opened L) (seats : List Sitting) (tables : List Stored) (histories : List (List Record)) (s : Settles loads gives d seats tables histories) where
  module _ (i q : ℕ) (r : Record) (there : get_elem? (history_at histories i) q ≡ some r) where
    -- The receipt of a record has the record's call.
    same_call : (s.accounts.recorded i q r there).1.receipt.call ≡ r.call
    same_call =
        let t = (s.accounts.recorded i q r there).1 in
        let v = s.accounts.received r.caller r.number t.receipt t.there in
        let again : get_elem? (history_at histories i) q ≡ some v.made = (λ k. get_elem? (history_at histories (sym t.stripe_is k)) (sym t.place_is k)) ∙ v.there in
        v.same.call ∙ ap (λ (x : Record). x.call) (some-injective v.made r (sym again ∙ there))

  module _ (filed : AllAreFiled (length d.tables) seats) where
    own_key : (i q : ℕ) (r : Record) → get_elem? (history_at histories i) q ≡ some r → stripe_of (length d.tables) (key_of r.call) ≡ i
    own_key i q r there =
        let t = (s.accounts.recorded i q r there).1 in
        sym (sym t.stripe_is ∙ filed_at (length d.tables) seats filed r.caller r.number t.receipt t.there ∙ ap (λ c. stripe_of (length d.tables) (key_of c)) (same_call i q r there))

    own_from : (i : ℕ) (hs : List (List Record)) → ((j q : ℕ) (r : Record) → get_elem? (history_at hs j) q ≡ some r → stripe_of (length d.tables) (key_of r.call) ≡ i + j) → AreOwn (length d.tables) i hs
    own_from i [] each = tt
    own_from i (h ∷ hs) each = (
      are_on (length d.tables) i h (λ q r e. omega (arith, each 0 q r e)),
      own_from (suc i) hs (λ j q r e. omega (arith, each (suc j) q r e)),
    )

    concatenated : IsInterleaving (length d.tables) histories (all_records histories)
    concatenated i lt =
        ap (λ m. records_on (length d.tables) m (all_records histories)) (sym (zero-add i))
        ∙ all_on (length d.tables) 0 i histories (own_from 0 histories (λ j q r e. own_key j q r e ∙ sym (zero-add j)))

pub caches_are_runs : (L : Type 0) (loads : Bool) (gives : ℤ → LoadAnswer → Type 0) → CachesAreRuns L loads gives
caches_are_runs L loads gives d seats tables histories least s filed =
    let all : List Record = all_records histories in
    let now : Entries = entry_among tables in
    let is : IsInterleaving (length d.tables) histories all = concatenated loads gives d seats tables histories s filed in
    let h : AreSettled loads gives d.tables now histories = caches_are_settled L loads gives d seats tables histories s in
    let legal : IsLegal loads (entry_among d.tables) (numbered [] all) =
    numbered_legal loads (entry_among d.tables) [] [] all (λ e k. refl) (whole loads gives d.tables d.journal now histories all least h is) in
    let given : AreGiven gives (numbered [] all) = numbered_given gives [] all (answers loads gives d.tables d.journal now histories all least h is) in
    let (events, final, run) = legal_are_runs loads gives d.tables d.journal (numbered [] all) least legal given (are_numbered [] all) in (
      numbered [] all,
      events,
      final,
      numbered_said [] all,
      record {
        run = run;
        histories_are = λ i lt. numbered_on (length d.tables) i [] all ∙ ap (map said) (is i lt);
        left = λ k. left_by loads gives d.tables d.journal now histories all least h is k ∙ numbered_leaves (entry_among d.tables k) [] all k ∙ sym (at_end loads gives d.tables d.journal now histories (numbered [] all) events final run k);
      },
    )
