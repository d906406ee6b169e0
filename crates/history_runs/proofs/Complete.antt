-- Each legal history is the list of finished calls of a run.
use Rattle.std.proofs.Common.{cond, ◌==◌, true, false, arith, ◌≡◌, ◌<◌, ◌+◌, ℕ, zero, suc, ℤ, Bool, List, [], ◌∷◌, ◌++◌, length, replicate, count_by, Some, None, slice_get, refl, sym, ap, subst, ◌∙◌, append_assoc}
use Rattle.std.proofs.lemmas.Bool.{eq-eqb, eqb-true}
use Rattle.std.proofs.lemmas.List.{append-nil}
use Rattle.jtypes.specs.declared.loader.LoadAnswer.{LoadAnswer}
use Rattle.jtypes.specs.Loading.{IsGiven}
use Rattle.stripe.specs.History.{Record, IsLegalAfter, IsLegal, AreGiven, key_of, stripe_of}
use Rattle.stripe.specs.Stored.{Stored, entry_among}
use Rattle.world.specs.World.{World, Event, opened, is_by, starts_of, is_on, records_on}
use Rattle.world.specs.Refused.{is_full, NoneRuns}
use Rattle.world.proofs.Places.{one_if, sum_cons}
use Rattle.world.proofs.Histories.{stripe_below}
use Rattle.history_runs.specs.OneByOne.{events_of, count_of, AreOneByOne, no_calls, then_call, AreNumberedAfter, AreNumbered, HasRoom, IsRunOneByOne}
use Rattle.history_runs.proofs.Events.{RunsIf, none_if, runs_on, call_runs}
use Rattle.history_runs.proofs.Sound.{none_there}

all_are : {X : Type 0} (x : X) (n i : ℕ) → i < n → slice_get (replicate n x) i ≡ Some x
all_are x zero i h = absurd (omega (arith, h))
all_are x (suc n) zero h = refl
all_are x (suc n) (suc i) h = all_are x n i (omega (arith, h))

none_by : (caller n : ℕ) → count_by (is_by caller) (replicate n None) ≡ 0
none_by caller zero = refl
none_by caller (suc n) = sum_cons (λ o. one_if (is_by caller o)) None (replicate n None) ∙ ap (λ k. 0 + k) (none_by caller n)

pub given_first : (gives : ℤ → LoadAnswer → Type 0) (r : Record) (rs : List Record) → AreGiven gives (r ∷ rs) → IsGiven gives (key_of r.call) r.asked
given_first gives r rs h = h 0 r (omega arith)

pub given_rest : (gives : ℤ → LoadAnswer → Type 0) (r : Record) (rs : List Record) → AreGiven gives (r ∷ rs) → AreGiven gives rs
given_rest gives r rs h q d k = h (suc q) d (omega (arith, k))

not_equal : (x y : ℕ) → x < y → (x == y) ≡ false
not_equal x y lt = by (x == y) refl
  where
    by : (b : Bool) → (x == y) ≡ b → (x == y) ≡ false
    by true e = absurd (omega (arith, lt, eqb-true x y e))
    by false e = e

-- A record leaves its stripe's part of the records before it shorter than that of all.
part_shorter : (n : ℕ) (seen rs : List Record) (r : Record) → length (records_on n (stripe_of n (key_of r.call)) seen) < length (records_on n (stripe_of n (key_of r.call)) (seen ++ r ∷ rs))
part_shorter n [] rs r =
    let i : ℕ = stripe_of n (key_of r.call) in
    let own : length (records_on n i (r ∷ rs)) ≡ suc (length (records_on n i rs)) = ap (λ b. length (cond b (r ∷ records_on n i rs) (records_on n i rs))) (eq-eqb i i refl) in
    omega (arith, own)
part_shorter n (x ∷ xs) rs r = by (is_on n i x) (part_shorter n xs rs r)
  where
    i : ℕ
    i = stripe_of n (key_of r.call)

    by : (b : Bool) → length (records_on n (stripe_of n (key_of r.call)) xs) < length (records_on n (stripe_of n (key_of r.call)) (xs ++ r ∷ rs))
        → length (cond b (x ∷ records_on n (stripe_of n (key_of r.call)) xs) (records_on n (stripe_of n (key_of r.call)) xs))
        < length (cond b (x ∷ records_on n (stripe_of n (key_of r.call)) (xs ++ r ∷ rs)) (records_on n (stripe_of n (key_of r.call)) (xs ++ r ∷ rs)))
    by true lt = omega (arith, lt)
    by false lt = lt

module _ (loads : Bool) (gives : ℤ → LoadAnswer → Type 0) (opening : List Stored) (journal : ℕ) (least : 0 < length opening) where
  abbrev n : ℕ
  n = length opening

  -- The world without running calls that has finished these.
  abbrev after : List Record → World
  after seen = record { loads = loads; opening = opening; journal = journal; running = replicate n None; finished = seen }

  pub starts_after : (seen : List Record) (caller : ℕ) → starts_of (after seen) caller ≡ count_of caller seen
  starts_after seen caller = ap (λ m. count_of caller seen + m) (none_by caller n) ∙ omega arith

  quiet : (seen : List Record) → NoneRuns (after seen)
  quiet seen i r e = none_there n i r e

  -- A run that has room if these records have.
  abbrev Runs_to : List Record → List Record → Type 0
  Runs_to all rs = (events : List Event) × RunsIf (HasRoom n journal all) gives (opened loads opening journal) events (after rs) × AreOneByOne n rs events

  not_full : (all seen rs : List Record) (r : Record) → seen ++ r ∷ rs ≡ all → HasRoom n journal all → is_full (after seen) (stripe_of n (key_of r.call)) ≡ false
  not_full all seen rs r whole room =
      let i : ℕ = stripe_of n (key_of r.call) in
      let short : length (records_on n i seen) < length (records_on n i all) = subst (λ xs. length (records_on n i seen) < length (records_on n i xs)) whole (part_shorter n seen rs r) in
      not_equal (length (records_on n i seen)) journal (omega (arith, short, room i (stripe_below n (key_of r.call) least)))

  all_run : (all seen rs : List Record) → seen ++ rs ≡ all → Runs_to all seen → IsLegalAfter loads (entry_among opening) seen rs → AreGiven gives rs → AreNumberedAfter seen rs → Runs_to all all
  all_run all seen [] whole so_far legal given numbered = subst (Runs_to all) (sym (append-nil seen) ∙ whole) so_far
  all_run all seen (r ∷ rs) whole (events, runs, order) legal given numbered =
      let i : ℕ = stripe_of n (key_of r.call) in
      let (steps, call) = call_runs (HasRoom n journal all) gives (after seen) i r (quiet seen) (not_full all seen rs r whole) (all_are None n i (stripe_below n (key_of r.call) least)) refl legal.0 (given_first gives r rs given) (numbered.0 ∙ sym (starts_after seen r.caller)) in
      all_run all (seen ++ r ∷ []) rs (append_assoc seen (r ∷ []) rs ∙ whole) (events ++ events_of i steps r, runs_on events (events_of i steps r) (after (seen ++ r ∷ [])) runs call, then_call r steps order) legal.1 (given_rest gives r rs given) numbered.1

  pub legal_is_run : (records : List Record) → IsLegal loads (entry_among opening) records → AreGiven gives records → AreNumbered records → (events : List Event) × (final : World) × IsRunOneByOne loads gives opening journal records events final
  legal_is_run records legal given numbered =
      let (events, runs, order) = all_run records [] records refl ([], none_if, no_calls) legal given numbered in
      (events, after records, record { runs = runs.0; room = runs.1; order = order; finished = refl; none = quiet records })

pub legal_are_runs : (loads : Bool) (gives : ℤ → LoadAnswer → Type 0) (opening : List Stored) (journal : ℕ) (records : List Record) → 0 < length opening → IsLegal loads (entry_among opening) records → AreGiven gives records → AreNumbered records
    → (events : List Event) × (final : World) × IsRunOneByOne loads gives opening journal records events final
legal_are_runs loads gives opening journal records least = legal_is_run loads gives opening journal least records
