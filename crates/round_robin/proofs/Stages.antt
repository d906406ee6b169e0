-- The events of a round preserve its invariant.
use Rattle.std.proofs.Common.{arith, ◌≡◌, ℕ, ◌+◌, ◌<◌, ◌≤◌, Bool, true, false, ◌==◌, inl, inr, List, [], length, replicate, Option, Some, None, is_some, slice_get, slice_set, IsPermutation, refl, sym, ap, subst, ◌∙◌, true≢false}
use Rattle.std.proofs.lemmas.Bool.{eq-eqb, eqb-true}
use Rattle.std.proofs.lemmas.Option.{slice_get_within}
use Rattle.std.proofs.lemmas.List.{length-set, length-map, length-replicate}
use Rattle.std.proofs.lemmas.List.Sorted.{IsPermutation-refl, length_permutation}
use Rattle.jtypes.specs.Entry.{Entry}
use Rattle.jtypes.specs.declared.loader.LoadAnswer.{LoadAnswer}
use Rattle.stripe.specs.declared.call.Reply.{Reply}
use Rattle.stripe.specs.History.{Call, Record, key_of, stripe_of}
use Rattle.stripe.specs.Kept.{may_make}
use Rattle.stripe.specs.Stored.{Stored}
use Rattle.world.specs.World.{World, Running, Progress, opened, history_of, is_on, starts_of, with_running, with_record, with_progress, running_call, record_of_call, stripe_in}
use Rattle.world.specs.Forward.{turns_on, turns_left}
use Rattle.round_outcome.specs.Outcome.{AreRefused, answered, calls_in}
use Rattle.round_robin.specs.Scheduling.{Stage, IsNumbered, IsRight, RunsOrRefused, IsGoing, IsAsBefore, AreIdleBefore}
use Rattle.round_robin.proofs.Replies.{get_set, get_other, get_cases, get_in, get_replicate, replicate_get, none_answered, answered_more, fewer_answered, few_filtered}
use Rattle.round_robin.proofs.Moves.{no_some, some_turns, no_turns, Steps, nothing, goes}

-- ---- numbers and running calls

-- A call runs on a stripe with a number.
pub numbered : (s : Stage) → IsGoing s → (i k : ℕ) → slice_get s.numbers i ≡ Some (Some k) → (r : Running) × (slice_get s.world.running i ≡ Some (Some r)) × IsNumbered s i k r
numbered s h i k e =
    let many = slice_get_within s.numbers i (Some k) e in
    let found = get_in s.world.running i (omega (arith, many, h.numbers, h.running)) in
    by found.0 found.1
  where
    by : (o : Option Running) → slice_get s.world.running i ≡ Some o → (r : Running) × (slice_get s.world.running i ≡ Some (Some r)) × IsNumbered s i k r
    by None f = absurd (h.right i (Some k) None e f)
    by (Some r) f = (r, f, h.right i (Some k) (Some r) e f)

pub numbered_turns : (s : Stage) → IsGoing s → (i k : ℕ) → slice_get s.numbers i ≡ Some (Some k) → 0 < turns_left s.world i
numbered_turns s h i k e =
    let found = numbered s h i k e in
    subst (λ o. 0 < turns_on o) (sym found.1) (some_turns found.0.progress)

-- No call runs on a stripe without a number.
pub no_number : (s : Stage) → IsGoing s → (i : ℕ) → slice_get s.numbers i ≡ Some None → slice_get s.world.running i ≡ Some None
no_number s h i e =
    let many = slice_get_within s.numbers i None e in
    let found = get_in s.world.running i (omega (arith, many, h.numbers, h.running)) in
    by found.0 found.1
  where
    by : (o : Option Running) → slice_get s.world.running i ≡ Some o → slice_get s.world.running i ≡ Some None
    by None f = f
    by (Some r) f = absurd (h.right i None (Some r) e f)

pub no_turns_left : (s : Stage) → IsGoing s → (i : ℕ) → slice_get s.numbers i ≡ Some None → turns_left s.world i ≡ 0
no_turns_left s h i e = ap turns_on (no_number s h i e)

-- If the bound of a stripe is 0, no call runs on it (`idle_running`), and it has no number (`idle_number`).
pub idle_running : (s : Stage) → IsGoing s → (i : ℕ) → i < length s.world.opening → turns_left s.world i ≡ 0 → slice_get s.world.running i ≡ Some None
idle_running s h i lt e =
    let found = get_in s.world.running i (omega (arith, lt, h.running)) in
    found.1 ∙ ap Some (no_turns found.0 (sym (ap turns_on found.1) ∙ e))

pub idle_number : (s : Stage) → IsGoing s → (i : ℕ) → i < length s.world.opening → turns_left s.world i ≡ 0 → slice_get s.numbers i ≡ Some None
idle_number s h i lt e =
    let found = get_in s.numbers i (omega (arith, lt, h.numbers)) in
    by found.0 found.1
  where
    by : (o : Option ℕ) → slice_get s.numbers i ≡ Some o → slice_get s.numbers i ≡ Some None
    by None f = f
    by (Some k) f = let more = numbered_turns s h i k f in absurd (omega (arith, more, e))

pub none_of : (o : Option ℕ) → ((k : ℕ) → o ≡ Some k → ⊥) → o ≡ None
none_of None n = refl
none_of (Some k) n = absurd (n k refl)

pub some_of : (o : Option ℕ) → is_some o ≡ true → (k : ℕ) × (o ≡ Some k)
some_of None e = absurd (true≢false (sym e))
some_of (Some k) e = (k, refl)

pub empty_of : (o : Option ℕ) → is_some o ≡ false → o ≡ None
empty_of None e = refl
empty_of (Some k) e = absurd (true≢false e)

-- ---- the beginning

pub going_opened : (loads : Bool) (calls : List Call) (opening : List Stored) (journal : ℕ) (numbers : List (Option ℕ)) (replies : List (Option Reply)) → length calls ≤ journal
    → numbers ≡ replicate (length opening) None → replies ≡ replicate (length calls) None
    → IsGoing (record { calls = calls; begun = 0; world = opened loads opening journal; numbers = numbers; replies = replies })
going_opened loads calls opening journal numbers replies few none blank =
    record {
      replies = ap length blank ∙ length-replicate (length calls) None;
      numbers = ap length none ∙ length-replicate (length opening) None;
      running = length-replicate (length opening) None;
      room = few;
      once = subst (λ l. IsPermutation l []) (sym (ap (answered calls) blank ∙ none_answered calls (length calls))) (IsPermutation-refl []);
      ahead = λ k _ lt. ap (λ l. slice_get l k) blank ∙ replicate_get (length calls) k None lt;
      right = λ i n o e f. by i n o (get_replicate (length opening) i None n (sym (ap (λ l. slice_get l i) none) ∙ e)) (get_replicate (length opening) i None o f);
      refused = λ k call lt. absurd (omega (arith, lt));
    }
  where
    by : (i : ℕ) (n : Option ℕ) (o : Option Running) → n ≡ None → o ≡ None → IsRight (record { calls = calls; begun = 0; world = opened loads opening journal; numbers = numbers; replies = replies }) i n o
    by i None None e f = tt
    by i None (Some r) e f = no_some (sym f)
    by i (Some k) o e f = no_some (sym e)

-- ---- a step

abbrev pub on_world : Stage → World → Stage
on_world s w = record { calls = s.calls; begun = s.begun; world = w; numbers = s.numbers; replies = s.replies }

module _ (s : Stage) (h : IsGoing s) (i : ℕ) (r : Running) (q : Progress) (runs : slice_get s.world.running i ≡ Some (Some r)) where
  abbrev new : World
  new = with_running s.world i (Some (with_progress r q))

  turned_right : (j : ℕ) (n : Option ℕ) (o : Option Running) → slice_get s.numbers j ≡ Some n → slice_get new.running j ≡ Some o → IsRight (on_world s new) j n o
  turned_right j n o e f =
      elim (get_cases s.world.running i j (Some (with_progress r q)) o (slice_get_within s.world.running i (Some r) runs) f) [
        | inl a ↦ subst (λ (o : Option Running). IsRight (on_world s new) j n o) (sym a.1) (here n (h.right j n (Some r) e (ap (slice_get s.world.running) a.0 ∙ runs)))
        | inr b ↦ there n o (h.right j n o e b.1)
      ]
    where
      here : (n : Option ℕ) → IsRight s j n (Some r) → IsRight (on_world s new) j n (Some (with_progress r q))
      here None x = x
      here (Some k) x = record { begun = x.begun; call = x.call; stripe = x.stripe; unanswered = x.unanswered }

      there : (n : Option ℕ) (o : Option Running) → IsRight s j n o → IsRight (on_world s new) j n o
      there None None x = x
      there None (Some p) x = x
      there (Some k) None x = x
      there (Some k) (Some p) x = record { begun = x.begun; call = x.call; stripe = x.stripe; unanswered = x.unanswered }

  turned_going : IsGoing (on_world s new)
  turned_going =
      record {
        replies = h.replies;
        numbers = h.numbers;
        running = length-set s.world.running i (Some (with_progress r q)) ∙ h.running;
        room = h.room;
        once = h.once;
        ahead = h.ahead;
        right = turned_right;
        refused = h.refused;
      }

pub going_stepped : (s : Stage) → IsGoing s → (i : ℕ) (w : World) → Steps s.world i w → IsGoing (on_world s w)
going_stepped s h i w nothing = h
going_stepped s h i w (goes r q e) = turned_going s h i r q e

pub stepped_opening : (w : World) (i : ℕ) (v : World) → Steps w i v → v.opening ≡ w.opening
stepped_opening w i v nothing = refl
stepped_opening w i v (goes r q e) = refl

pub stepped_others : (w : World) (i : ℕ) (v : World) → Steps w i v → (j : ℕ) → ¬ (j ≡ i) → turns_left v j ≡ turns_left w j
stepped_others w i v nothing j other = refl
stepped_others w i v (goes r q e) j other = ap turns_on (get_other w.running i j (Some (with_progress r q)) other)

-- ---- a finish

module _ (s : Stage) (h : IsGoing s) (i k : ℕ) (r : Running) (number : slice_get s.numbers i ≡ Some (Some k)) (runs : slice_get s.world.running i ≡ Some (Some r)) (reply : Reply) (after : Entry) (asked : Option LoadAnswer) where
  abbrev its_record : Record
  its_record = record_of_call r reply after asked

  abbrev pub ended : Stage
  ended = record { calls = s.calls; begun = s.begun; world = with_record s.world i its_record; numbers = slice_set s.numbers i None; replies = slice_set s.replies k (Some reply) }

  it : IsNumbered s i k r
  it = h.right i (Some k) (Some r) number runs

  same_number : {a b : ℕ} → Some (Some a) ≡ Some (Some b) → a ≡ b
  same_number e = cc e

  -- Another running call has another number.
  ended_numbered : (j m : ℕ) (p : Running) → ¬ (j ≡ i) → IsNumbered s j m p → IsNumbered ended j m p
  ended_numbered j m p other x =
      let apart : ¬ (m ≡ k) = λ q. away (call_same (sym x.call ∙ ap (slice_get s.calls) q ∙ it.call)) in
      record { begun = x.begun; call = x.call; stripe = x.stripe; unanswered = get_other s.replies k m (Some reply) apart ∙ x.unanswered }
    where
      call_same : Some p.call ≡ Some r.call → p.call ≡ r.call
      call_same e = cc e

      away : p.call ≡ r.call → ⊥
      away e = other (sym x.stripe ∙ ap (λ (c : Call). stripe_of (length s.world.opening) (key_of c)) e ∙ it.stripe)

  ended_right : (j : ℕ) (n : Option ℕ) (o : Option Running) → slice_get ended.numbers j ≡ Some n → slice_get ended.world.running j ≡ Some o → IsRight ended j n o
  ended_right j n o e f =
      elim (get_cases s.numbers i j None n (slice_get_within s.numbers i (Some k) number) e) [
        | inl a ↦ elim (get_cases s.world.running i j None o (slice_get_within s.world.running i (Some r) runs) f) [
          | inl b ↦ subst (λ (n : Option ℕ). IsRight ended j n o) (sym a.1) (subst (λ (o : Option Running). IsRight ended j None o) (sym b.1) tt)
          | inr b ↦ absurd (b.0 a.0)
        ]
        | inr a ↦ elim (get_cases s.world.running i j None o (slice_get_within s.world.running i (Some r) runs) f) [
          | inl b ↦ absurd (a.0 b.0)
          | inr b ↦ there n o (h.right j n o a.1 b.1) a.0
        ]
      ]
    where
      there : (n : Option ℕ) (o : Option Running) → IsRight s j n o → ¬ (j ≡ i) → IsRight ended j n o
      there None None x other = x
      there None (Some p) x other = x
      there (Some m) None x other = x
      there (Some m) (Some p) x other = ended_numbered j m p other x

  ended_refused : (m : ℕ) (call : Call) → m < s.begun → slice_get s.calls m ≡ Some call → slice_get ended.replies m ≡ Some None → RunsOrRefused ended m call
  ended_refused m call lt e none =
      elim (get_cases s.replies k m (Some reply) None (slice_get_within s.replies k None it.unanswered) none) [
        | inl a ↦ no_some a.1
        | inr a ↦ elim (h.refused m call lt e a.1) [
          | inl x ↦ inl (x.0, get_other s.numbers i x.0 None (λ q. a.0 (same_number (sym x.1 ∙ ap (slice_get s.numbers) q ∙ number))) ∙ x.1)
          | inr x ↦ inr x
        ]
      ]

  pub going_ended : IsGoing ended
  going_ended =
      record {
        replies = length-set s.replies k (Some reply) ∙ h.replies;
        numbers = length-set s.numbers i None ∙ h.numbers;
        running = length-set s.world.running i None ∙ h.running;
        room = h.room;
        once = answered_more s.calls s.replies s.world.finished k its_record it.call it.unanswered h.once;
        ahead = λ m le lt. let below = it.begun in get_other s.replies k m (Some reply) (λ q. absurd (omega (arith, q, le, below))) ∙ h.ahead m le lt;
        right = ended_right;
        refused = ended_refused;
      }

  pub ended_others : (j : ℕ) → ¬ (j ≡ i) → turns_left ended.world j ≡ turns_left s.world j
  ended_others j other = ap turns_on (get_other s.world.running i j None other)

  pub ended_idle : turns_left ended.world i ≡ 0
  ended_idle = ap turns_on (get_set s.world.running i None (slice_get_within s.world.running i (Some r) runs))

-- ---- a start

module _ (s : Stage) (h : IsGoing s) (call : Call) (next : slice_get s.calls s.begun ≡ Some call) (i : ℕ) (at : i ≡ stripe_in s.world call) (inside : i < length s.world.opening) (idle : turns_left s.world i ≡ 0) where
  pub idle_there : slice_get s.world.running (stripe_in s.world call) ≡ Some None
  idle_there = ap (slice_get s.world.running) (sym at) ∙ idle_running s h i inside idle

  waiting : slice_get s.replies s.begun ≡ Some None
  waiting = h.ahead s.begun (omega arith) (slice_get_within s.calls s.begun call next)

  -- The history of the next call's stripe is not full, since fewer calls are finished than there are.
  pub not_full : length (history_of s.world (stripe_in s.world call)) ≡ s.world.journal → ⊥
  not_full e =
      let few = few_filtered (is_on (length s.world.opening) (stripe_in s.world call)) s.world.finished in
      let made = length_permutation (answered s.calls s.replies) (calls_in s.world.finished) h.once in
      let are : length (calls_in s.world.finished) ≡ length s.world.finished = length-map s.world.finished (λ (r : Record). (r.call, r.reply)) in
      let fewer = fewer_answered s.calls s.replies s.begun waiting in
      absurd (omega (arith, few, made, are, fewer, h.replies, h.room, e))

  -- The call is refused.

  abbrev pub passed : Stage
  passed = record { calls = s.calls; begun = s.begun + 1; world = s.world; numbers = s.numbers; replies = s.replies }

  later : (k : ℕ) → k < s.begun + 1 → ¬ (k ≡ s.begun) → k < s.begun
  later k lt n = omega (arith, lt, n)

  earlier_numbered : (j m : ℕ) (p : Running) → IsNumbered s j m p → IsNumbered passed j m p
  earlier_numbered j m p x = let lt = x.begun in record { begun = omega (arith, lt); call = x.call; stripe = x.stripe; unanswered = x.unanswered }

  this_call : {a b : Call} → Some a ≡ Some b → a ≡ b
  this_call e = cc e

  pub going_passed : may_make s.world.loads call ≡ true → IsGoing passed
  going_passed may =
      record {
        replies = h.replies;
        numbers = h.numbers;
        running = h.running;
        room = h.room;
        once = h.once;
        ahead = λ k le lt. h.ahead k (omega (arith, le)) lt;
        right = λ j n o e f. there j n o (h.right j n o e f);
        refused = λ k c lt e none. by k c lt e none (k == s.begun) refl;
      }
    where
      there : (j : ℕ) (n : Option ℕ) (o : Option Running) → IsRight s j n o → IsRight passed j n o
      there j None None x = x
      there j None (Some p) x = x
      there j (Some m) None x = x
      there j (Some m) (Some p) x = earlier_numbered j m p x

      by : (k : ℕ) (c : Call) → k < s.begun + 1 → slice_get s.calls k ≡ Some c → slice_get s.replies k ≡ Some None → (b : Bool) → (k == s.begun) ≡ b → RunsOrRefused passed k c
      by k c lt e none true t = inr (subst (λ (x : Call). may_make s.world.loads x ≡ true) (this_call (sym next ∙ ap (slice_get s.calls) (sym (eqb-true k s.begun t)) ∙ e)) may)
      by k c lt e none false t = h.refused k c (later k lt (λ q. true≢false (sym (eq-eqb k s.begun q) ∙ t))) e none

  -- The call runs.

  module _ (q : Progress) where
    abbrev runner : Running
    runner = running_call 0 (starts_of s.world 0) call q

    abbrev pub started : Stage
    started = record { calls = s.calls; begun = s.begun + 1; world = with_running s.world (stripe_in s.world call) (Some runner); numbers = slice_set s.numbers i (Some s.begun); replies = s.replies }

    room_running : stripe_in s.world call < length s.world.running
    room_running = omega (arith, inside, at, h.running)

    room_numbers : i < length s.numbers
    room_numbers = omega (arith, inside, h.numbers)

    started_right : (j : ℕ) (n : Option ℕ) (o : Option Running) → slice_get started.numbers j ≡ Some n → slice_get started.world.running j ≡ Some o → IsRight started j n o
    started_right j n o e f =
        elim (get_cases s.numbers i j (Some s.begun) n room_numbers e) [
          | inl a ↦ elim (get_cases s.world.running (stripe_in s.world call) j (Some runner) o room_running f) [
            | inl b ↦ subst (λ (n : Option ℕ). IsRight started j n o) (sym a.1) (subst (λ (o : Option Running). IsRight started j (Some s.begun) o) (sym b.1)
                (record { begun = omega arith; call = next; stripe = sym b.0; unanswered = waiting }))
            | inr b ↦ absurd (b.0 (a.0 ∙ at))
          ]
          | inr a ↦ elim (get_cases s.world.running (stripe_in s.world call) j (Some runner) o room_running f) [
            | inl b ↦ absurd (a.0 (b.0 ∙ sym at))
            | inr b ↦ there n o (h.right j n o a.1 b.1)
          ]
        ]
      where
        there : (n : Option ℕ) (o : Option Running) → IsRight s j n o → IsRight started j n o
        there None None x = x
        there None (Some p) x = x
        there (Some m) None x = x
        there (Some m) (Some p) x = let lt = x.begun in record { begun = omega (arith, lt); call = x.call; stripe = x.stripe; unanswered = x.unanswered }

    started_refused : (k : ℕ) (c : Call) → k < s.begun + 1 → slice_get s.calls k ≡ Some c → slice_get s.replies k ≡ Some None → RunsOrRefused started k c
    started_refused k c lt e none = by (k == s.begun) refl
      where
        no_number_yet : slice_get s.numbers i ≡ Some None
        no_number_yet = idle_number s h i inside idle

        none_some : {a : ℕ} → Some None ≡ Some (Some a) → ⊥
        none_some x = absurd (cc)

        by : (b : Bool) → (k == s.begun) ≡ b → RunsOrRefused started k c
        by true t = inl (i, subst (λ m. slice_get started.numbers i ≡ Some (Some m)) (sym (eqb-true k s.begun t)) (get_set s.numbers i (Some s.begun) room_numbers))
        by false t = elim (h.refused k c (later k lt (λ q. true≢false (sym (eq-eqb k s.begun q) ∙ t))) e none) [
          | inl x ↦ inl (x.0, get_other s.numbers i x.0 (Some s.begun) (λ q. none_some (sym no_number_yet ∙ ap (slice_get s.numbers) (sym q) ∙ x.1)) ∙ x.1)
          | inr x ↦ inr x
        ]

    pub going_started : IsGoing started
    going_started =
        record {
          replies = h.replies;
          numbers = length-set s.numbers i (Some s.begun) ∙ h.numbers;
          running = length-set s.world.running (stripe_in s.world call) (Some runner) ∙ h.running;
          room = h.room;
          once = h.once;
          ahead = λ k le lt. h.ahead k (omega (arith, le)) lt;
          right = started_right;
          refused = started_refused;
        }

-- ---- the end

-- At the end no call runs.
pub none_runs : (s : Stage) → IsGoing s → AreIdleBefore (length s.world.opening) s → (i : ℕ) (r : Running) → ¬ (slice_get s.world.running i ≡ Some (Some r))
none_runs s h idle i r e =
    let inside = slice_get_within s.world.running i (Some r) e in
    let none : turns_left s.world i ≡ 0 = idle i (omega (arith, inside, h.running)) in
    let more = some_turns r.progress in
    let is : turns_left s.world i ≡ turns_on (Some (Some r)) = ap turns_on e in
    absurd (omega (arith, none, is, more))

-- If all calls have begun and none runs, `AreRefused` holds: each call without a reply may create an entry.
pub all_refused : (s : Stage) → IsGoing s → AreIdleBefore (length s.world.opening) s → s.begun ≡ length s.calls → AreRefused s.world.loads s.calls s.replies
all_refused s h idle all k call e none =
    let inside = slice_get_within s.calls k call e in
    elim (h.refused k call (omega (arith, inside, all)) e none) [
      | inl x ↦ absurd (still x.0 x.1)
      | inr x ↦ x
    ]
  where
    still : (i : ℕ) → slice_get s.numbers i ≡ Some (Some k) → ⊥
    still i x =
        let within = slice_get_within s.numbers i (Some k) x in
        let more = numbered_turns s h i k x in
        let none : turns_left s.world i ≡ 0 = idle i (omega (arith, within, h.numbers)) in
        absurd (omega (arith, more, none))

pub as_before : (s : Stage) → IsAsBefore s s
as_before s = record { calls = refl; begun = refl; opening = refl }

pub as_before_trans : (a b c : Stage) → IsAsBefore a b → IsAsBefore b c → IsAsBefore a c
as_before_trans a b c x y = record { calls = y.calls ∙ x.calls; begun = y.begun ∙ x.begun; opening = y.opening ∙ x.opening }
