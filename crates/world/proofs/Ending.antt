-- The finish of a call.
use Rattle.std.proofs.Common.{arith, ◌≡◌, ℕ, ◌+◌, ◌*◌, ◌<◌, ◌≤◌, ℤ, Bool, true, false, ◌==◌, inl, inr, [], ◌∷◌, ◌++◌, length, map, Some, None, is_some, slice_get, slice_set, slice_index, sum_by, refl, sym, ap, subst, ◌∙◌, length-append, true≢false}
use Rattle.std.proofs.lemmas.Bool.Decides.{Decides-int_eq}
use Rattle.std.proofs.lemmas.List.{length-set, length-map, map-set}
use Rattle.std.specs.Ordering.{int_eq}
use Rattle.stripe.specs.History.{Begun, Record, Answers, key_of, stripe_of}
use Rattle.stripe.specs.Kept.{Kept, IsOf, entry_of}
use Rattle.world.specs.World.{Running, is_by, opening_entries, entries_now, starts_of, with_record}
use Rattle.world.specs.Seated.{Seated, IsEnded}
use Rattle.world.specs.Refused.{KeepsEntries}
use Rattle.world.specs.Inside.{Parts, running_on, world_of, IsAt, AreSeats, room_of, IsSteady}
use Rattle.world.proofs.Places.{one_if, get_set_cases, get_map, sum_set, sum_at, sum_more}
use Rattle.world.proofs.Histories.{entry_there, entry_elsewhere, legal_more, part_there, part_elsewhere}
use Rattle.world.proofs.Steady.{inside, running_count}

-- The parts with another seat at index `i`, and one more record.
abbrev pub with_end : Parts → ℕ → Seated → Record → ℕ → Parts
with_end p i y r reserved =
    record { loads = p.loads; opening = p.opening; journal = p.journal; seats = slice_set p.seats i y; finished = p.finished ++ r ∷ []; reserved = reserved; starts = p.starts; rest = p.rest }

pub record_set : (p : Parts) (i : ℕ) (x y : Seated) (r : Record) (reserved : ℕ) → IsEnded x r y → world_of (with_end p i y r reserved) ≡ with_record (world_of p) i r
record_set p i x y r reserved is =
    ap (λ rs. record { loads = p.loads; opening = p.opening; journal = p.journal; running = rs; finished = p.finished ++ r ∷ [] }) (map-set running_on p.seats i y ∙ ap (slice_set (map running_on p.seats) i) is.idle)

module _ (p : Parts) (h : IsSteady p) (i : ℕ) (x y : Seated) (there : slice_get p.seats i ≡ Some x) (r : Record) (is : IsEnded x r y) (reserved : ℕ) where
  old_at : IsAt (world_of p) i x
  old_at = h.seats i x there

  its_answers : Answers p.loads (entry_of x.stripe (key_of r.call)) r.call r.reply r.after r.asked
  its_answers = subst (λ l. Answers l (entry_of x.stripe (key_of r.call)) r.call r.reply r.after r.asked) (old_at.loads is.begun is.opened) is.answers

  key_at : stripe_of (length p.opening) (key_of r.call) ≡ i
  key_at = ap (λ n. stripe_of n (key_of r.call)) (sym old_at.stripes) ∙ is.of ∙ old_at.place

  -- The history has a free record for the call that ran.
  has_room : length x.stripe.records < p.journal
  has_room = old_at.room (ap is_some is.runs)

  longer : length y.stripe.records ≡ length x.stripe.records + 1
  longer = ap (λ (s : Kept). length s.records) is.stripe ∙ length-append x.stripe.records (r ∷ [])

  ended_left : (k : ℤ) → IsOf y.stripe k → entry_of y.stripe k ≡ entries_now (world_of (with_end p i y r reserved)) k
  ended_left k of = by (int_eq (key_of r.call) k) refl
    where
      by : (b : Bool) → int_eq (key_of r.call) k ≡ b → entry_of y.stripe k ≡ entries_now (world_of (with_end p i y r reserved)) k
      by true e =
          let same : key_of r.call ≡ k = (Decides-int_eq (key_of r.call) k).0 e in
          subst (λ q. entry_of y.stripe q ≡ r.after) same is.entry ∙ sym (entry_there (opening_entries (world_of p) k) p.finished r k same)
      by false e =
          let other : ¬ (key_of r.call ≡ k) = λ q. true≢false (sym ((Decides-int_eq (key_of r.call) k).1 q) ∙ e) in
          is.others k (λ q. other (sym q)) ∙ old_at.left k (subst (λ (s : Kept). IsOf s k) is.stripe of) ∙ sym (entry_elsewhere (opening_entries (world_of p) k) p.finished r k other)

  ended_at : IsAt (world_of (with_end p i y r reserved)) i y
  ended_at =
      record {
        stripes = ap (λ (s : Kept). s.stripes) is.stripe ∙ old_at.stripes;
        place = ap (λ (s : Kept). s.place) is.stripe ∙ old_at.place;
        journal = ap (λ (s : Kept). s.journal) is.stripe ∙ old_at.journal;
        records = ap (λ (s : Kept). s.records) is.stripe ∙ ap (λ rs. rs ++ r ∷ []) old_at.records ∙ sym (part_there (length p.opening) i p.finished r key_at);
        few = omega (arith, longer, has_room);
        left = ended_left;
        room = λ s. absurd (true≢false (sym s ∙ ap is_some is.idle));
        of = λ q e. no_one (sym is.idle ∙ e);
        loads = λ b e. no_call (sym (ap (λ (s : Kept). s.running) is.stripe) ∙ e);
      }
    where
      no_one : {X : Type 0} {q : Running} → None ≡ Some q → X
      no_one e = absurd (cc)

      no_call : {X : Type 0} {b : Begun} → None ≡ Some b → X
      no_call e = absurd (cc)

  other_at : (j : ℕ) (z : Seated) → ¬ (j ≡ i) → IsAt (world_of p) j z → IsAt (world_of (with_end p i y r reserved)) j z
  other_at j z other k =
      record {
        stripes = k.stripes;
        place = k.place;
        journal = k.journal;
        records = k.records ∙ sym (part_elsewhere (length p.opening) j p.finished r (λ q. other (sym q ∙ key_at)));
        few = k.few;
        left = λ q of. k.left q of ∙ sym (entry_elsewhere (opening_entries (world_of p) q) p.finished r q (λ same. other (at q of ∙ ap (stripe_of (length p.opening)) (sym same) ∙ key_at)));
        room = k.room;
        of = k.of;
        loads = k.loads;
      }
    where
      at : (q : ℤ) → IsOf z.stripe q → j ≡ stripe_of (length p.opening) q
      at q of = sym (ap (λ n. stripe_of n q) (sym k.stripes) ∙ of ∙ k.place)

  ended_seats : AreSeats (world_of (with_end p i y r reserved)) (slice_set p.seats i y)
  ended_seats j z e =
      elim (get_set_cases p.seats i j y z (inside p h i x y there) e) [
        | inl a ↦ subst (λ q. IsAt (world_of (with_end p i y r reserved)) q z) (sym a.0) (subst (λ q. IsAt (world_of (with_end p i y r reserved)) i q) (sym a.1) ended_at)
        | inr b ↦ other_at j z b.0 (h.seats j z b.1)
      ]

  ended_room : length (p.finished ++ r ∷ []) + sum_by room_of (slice_set p.seats i y) ≡ length (slice_set p.seats i y) * p.journal
  ended_room =
      let many : length (slice_set p.seats i y) * p.journal ≡ length p.seats * p.journal = ap (λ n. n * p.journal) (length-set p.seats i y) in
      let now : y.stripe.journal ≡ x.stripe.journal = ap (λ (s : Kept). s.journal) is.stripe in
      omega (arith, length-append p.finished (r ∷ []), sum_set room_of p.seats i x y there, h.room, many, longer, has_room, old_at.journal, now)

  ended_numbers : (caller : ℕ) → caller < 256 → slice_index p.starts caller ≡ starts_of (world_of (with_end p i y r reserved)) caller
  ended_numbers caller lt =
      let was : one_if (is_by caller x.running) ≡ one_if (r.caller == caller) = ap (λ o. one_if (is_by caller o)) is.runs ∙ ap (λ n. one_if (n == caller)) (sym (ap (λ (r : Record). r.caller) is.told)) in
      let now : one_if (is_by caller y.running) ≡ 0 = ap (λ o. one_if (is_by caller o)) is.idle in
      omega (arith, running_count p h i x y there caller, sum_more (λ (q : Record). one_if (q.caller == caller)) p.finished r, was, now, h.numbers caller lt)

  pub steady_ended : p.reserved ≤ reserved → IsSteady (with_end p i y r reserved)
  steady_ended room =
      let many : length (slice_set p.seats i y) ≡ length p.seats = length-set p.seats i y in
      record {
        count = h.count;
        journal = h.journal;
        same = many ∙ h.same;
        seats = ended_seats;
        legal = legal_more p.loads (opening_entries (world_of p)) r p.finished h.legal (subst (λ e. Answers p.loads e r.call r.reply r.after r.asked) (old_at.left (key_of r.call) is.of) its_answers);
        room = ended_room;
        reserved = subst (λ n. n * p.journal ≤ reserved) (sym many) (omega (arith, h.reserved, room));
        numbers = ended_numbers;
        callers = h.callers;
        rest = h.rest;
      }

  -- The other running calls are on other keys.
  pub keeps_ended : KeepsEntries (world_of p) (with_record (world_of p) i r)
  keeps_ended k before runs =
      elim (get_set_cases (map running_on p.seats) i runs.stripe None (Some runs.running) within runs.there) [
        | inl a ↦ no_one a.1
        | inr b ↦ away b.0 (get_map running_on p.seats runs.stripe (Some runs.running) b.1)
      ]
    where
      no_one : {X : Type 0} {q : Running} → Some q ≡ None → X
      no_one e = absurd (cc)

      within : i < length (map running_on p.seats)
      within = omega (arith, length-map p.seats running_on, inside p h i x y there)

      away : ¬ (runs.stripe ≡ i) → (z : Seated) × (slice_get p.seats runs.stripe ≡ Some z) × (z.running ≡ Some runs.running) → entries_now (with_record (world_of p) i r) k ≡ entries_now (world_of p) k
      away other found =
          let at : IsAt (world_of p) runs.stripe found.0 = h.seats runs.stripe found.0 found.1 in
          let on : stripe_of (length p.opening) k ≡ runs.stripe = ap (λ q. stripe_of (length p.opening) q) (sym runs.key) ∙ ap (λ n. stripe_of n (key_of runs.running.call)) (sym at.stripes) ∙ at.of runs.running found.2 ∙ at.place in
          entry_elsewhere (opening_entries (world_of p) k) p.finished r k (λ same. other (sym on ∙ ap (stripe_of (length p.opening)) (sym same) ∙ key_at))

  -- The list of finished calls has capacity for the record.
  pub finish_room : length p.finished < p.reserved
  finish_room =
      let at = sum_at room_of p.seats i x there in
      omega (arith, at, has_room, old_at.journal, h.room, h.reserved)
