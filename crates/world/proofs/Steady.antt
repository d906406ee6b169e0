-- Events preserve the invariant of a world.
use Rattle.std.proofs.Common.{arith, ◌≡◌, ℕ, ◌+◌, ◌-◌, ◌*◌, ◌<◌, ◌≤◌, Bool, true, false, ◌==◌, inl, inr, List, length, map, Option, Some, None, IsSome, slice_get, slice_set, slice_index, sum_by, count_by, refl, sym, ap, subst, ◌∙◌, true≢false}
use Rattle.std.proofs.Math.Nat.{mul-le-mul}
use Rattle.std.proofs.lemmas.Bool.{eq-eqb, eqb-true}
use Rattle.std.proofs.lemmas.List.Sums.{count_by-le-length}
use Rattle.std.proofs.lemmas.List.{length-set, length-map, map-set, get_or-set_same, get_or-set_other}
use Rattle.jtypes.specs.declared.loader.LoadAnswer.{LoadAnswer}
use Rattle.stripe.specs.History.{Call, Begun, Record, key_of}
use Rattle.stripe.specs.Kept.{Kept, IsOf, entry_of}
use Rattle.world.specs.World.{World, Running, with_progress, is_by, starts_of, running_call, with_running}
use Rattle.world.specs.Forward.{turns_on, turns_left}
use Rattle.world.specs.Seated.{Seated, HasLoader, IsBegun, further, turned}
use Rattle.world.specs.Inside.{Parts, running_on, world_of, IsAt, AreSeats, room_of, IsSteady}
use Rattle.std.proofs.lemmas.Option.{slice_get_within}
use Rattle.world.proofs.Places.{one_if, get_set, get_set_cases, set_same, map_get, sum_set}

-- The parts with another seat at index `i`, and other start counts.
abbrev pub with_seat : Parts → ℕ → Seated → List ℕ → Parts
with_seat p i y starts =
    record { loads = p.loads; opening = p.opening; journal = p.journal; seats = slice_set p.seats i y; finished = p.finished; reserved = p.reserved; starts = starts; rest = p.rest }

-- `IsAt` does not depend on the running calls of the world.
at_running : (w : World) (rs : List (Option Running)) (i : ℕ) (x : Seated) → IsAt w i x → IsAt (record { loads = w.loads; opening = w.opening; journal = w.journal; running = rs; finished = w.finished }) i x
at_running w rs i x h =
    record { stripes = h.stripes; place = h.place; journal = h.journal; records = h.records; few = h.few; left = h.left; room = h.room; of = h.of; loads = h.loads }

pub running_set : (p : Parts) (i : ℕ) (y : Seated) (starts : List ℕ) → world_of (with_seat p i y starts) ≡ with_running (world_of p) i y.running
running_set p i y starts = ap (λ rs. record { loads = p.loads; opening = p.opening; journal = p.journal; running = rs; finished = p.finished }) (map-set running_on p.seats i y)

-- The bound on the events of the call on stripe `i` decreases.
pub turned_nearer : (p : Parts) (i : ℕ) (x y : Seated) (starts : List ℕ) → slice_get p.seats i ≡ Some x → turns_on (Some y.running) < turns_on (Some x.running)
    → turns_left (world_of (with_seat p i y starts)) i < turns_left (world_of p) i
turned_nearer p i x y starts there less =
    let was : slice_get (map running_on p.seats) i ≡ Some x.running = map_get running_on p.seats i x there in
    let is : slice_get (map running_on (slice_set p.seats i y)) i ≡ Some y.running = map_get running_on (slice_set p.seats i y) i y (get_set p.seats i y (slice_get_within p.seats i x there)) in
    subst (λ o. turns_on o < turns_on (slice_get (map running_on p.seats) i)) (sym is) (subst (λ o. turns_on (Some y.running) < turns_on o) (sym was) less)

-- A call starts or takes a step; no call finishes.
module _ (p : Parts) (h : IsSteady p) (i : ℕ) (x y : Seated) (there : slice_get p.seats i ≡ Some x) where
  pub inside : i < length p.seats
  inside = slice_get_within p.seats i x there

  seat_at : (y_at : IsAt (world_of p) i y) (starts : List ℕ) → AreSeats (world_of (with_seat p i y starts)) (slice_set p.seats i y)
  seat_at y_at starts j z e =
      at_running (world_of p) (map running_on (slice_set p.seats i y)) j z
      (elim (get_set_cases p.seats i j y z inside e) [
        | inl a ↦ subst (λ q. IsAt (world_of p) q z) (sym a.0) (subst (λ q. IsAt (world_of p) i q) (sym a.1) y_at)
        | inr b ↦ h.seats j z b.1
      ])

  pub steady_seat : (starts : List ℕ) → IsAt (world_of p) i y → room_of y ≡ room_of x → length starts ≡ 256
      → ((caller : ℕ) → caller < 256 → slice_index starts caller ≡ starts_of (world_of (with_seat p i y starts)) caller)
      → IsSteady (with_seat p i y starts)
  steady_seat starts y_at room callers numbers =
      let many : length (slice_set p.seats i y) ≡ length p.seats = length-set p.seats i y in
      record {
        count = h.count;
        journal = h.journal;
        same = many ∙ h.same;
        seats = seat_at y_at starts;
        legal = h.legal;
        room = ap (λ n. length p.finished + n) (same_sum (sum_set room_of p.seats i x y there)) ∙ h.room ∙ ap (λ n. n * p.journal) (sym many);
        reserved = subst (λ n. n * p.journal ≤ p.reserved) (sym many) h.reserved;
        numbers = numbers;
        callers = callers;
        rest = h.rest;
      }
    where
      same_sum : sum_by room_of (slice_set p.seats i y) + room_of x ≡ sum_by room_of p.seats + room_of y → sum_by room_of (slice_set p.seats i y) ≡ sum_by room_of p.seats
      same_sum e = omega (arith, e, room)

  -- The number of running calls of a caller.
  pub running_count : (caller : ℕ) → count_by (is_by caller) (map running_on (slice_set p.seats i y)) + one_if (is_by caller x.running) ≡ count_by (is_by caller) (map running_on p.seats) + one_if (is_by caller y.running)
  running_count caller =
      ap (λ rs. count_by (is_by caller) rs + one_if (is_by caller x.running)) (map-set running_on p.seats i y)
      ∙ sum_set (λ r. one_if (is_by caller r)) (map running_on p.seats) i x.running y.running (map_get running_on p.seats i x there)

-- ---- a call starts

module _ (p : Parts) (h : IsSteady p) (i : ℕ) (x y : Seated) (there : slice_get p.seats i ≡ Some x) (a : LoadAnswer) (b : Begun) (is : IsBegun a x b y) (none : x.running ≡ None) (few : ¬ (length x.stripe.records ≡ x.stripe.journal))
    (starts : List ℕ) (number : b.number ≡ slice_index p.starts b.caller) (below : b.caller < 256) (more : starts ≡ slice_set p.starts b.caller (b.number + 1)) where
  old_at : IsAt (world_of p) i x
  old_at = h.seats i x there

  started_at : IsOf x.stripe (key_of b.call) → b.loads ≡ p.loads → IsAt (world_of p) i y
  started_at of with_loader =
      record {
        stripes = ap (λ (s : Kept). s.stripes) is.stripe ∙ old_at.stripes;
        place = ap (λ (s : Kept). s.place) is.stripe ∙ old_at.place;
        journal = ap (λ (s : Kept). s.journal) is.stripe ∙ old_at.journal;
        records = ap (λ (s : Kept). s.records) is.stripe ∙ old_at.records;
        few = omega (arith, ap (λ (s : Kept). length s.records) is.stripe, old_at.few);
        left = λ k of_k. is.entries k ∙ old_at.left k (subst (λ (s : Kept). IsOf s k) is.stripe of_k);
        room = λ _. omega (arith, ap (λ (s : Kept). length s.records) is.stripe, old_at.few, few, old_at.journal);
        of = λ r e. subst (λ (s : Kept). IsOf s (key_of r.call)) (sym is.stripe) (subst (λ (c : Call). IsOf x.stripe (key_of c)) (same r (sym is.running ∙ e)) of);
        loads = λ x e. subst (λ (y : Begun). y.loads ≡ p.loads) (this x (sym (ap (λ (s : Kept). s.running) is.stripe) ∙ e)) with_loader;
      }
    where
      this : (x : Begun) → Some b ≡ Some x → b ≡ x
      this x e = cc e

      same : (r : Running) → Some (running_call b.caller b.number b.call is.progress) ≡ Some r → b.call ≡ r.call
      same r e = let q : running_call b.caller b.number b.call is.progress ≡ r = cc e in ap (λ (r : Running). r.call) q

  started_room : room_of y ≡ room_of x
  started_room = ap (λ (s : Kept). s.journal - length s.records) is.stripe

  started_numbers : (caller : ℕ) → caller < 256 → slice_index starts caller ≡ starts_of (world_of (with_seat p i y starts)) caller
  started_numbers caller lt =
      subst (λ ss. slice_index ss caller ≡ starts_of (world_of (with_seat p i y starts)) caller) (sym more) (by (b.caller == caller) refl)
    where
      run : count_by (is_by caller) (map running_on (slice_set p.seats i y)) ≡ count_by (is_by caller) (map running_on p.seats) + one_if (b.caller == caller)
      run =
          let e = running_count p h i x y there caller in
          let was : one_if (is_by caller x.running) ≡ 0 = ap (λ r. one_if (is_by caller r)) none in
          let now : one_if (is_by caller y.running) ≡ one_if (b.caller == caller) = ap (λ r. one_if (is_by caller r)) is.running in
          omega (arith, e, was, now)

      by : (t : Bool) → (b.caller == caller) ≡ t → slice_index (slice_set p.starts b.caller (b.number + 1)) caller ≡ starts_of (world_of (with_seat p i y starts)) caller
      by true e =
          let same : b.caller ≡ caller = eqb-true b.caller caller e in
          let one : one_if (b.caller == caller) ≡ 1 = ap (λ t. one_if t) e in
          let at : slice_index (slice_set p.starts b.caller (b.number + 1)) b.caller ≡ b.number + 1 = get_or-set_same p.starts b.caller (b.number + 1) 0 (omega (arith, h.callers, below)) in
          let is_at : slice_index (slice_set p.starts b.caller (b.number + 1)) caller ≡ b.number + 1 = subst (λ c. slice_index (slice_set p.starts b.caller (b.number + 1)) c ≡ b.number + 1) same at in
          let n : slice_index p.starts caller ≡ b.number = ap (λ c. slice_index p.starts c) (sym same) ∙ sym number in
          omega (arith, is_at, n, h.numbers caller lt, run, one)
      by false e =
          let other : ¬ (caller ≡ b.caller) = λ q. true≢false (sym (eq-eqb b.caller caller (sym q)) ∙ e) in
          let none : one_if (b.caller == caller) ≡ 0 = ap (λ t. one_if t) e in
          let at : slice_index (slice_set p.starts b.caller (b.number + 1)) caller ≡ slice_index p.starts caller = get_or-set_other p.starts b.caller caller (b.number + 1) 0 other in
          omega (arith, at, h.numbers caller lt, run, none)

  pub steady_started : IsOf x.stripe (key_of b.call) → b.loads ≡ p.loads → IsSteady (with_seat p i y starts)
  steady_started of with_loader =
      steady_seat p h i x y there starts (started_at of with_loader) started_room (ap length more ∙ length-set p.starts b.caller (b.number + 1) ∙ h.callers) started_numbers

-- ---- a call takes a step

turned_room : (a : LoadAnswer) (o : Option Running) → IsSome (turned a o) → IsSome o
turned_room a None e = e
turned_room a (Some r) e = refl

turned_caller : (a : LoadAnswer) (caller : ℕ) (o : Option Running) → one_if (is_by caller (turned a o)) ≡ one_if (is_by caller o)
turned_caller a caller None = refl
turned_caller a caller (Some r) = refl

module _ (p : Parts) (h : IsSteady p) (i : ℕ) (x y : Seated) (there : slice_get p.seats i ≡ Some x) (stripe : y.stripe ≡ x.stripe) (a : LoadAnswer) (running : y.running ≡ turned a x.running) where
  x_at : IsAt (world_of p) i x
  x_at = h.seats i x there

  turned_of : (r : Running) → y.running ≡ Some r → IsOf y.stripe (key_of r.call)
  turned_of r e = subst (λ (s : Kept). IsOf s (key_of r.call)) (sym stripe) (by x.running refl (sym running ∙ e))
    where
      by : (o : Option Running) → x.running ≡ o → turned a o ≡ Some r → IsOf x.stripe (key_of r.call)
      by None q e = absurd (cc)
      by (Some q) is e =
          let same : with_progress q (further a q.progress) ≡ r = cc e in
          subst (λ (c : Call). IsOf x.stripe (key_of c)) (ap (λ (r : Running). r.call) same) (x_at.of q is)

  turned_at : IsAt (world_of p) i y
  turned_at =
      record {
        stripes = ap (λ (s : Kept). s.stripes) stripe ∙ x_at.stripes;
        place = ap (λ (s : Kept). s.place) stripe ∙ x_at.place;
        journal = ap (λ (s : Kept). s.journal) stripe ∙ x_at.journal;
        records = ap (λ (s : Kept). s.records) stripe ∙ x_at.records;
        few = subst (λ (s : Kept). length s.records ≤ p.journal) (sym stripe) x_at.few;
        left = λ k of. ap (λ (s : Kept). entry_of s k) stripe ∙ x_at.left k (subst (λ (s : Kept). IsOf s k) stripe of);
        room = λ e. subst (λ (s : Kept). length s.records < p.journal) (sym stripe) (x_at.room (turned_room a x.running (subst (λ o. IsSome o) running e)));
        of = turned_of;
        loads = subst (HasLoader p.loads) (sym stripe) x_at.loads;
      }

  turned_numbers : (caller : ℕ) → caller < 256 → slice_index p.starts caller ≡ starts_of (world_of (with_seat p i y p.starts)) caller
  turned_numbers caller lt =
      let same : one_if (is_by caller y.running) ≡ one_if (is_by caller x.running) = ap (λ o. one_if (is_by caller o)) running ∙ turned_caller a caller x.running in
      omega (arith, running_count p h i x y there caller, same, h.numbers caller lt)

  pub steady_turned : IsSteady (with_seat p i y p.starts)
  steady_turned = steady_seat p h i x y there p.starts turned_at (ap (λ (s : Kept). s.journal - length s.records) stripe) h.callers turned_numbers

-- ---- nothing changes

module _ (p : Parts) (h : IsSteady p) (i : ℕ) (x y : Seated) (there : slice_get p.seats i ≡ Some x) (same : y ≡ x) where
  as_it_was : slice_set p.seats i y ≡ p.seats
  as_it_was = ap (slice_set p.seats i) same ∙ set_same p.seats i x there

  with_same : with_seat p i y p.starts ≡ p
  with_same = λ k. record { loads = p.loads; opening = p.opening; journal = p.journal; seats = as_it_was k; finished = p.finished; reserved = p.reserved; starts = p.starts; rest = p.rest }

  pub steady_same : IsSteady (with_seat p i y p.starts)
  steady_same = subst IsSteady (sym with_same) h

  pub world_same : world_of (with_seat p i y p.starts) ≡ world_of p
  world_same = ap world_of with_same

-- The number of starts of a caller is bounded.
pub few_starts : (p : Parts) → IsSteady p → (caller : ℕ) → caller < 256 → slice_index p.starts caller ≤ 64 * 4096 + 64
few_starts p h caller lt =
    let a = count_by-le-length (λ (r : Record). r.caller == caller) p.finished in
    let b = count_by-le-length (is_by caller) (map running_on p.seats) in
    let few : length p.seats ≤ 64 = omega (arith, h.same, h.count.1) in
    let most : length p.seats * p.journal ≤ 64 * 4096 = mul-le-mul few h.journal.1 in
    omega (arith, h.numbers caller lt, a, b, length-map p.seats running_on, h.room, most, few)
