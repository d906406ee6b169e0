-- Opening and closing a world.
use Rattle.std.proofs.Common.{Bool, arith, ◌≡◌, ℕ, zero, suc, ◌+◌, ◌-◌, ◌*◌, ◌≤◌, ℤ, List, [], ◌∷◌, ◌++◌, length, map, All, Option, Some, None, option_and_then, slice_get, slice_index, sum_by, count_by, refl, sym, ap, subst, ◌∙◌, true≢false, zero-add}
use Rattle.std.proofs.lemmas.List.{length-map}
use Rattle.std.specs.Prelude.{replicate}
use Rattle.jtypes.specs.declared.loader.LoadAnswer.{LoadAnswer}
use Rattle.stripe.specs.History.{stripe_of}
use Rattle.stripe.specs.Stored.{Stored, entry_in, entry_among}
use Rattle.stripe.specs.Kept.{Kept, fresh}
use Rattle.stripe.specs.Tables.{IsCount, IsJournal, fresh_from, fresh_stripes, none_back}
use Rattle.world.specs.World.{AnswersAreGiven, Running, is_by, entries_now}
use Rattle.world.specs.Seated.{Seated, idle_seat, AreIdle}
use Rattle.world.specs.Refused.{NoneRuns}
use Rattle.world.specs.Room.{stored_on}
use Rattle.world.specs.Inside.{Parts, running_on, world_of, IsAt, AreSeats, room_of, IsSteady}
use Rattle.world.proofs.Places.{one_if, sum_cons, map_get, get_map, has_element}
use Rattle.world.proofs.Histories.{stripe_below}

-- ---- stripes without a history

pub fresh_length : (n j q : ℕ) (ms : List Stored) → length (fresh_from n j q ms) ≡ length ms
fresh_length n j q [] = refl
fresh_length n j q (m ∷ ms) = ap suc (fresh_length n j (suc q) ms)

pub fresh_idle : (n j q : ℕ) (ms : List Stored) → All (λ (s : Kept). s.running ≡ None) (fresh_from n j q ms)
fresh_idle n j q [] k d h = absurd (omega (arith, h))
fresh_idle n j q (m ∷ ms) zero d h = refl
fresh_idle n j q (m ∷ ms) (suc k) d h = fresh_idle n j (suc q) ms k d (omega (arith, h))

fresh_at : (n j q : ℕ) (ms : List Stored) (i : ℕ) (x : Seated) → slice_get (map idle_seat (fresh_from n j q ms)) i ≡ Some x → (m : Stored) × (slice_get ms i ≡ Some m) × (idle_seat (fresh n j (q + i) m) ≡ x)
fresh_at n j q [] i x e = absurd (cc)
fresh_at n j q (m ∷ ms) zero x e =
    let same : idle_seat (fresh n j q m) ≡ x = cc e in
    let zero : q + 0 ≡ q = omega arith in
    (m, refl, ap (λ k. idle_seat (fresh n j k m)) zero ∙ same)
fresh_at n j q (m ∷ ms) (suc i) x e =
    let f = fresh_at n j (suc q) ms i x e in
    let place : q + suc i ≡ suc q + i = omega arith in
    (f.0, f.1, ap (λ k. idle_seat (fresh n j k f.0)) place ∙ f.2)

fresh_sum : (n j q : ℕ) (ms : List Stored) → sum_by room_of (map idle_seat (fresh_from n j q ms)) ≡ length ms * j
fresh_sum n j q [] = omega arith
fresh_sum n j q (m ∷ ms) =
    sum_cons room_of (idle_seat (fresh n j q m)) (map idle_seat (fresh_from n j (suc q) ms)) ∙ ap (λ k. j - 0 + k) (fresh_sum n j (suc q) ms) ∙ one j (length ms)
  where
    one : (j l : ℕ) → j - 0 + l * j ≡ suc l * j
    one j l = grind arith

none_by : (caller : ℕ) (xs : List Kept) → count_by (is_by caller) (map running_on (map idle_seat xs)) ≡ 0
none_by caller [] = refl
none_by caller (x ∷ xs) = sum_cons (λ o. one_if (is_by caller o)) None (map running_on (map idle_seat xs)) ∙ ap (λ k. 0 + k) (none_by caller xs)

pub none_running : (n j q : ℕ) (ms : List Stored) → map running_on (map idle_seat (fresh_from n j q ms)) ≡ replicate (length ms) None
none_running n j q [] = refl
none_running n j q (m ∷ ms) = ap (λ rs. None ∷ rs) (none_running n j (suc q) ms)

abbrev pub opened_parts : Bool → List Stored → ℕ → ℕ → List ℕ → Parts
opened_parts loads ms journal reserved starts =
    record { loads = loads; opening = ms; journal = journal; seats = map idle_seat (fresh_stripes journal ms); finished = []; reserved = reserved; starts = starts; rest = none_back (length ms) }

module _ (gives : ℤ → LoadAnswer → Type 0) (loads : Bool) (ms : List Stored) (journal reserved : ℕ) (starts : List ℕ) where
  count_seats : length (map idle_seat (fresh_stripes journal ms)) ≡ length ms
  count_seats = length-map (fresh_stripes journal ms) idle_seat ∙ fresh_length (length ms) journal 0 ms

  opened_at : AreSeats (world_of (opened_parts loads ms journal reserved starts)) (map idle_seat (fresh_stripes journal ms))
  opened_at i x e =
      let f = fresh_at (length ms) journal 0 ms i x e in
      subst (IsAt (world_of (opened_parts loads ms journal reserved starts)) i) f.2
      (record {
        stripes = refl;
        place = zero-add i;
        journal = refl;
        records = refl;
        few = omega arith;
        left = λ k of. sym (ap (option_and_then (λ m. entry_in m k)) (ap (slice_get ms) (of ∙ zero-add i) ∙ f.1));
        room = λ s. absurd (true≢false (sym s));
        of = λ r q. no_one q;
        loads = λ b q. no_one q;
      })
    where
      no_one : {X Y : Type 0} {q : Y} → None ≡ Some q → X
      no_one e = absurd (cc)

  pub steady_opened : IsCount (length ms) → IsJournal journal → length ms * journal ≤ reserved → length starts ≡ 256 → ((caller : ℕ) → slice_index starts caller ≡ 0) → IsSteady (opened_parts loads ms journal reserved starts)
  steady_opened count of_journal room callers none =
      record {
        count = count;
        journal = of_journal;
        same = count_seats;
        seats = opened_at;
        legal = tt;
        room = zero-add (sum_by room_of (map idle_seat (fresh_stripes journal ms))) ∙ fresh_sum (length ms) journal 0 ms ∙ ap (λ n. n * journal) (sym count_seats);
        reserved = subst (λ n. n * journal ≤ reserved) (sym count_seats) room;
        numbers = λ caller lt. none caller ∙ sym (ap (λ k. 0 + k) (none_by caller (fresh_stripes journal ms)));
        callers = callers;
        rest = refl;
      }

  -- A new world has no recorded answers.
  pub given_opened : AnswersAreGiven gives (world_of (opened_parts loads ms journal reserved starts))
  given_opened =
      record {
        finished = λ q d h. absurd (omega (arith, h));
        running = λ i r e. none_there i r (get_map running_on (map idle_seat (fresh_stripes journal ms)) i (Some r) e);
      }
    where
      no_one : {X Y : Type 0} {q : Y} → None ≡ Some q → X
      no_one e = absurd (cc)

      none_there : {X : Type 0} (i : ℕ) (r : Running) → ((z : Seated) × (slice_get (map idle_seat (fresh_stripes journal ms)) i ≡ Some z) × (z.running ≡ Some r)) → X
      none_there i r (z, at, runs) = let f = fresh_at (length ms) journal 0 ms i z at in no_one (ap (λ (y : Seated). y.running) f.2 ∙ runs)

-- ---- no call runs

module _ (p : Parts) where
  pub idle_none : AreIdle p.seats → NoneRuns (world_of p)
  idle_none idle i r e =
      let f = get_map running_on p.seats i (Some r) e in
      no_one (sym (idle i f.0 f.1) ∙ f.2)
    where
      no_one : None ≡ Some r → ⊥
      no_one e = absurd (cc)

  pub none_idle : NoneRuns (world_of p) → AreIdle p.seats
  none_idle none i x there = by x.running refl
    where
      by : (o : Option Running) → x.running ≡ o → o ≡ None
      by None e = refl
      by (Some r) e = absurd (none i r (map_get running_on p.seats i x there ∙ ap Some e))

  -- The stored entries are those that the finished calls leave.
  pub stored_left : IsSteady p → (k : ℤ) → entry_among (map stored_on p.seats) k ≡ entries_now (world_of p) k
  stored_left h k =
      let many : length (map stored_on p.seats) ≡ length p.opening = length-map p.seats stored_on ∙ h.same in
      let below = stripe_below (length p.opening) k h.count.0 in
      let found = has_element p.seats (stripe_of (length p.opening) k) (omega (arith, below, h.same)) in
      let at : IsAt (world_of p) (stripe_of (length p.opening) k) found.0 = h.seats (stripe_of (length p.opening) k) found.0 found.1 in
      ap (λ n. option_and_then (λ m. entry_in m k) (slice_get (map stored_on p.seats) (stripe_of n k))) many
      ∙ ap (option_and_then (λ m. entry_in m k)) (map_get stored_on p.seats (stripe_of (length p.opening) k) found.0 found.1)
      ∙ at.left k (ap (λ n. stripe_of n k) at.stripes ∙ sym at.place)

pub get_middle : {X : Type 0} (xs : List X) (x : X) (ys : List X) → slice_get (xs ++ x ∷ ys) (length xs) ≡ Some x
get_middle [] x ys = refl
get_middle (y ∷ xs) x ys = get_middle xs x ys
