-- The possible events, and the refusals of possible starts.
use Rattle.std.specs.Prelude.{◌≡◌, ◌↔◌, ℕ, ◌==◌, ◌&&◌, not, ℤ, Bool, true, false, IsTrue, List, [], ◌∷◌, Option, Some, None, is_some, slice_get, length, take}
use Rattle.world.specs.declared.event.Applied.{Applied}
use Rattle.world.specs.declared.event.Applied.TheVariants.{Done, Ignored, Refused}
use Rattle.stripe.specs.declared.refusal.BeginRefusal.{BeginRefusal}
use Rattle.stripe.specs.declared.refusal.BeginRefusal.TheVariants.{JournalFull, NoMemory}
use Rattle.jtypes.specs.declared.loader.LoadAnswer.{LoadAnswer}
use Rattle.stripe.specs.History.{key_of}
use Rattle.stripe.specs.Kept.{may_make}
use Rattle.world.specs.World.{World, Running, Progress, Working, Settled, Event, Start, Step, Finish, entries_now, stripe_in, history_of, Happens, Runs, none, more}

abbrev pub is_working : Progress → Bool
is_working (Working c s) = true
is_working (Settled reply after asked) = false

-- `works`: a call runs on the stripe and is not final. `is_final`: it is final. `is_idle`: no call runs on the stripe.
abbrev pub works : Option (Option Running) → Bool
works (Some (Some r)) = is_working r.progress
works _ = false

abbrev pub is_final : Option (Option Running) → Bool
is_final (Some (Some r)) = not (is_working r.progress)
is_final _ = false

abbrev pub is_idle : Option (Option Running) → Bool
is_idle (Some None) = true
is_idle _ = false

-- A start is possible if no call runs on the key's stripe, a step if one runs that is not final, a finish if one runs that is final.
abbrev pub is_possible : World → Event → Bool
is_possible w (Start caller call) = is_idle (slice_get w.running (stripe_in w call))
is_possible w (Step i) = works (slice_get w.running i)
is_possible w (Finish i) = is_final (slice_get w.running i)

-- The history of the stripe is at its capacity.
abbrev pub is_full : World → ℕ → Bool
is_full w i = length (history_of w i) == w.journal

-- A possible start on a full history.
abbrev pub is_start_on_full : World → Event → Bool
is_start_on_full w (Start caller call) = is_possible w (Start caller call) && is_full w (stripe_in w call)
is_start_on_full w _ = false

-- A possible start of a call that may create an entry, on an absent key.
abbrev pub is_start_on_absent : World → Event → Bool
is_start_on_absent w (Start caller call) = is_possible w (Start caller call) && (may_make w.loads call && not (is_some (entries_now w (key_of call))))
is_start_on_absent w _ = false

-- The condition under which an event is refused.
abbrev pub IsRefusable : World → Event → BeginRefusal → Type 0
IsRefusable w e JournalFull = IsTrue (is_start_on_full w e)
IsRefusable w e NoMemory = IsTrue (is_start_on_absent w e)

-- A call on key `k` runs.
pub record RunsOn (w : World) (k : ℤ) : Type 0 where
  pub stripe : ℕ
  pub running : Running
  pub there : slice_get w.running stripe ≡ Some (Some running)
  pub key : key_of running.call ≡ k

-- The entry of a key does not change while a call on it runs.
abbrev pub KeepsEntries : World → World → Type 0
KeepsEntries old new = (k : ℤ) → RunsOn old k → RunsOn new k → entries_now new k ≡ entries_now old k

-- No event of the run is a start on a full history, and none changes the entry of a key on which a call runs.
abbrev pub HadRoom : {gives : ℤ → LoadAnswer → Type 0} {w : World} {events : List Event} {v : World} → Runs gives w events v → Type 0
HadRoom none = Unit {0}
HadRoom (more {v} {u} e runs happens) = HadRoom runs × (is_start_on_full v e ≡ false) × KeepsEntries v u

-- The run of these events from `w` to `v`, with no start on a full history, which keeps the entries of running calls.
abbrev pub RunsWithRoom : (ℤ → LoadAnswer → Type 0) → World → List Event → World → Type 0
RunsWithRoom gives w events v = (runs : Runs gives w events v) × HadRoom runs

-- The events before index `place` are done or ignored, and the event at `place` is refused.
pub record IsStopped (gives : ℤ → LoadAnswer → Type 0) (w : World) (events : List Event) (place : ℕ) (refusal : BeginRefusal) (new : World) : Type 0 where
  pub event : Event
  pub there : slice_get events place ≡ Some event
  pub before : RunsWithRoom gives w (take place events) new
  pub refused : IsRefusable new event refusal

-- The result of an event, and the world after it.
pub record IsApplied (gives : ℤ → LoadAnswer → Type 0) (w : World) (e : Event) (a : Applied) (new : World) : Type 0 where
  pub world : ((r : BeginRefusal) → ¬ (a ≡ Refused r)) → Happens gives w e new
  pub same : ¬ (a ≡ Done) → new ≡ w
  pub ignored : (a ≡ Ignored) ↔ (is_possible w e ≡ false)
  pub full : (a ≡ Refused JournalFull) ↔ IsTrue (is_start_on_full w e)
  pub memory : a ≡ Refused NoMemory → IsTrue (is_start_on_absent w e)

-- No call runs.
abbrev pub NoneRuns : World → Type 0
NoneRuns w = (i : ℕ) (r : Running) → ¬ (slice_get w.running i ≡ Some (Some r))
