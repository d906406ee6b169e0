-- The state of a running round.
use Rattle.std.specs.Prelude.{◌≡◌, ℕ, ◌<◌, ◌≤◌, ◌⊎◌, true, List, length, map, replicate, Option, Some, None, slice_get, IsPermutation}
use Rattle.stripe.specs.declared.call.Reply.{Reply}
use Rattle.stripe.specs.History.{Call, key_of, stripe_of}
use Rattle.stripe.specs.Kept.{may_make}
use Rattle.stripe.specs.Seen.{call_of}
use Rattle.world.specs.World.{World, Running}
use Rattle.world.specs.Forward.{turns_left}
use Rattle.round_outcome.specs.Outcome.{answered, calls_in}
use Rattle.round_robin.specs.declared.scheduler.Scheduler.{Scheduler}
use Rattle.round_robin.specs.declared.scheduler.SchedulerBuffers.{SchedulerBuffers}

-- The state of a round: the calls, the number of them that have begun or were refused, the world that they run on,
-- the number of the call that runs on each stripe, and the replies.
pub record Stage : Type 0 where
  pub calls : List Call
  pub begun : ℕ
  pub world : World
  pub numbers : List (Option ℕ)
  pub replies : List (Option Reply)

abbrev pub stage : {L : Type 0} → Scheduler L → Stage
stage c = record { calls = map call_of c.calls.now; begun = c.begun; world = c.world.world; numbers = c.numbers.items; replies = c.replies.items }

-- `IsNumbered` holds if call `k` has begun, runs on stripe `i`, the stripe of its key, and has no reply yet.
pub record IsNumbered (s : Stage) (i k : ℕ) (r : Running) : Type 0 where
  pub begun : k < s.begun
  pub call : slice_get s.calls k ≡ Some r.call
  pub stripe : stripe_of (length s.world.opening) (key_of r.call) ≡ i
  pub unanswered : slice_get s.replies k ≡ Some None

-- `IsRight` holds if stripe `i` has a number if and only if a call runs on it, and the number is that of the call.
abbrev pub IsRight : Stage → ℕ → Option ℕ → Option Running → Type 0
IsRight s i None None = Unit {0}
IsRight s i None (Some r) = ⊥
IsRight s i (Some k) None = ⊥
IsRight s i (Some k) (Some r) = IsNumbered s i k r

-- `RunsOrRefused` holds if call `k` runs, or may create an entry, as every refused call may.
abbrev pub RunsOrRefused : Stage → ℕ → Call → Type 0
RunsOrRefused s k call = ((i : ℕ) × (slice_get s.numbers i ≡ Some (Some k))) ⊎ (may_make s.world.loads call ≡ true)

-- `IsGoing` is the invariant of a round. The finished calls are those that have a reply. A call that has begun and has no reply runs or
-- was refused. A call that has not begun has no reply.
pub record IsGoing (s : Stage) : Type 0 where
  pub replies : length s.replies ≡ length s.calls
  pub numbers : length s.numbers ≡ length s.world.opening
  pub running : length s.world.running ≡ length s.world.opening
  pub room : length s.calls ≤ s.world.journal
  pub once : IsPermutation (answered s.calls s.replies) (calls_in s.world.finished)
  pub ahead : (k : ℕ) → s.begun ≤ k → k < length s.calls → slice_get s.replies k ≡ Some None
  pub right : (i : ℕ) (n : Option ℕ) (o : Option Running) → slice_get s.numbers i ≡ Some n → slice_get s.world.running i ≡ Some o → IsRight s i n o
  pub refused : (k : ℕ) (call : Call) → k < s.begun → slice_get s.calls k ≡ Some call → slice_get s.replies k ≡ Some None → RunsOrRefused s k call

-- `IsAsBefore` holds if both states have the same calls, the same number of begun calls, and the same opening tables.
pub record IsAsBefore (old new : Stage) : Type 0 where
  pub calls : new.calls ≡ old.calls
  pub begun : new.begun ≡ old.begun
  pub opening : new.world.opening ≡ old.world.opening

-- `IsRoom` holds if the buffers have an empty item for each of `calls` calls and each of `stripes` stripes.
pub record IsRoom (calls stripes : ℕ) (r : SchedulerBuffers) : Type 0 where
  pub numbers : r.numbers.items ≡ replicate stripes None
  pub replies : r.replies.items ≡ replicate calls None

-- `AreIdleBefore` holds if no call runs on a stripe below `i`.
abbrev pub AreIdleBefore : ℕ → Stage → Type 0
AreIdleBefore i s = (j : ℕ) → j < i → turns_left s.world j ≡ 0

-- `IsOver` holds if all calls have begun and none runs.
pub record IsOver (s : Stage) : Type 0 where
  pub begun : s.begun ≡ length s.calls
  pub idle : AreIdleBefore (length s.world.opening) s
