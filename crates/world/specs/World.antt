-- A world of running and finished calls. An event is a start, one instruction, or a finish (JSR 107, Cache and EntryProcessor).
use Rattle.std.specs.Prelude.{◌≡◌, ℕ, ℤ, ◌+◌, ◌==◌, Bool, true, false, not, ◌&&◌, List, [], ◌∷◌, ◌++◌, Option, Some, None, is_some, slice_get, slice_set, replicate, length, filter, count_by}
use Rattle.jtypes.specs.declared.loader.LoadAnswer.{LoadAnswer}
use Rattle.jtypes.specs.Lists.{only_if}
use Rattle.jtypes.specs.Loading.{IsGiven, entry_loaded}
use Rattle.jtypes.specs.Entry.{Entry}
use Rattle.typecheck.specs.Typing.{Class}
use Rattle.verdict.specs.Machine.{State, Next, Goes, Ends, start, asks, step_with}
use Rattle.stripe.specs.declared.call.Reply.{Reply}
use Rattle.stripe.specs.declared.call.Reply.TheVariants.{Result, Done, Value, Flag}
use Rattle.stripe.specs.History.{Call, Invoke, Get, Put, Remove, Contains, Record, Entries, key_of, entries_after, invocation, told_by, stripe_of, AreGiven}
use Rattle.stripe.specs.Stored.{Stored, entry_among}

-- The progress of a running call: a state of its class, or final,
-- with its reply, the entry that it leaves, and the loader's answer if it was asked.
pub data Progress : Type 0 where
  Working : Class → State → Progress
  Settled : Reply → Entry → Option LoadAnswer → Progress

pub record Running : Type 0 where
  pub caller : ℕ
  pub number : ℕ
  pub call : Call
  pub progress : Progress

-- Whether there is a loader, the opening tables, the capacity of each stripe's history in records,
-- the running call of each stripe, and the finished calls in order.
pub record World : Type 0 where
  pub loads : Bool
  pub opening : List Stored
  pub journal : ℕ
  pub running : List (Option Running)
  pub finished : List Record

-- A world with a loader for read-through (JSR 107, CacheLoader).
pub record ReadThrough (X : Type 0) : Type 0 where
  pub world : World
  pub loader : X

pub data Event : Type 0 where
  Start : (caller : ℕ) → Call → Event
  Step : (stripe : ℕ) → Event
  Finish : (stripe : ℕ) → Event

-- The world without running or finished calls.
abbrev pub opened : Bool → List Stored → ℕ → World
opened loads opening journal = record { loads = loads; opening = opening; journal = journal; running = replicate (length opening) None; finished = [] }

abbrev pub opening_entries : World → Entries
opening_entries w = entry_among w.opening

-- The entries after the finished calls.
abbrev pub entries_now : World → Entries
entries_now w = entries_after (opening_entries w) w.finished

-- The stripe of a call's key.
abbrev pub stripe_in : World → Call → ℕ
stripe_in w call = stripe_of (length w.opening) (key_of call)

-- Whether a record is of a key on stripe `i` of `stripes`.
abbrev pub is_on : ℕ → ℕ → Record → Bool
is_on stripes i r = stripe_of stripes (key_of r.call) == i

-- The records on stripe `i` of `stripes`.
abbrev pub records_on : ℕ → ℕ → List Record → List Record
records_on stripes i records = filter (is_on stripes i) records

-- The finished calls of a stripe.
abbrev pub history_of : World → ℕ → List Record
history_of w i = records_on (length w.opening) i w.finished

-- ---- the start of a call

-- The progress of an invocation from its first state. An accepted class has a first state.
abbrev pub begun : Class → Option State → Option Progress
begun c None = None
begun c (Some s) = Some (Working c s)

-- The progress of a `get`. If there is a loader, its answer is the reply for an absent key.
abbrev pub got : Bool → LoadAnswer → Entry → Progress
got true a None = Settled (told_by a) (entry_loaded None a) (Some a)
got loads a before = Settled (Value before) before None

-- The progress of a call at its start. It is final unless the call is an invocation; `a` is the loader's answer, if it is asked.
abbrev pub progress_of : Bool → LoadAnswer → Entry → Call → Option Progress
progress_of loads a before (Invoke c k args) = begun c (start c (invocation loads k args before))
progress_of loads a before (Get k) = Some (got loads a before)
progress_of loads a before (Put k v) = Some (Settled Done (Some v) None)
progress_of loads a before (Remove k) = Some (Settled (Flag (is_some before)) None None)
progress_of loads a before (Contains k) = Some (Settled (Flag (is_some before)) before None)

-- ---- numbers

abbrev pub is_by : ℕ → Option Running → Bool
is_by caller None = false
is_by caller (Some r) = r.caller == caller

-- The number of earlier starts of a caller.
abbrev pub starts_of : World → ℕ → ℕ
starts_of w caller = count_by (λ r. r.caller == caller) w.finished + count_by (is_by caller) w.running

-- ---- events

abbrev pub with_running : World → ℕ → Option Running → World
with_running w i r = record w { running = slice_set w.running i r }

abbrev pub running_call : ℕ → ℕ → Call → Progress → Running
running_call caller number call p = record { caller = caller; number = number; call = call; progress = p }

abbrev pub after_begin : World → ℕ → Call → Option Progress → World
after_begin w caller call None = w
after_begin w caller call (Some p) = with_running w (stripe_in w call) (Some (running_call caller (starts_of w caller) call p))

-- A start is possible if no call runs on the key's stripe.
abbrev pub after_start : LoadAnswer → World → ℕ → Call → Option (Option Running) → World
after_start a w caller call (Some None) = after_begin w caller call (progress_of w.loads a (entries_now w (key_of call)) call)
after_start a w caller call _ = w

abbrev pub progress_after : Class → State → Option Next → Progress
progress_after c s None = Working c s
progress_after c s (Some (Goes t)) = Working c t
progress_after c s (Some (Ends f)) = Settled (Result f.outcome) f.entry f.asked

abbrev pub with_progress : Running → Progress → Running
with_progress r p = running_call r.caller r.number r.call p

-- A step is possible if a call runs that is not final.
abbrev pub stepped : LoadAnswer → World → ℕ → Running → Progress → World
stepped a w i r (Working c s) = with_running w i (Some (with_progress r (progress_after c s (step_with c a s))))
stepped a w i r (Settled reply after asked) = w

abbrev pub after_step : LoadAnswer → World → ℕ → Option (Option Running) → World
after_step a w i (Some (Some r)) = stepped a w i r r.progress
after_step a w i _ = w

abbrev pub record_of_call : Running → Reply → Entry → Option LoadAnswer → Record
record_of_call r reply after asked = record { caller = r.caller; number = r.number; call = r.call; reply = reply; after = after; asked = asked }

-- The world with one more record, and with no call on the stripe.
abbrev pub with_record : World → ℕ → Record → World
with_record w i r = record w { running = slice_set w.running i None; finished = w.finished ++ r ∷ [] }

-- A finish is possible if a call runs that is final.
abbrev pub finished : World → ℕ → Running → Progress → World
finished w i r (Working c s) = w
finished w i r (Settled reply after asked) = with_record w i (record_of_call r reply after asked)

abbrev pub after_finish : World → ℕ → Option (Option Running) → World
after_finish w i (Some (Some r)) = finished w i r r.progress
after_finish w i _ = w

-- The world after an event; `a` is the loader's answer, if it is asked. An event that is not possible changes nothing.
abbrev pub apply : LoadAnswer → World → Event → World
apply a w (Start caller call) = after_start a w caller call (slice_get w.running (stripe_in w call))
apply a w (Step i) = after_step a w i (slice_get w.running i)
apply a w (Finish i) = after_finish w i (slice_get w.running i)

-- ---- the keys that the loader is asked for

-- The key that the next step of a call asks for, if it asks.
abbrev pub asked_by : Progress → Option ℤ
asked_by (Working c s) = only_if (asks c s) (Some s.call.key)
asked_by (Settled reply after asked) = None

abbrev pub asked_on : Option (Option Running) → Option ℤ
asked_on (Some (Some r)) = asked_by r.progress
asked_on _ = None

-- A `get` asks if there is a loader and no entry.
abbrev pub asked_by_get : Bool → Entry → Call → Option ℤ
asked_by_get loads before (Get k) = only_if (loads && not (is_some before)) (Some k)
asked_by_get loads before call = None

-- A `get` asks at its start, if the start is possible.
abbrev pub asked_at_start : World → Call → Option (Option Running) → Option ℤ
asked_at_start w call (Some None) = asked_by_get w.loads (entries_now w (key_of call)) call
asked_at_start w call o = None

abbrev pub asked_in : World → Event → Option ℤ
asked_in w (Start caller call) = asked_at_start w call (slice_get w.running (stripe_in w call))
asked_in w (Step i) = asked_on (slice_get w.running i)
asked_in w (Finish i) = None

-- If an event asks for a key, the loader gives this answer for it.
abbrev pub MayAnswer : (ℤ → LoadAnswer → Type 0) → LoadAnswer → Option ℤ → Type 0
MayAnswer gives a None = Unit {0}
MayAnswer gives a (Some k) = gives k a

-- The event happens, with an answer that the loader gives if it is asked.
abbrev pub Happens : (ℤ → LoadAnswer → Type 0) → World → Event → World → Type 0
Happens gives w e new = (a : LoadAnswer) × MayAnswer gives a (asked_in w e) × (new ≡ apply a w e)

-- The run of these events, in order, from one world to another.
pub data Runs (gives : ℤ → LoadAnswer → Type 0) (w : World) : List Event → World → Type 0 where
  none : Runs gives w [] w
  more : {events : List Event} {v u : World} (e : Event) → Runs gives w events v → Happens gives v e u → Runs gives w (events ++ e ∷ []) u

-- The loader's answer to a running call, if it was asked.
abbrev pub answer_to : Progress → Option LoadAnswer
answer_to (Working c s) = s.now.asked
answer_to (Settled reply after asked) = asked

-- The loader gives each of its recorded answers, to finished and to running calls.
pub record AnswersAreGiven (gives : ℤ → LoadAnswer → Type 0) (w : World) : Type 0 where
  pub finished : AreGiven gives w.finished
  pub running : (i : ℕ) (r : Running) → slice_get w.running i ≡ Some (Some r) → IsGiven gives (key_of r.call) (answer_to r.progress)
