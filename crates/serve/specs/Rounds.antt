-- The work and the replies for the requests of a round (JSR 107, Cache).
use Rattle.std.specs.Prelude.{◌≡◌, ℕ, ℤ, ◌+◌, nat_le, List, [], ◌∷◌, ◌++◌, length, drop, Option, Some, None, slice_index_or, if◌then◌else◌}
use Rattle.jtypes.specs.declared.refusal.Refusal.{Refusal}
use Rattle.jtypes.specs.declared.refusal.Refusal.TheVariants as refusal
use Rattle.jtypes.specs.declared.types.Arg.{Arg}
use Rattle.jtypes.specs.declared.types.Arg.TheVariants.{Null}
use Rattle.jtypes.specs.declared.types.Outcome.TheVariants.{Returned}
use Rattle.typecheck.specs.Typing.{Class, IsProcessOf}
use Rattle.bounds.specs.Paths.{Bounds, AreBounds}
use Rattle.verdict.specs.Verdict.{IsRefused, IsAccepted, IsClassOf}
use Rattle.stripe.specs.History.{Call}
use Rattle.stripe.specs.History as call
use Rattle.stripe.specs.declared.call.Reply.{Reply as Answer}
use Rattle.stripe.specs.declared.call.Reply.TheVariants as answer
use Rattle.invokeall.specs.Collected.{different, invocations}
use Rattle.wire.specs.Requests.{Request, Define, Put, Get, Remove, Contains, Invoke, InvokeAll, Version, Forget}
use Rattle.wire.specs.declared.reply.Denial.TheVariants.{UnknownClass, NoMemory, TooManyClasses, TooManyJobs}
use Rattle.wire.specs.declared.reply.JobOutcome.{JobOutcome}
use Rattle.wire.specs.declared.reply.JobOutcome.TheVariants as job
use Rattle.wire.specs.declared.reply.Reply.{Reply}
use Rattle.wire.specs.declared.reply.Reply.TheVariants as reply
use Rattle.jtypes.specs.Profile.{Third}
use Rattle.serve.specs.Classes.{Classes, class_at, without, HasRoom, IsFull}

-- The maximum number of jobs of a round.
abbrev pub most_jobs : ℕ
most_jobs = 4096

-- ---- the work of a request

-- A known reply, the reply of the job at an index, or the replies of the jobs from an index on, one for each key.
pub data Work : Type 0 where
  Told : Reply → Work
  Job : (at : ℕ) → Work
  JobForEach : (at : ℕ) → (keys : List ℤ) → Work

-- The work of a request, and the calls of its jobs.
pub record Part : Type 0 where
  pub work : Work
  pub calls : List Call

abbrev pub part : Work → List Call → Part
part work calls = record { work = work; calls = calls }

abbrev pub told : Reply → Part
told r = part (Told r) []

-- The part, or a denial if its jobs and the `at` jobs before are too many for a round.
abbrev pub with_room : ℕ → Part → Part
with_room at p = if nat_le (at + length p.calls) most_jobs then p else told (reply.Denied TooManyJobs)

-- The part of a request with one job.
abbrev pub one : ℕ → Call → Part
one at c = with_room at (part (Job at) (c ∷ []))

-- The part of a request that invokes a class on each of these keys.
abbrev pub each : ℕ → List ℤ → List Arg → Class → Part
each at keys args c = with_room at (part (JobForEach at keys) (invocations c args keys))

-- The part for a class, or a denial if there is none.
abbrev pub of_class : Option Class → (Class → Part) → Part
of_class None f = told (reply.Denied UnknownClass)
of_class (Some c) f = f c

-- `IsDefined` holds if the class is accepted, and the reply has its number and its bounds.
pub record IsDefined (bytes : List ℕ) (n : ℕ) (c : Class) (r : Reply) : Type 0 where
  pub accepted : IsAccepted Third bytes
  pub class : IsClassOf Third bytes c
  pub bounds : Bounds
  pub bounds_are : (j : ℕ) → IsProcessOf c j → AreBounds c j bounds
  pub reply : r ≡ reply.Defined n bounds.steps bounds.words

-- `Adds` holds if a request adds this part to a round with `at` jobs, and leaves these classes. A `RoundEnd` adds none.
pub data Adds (classes : Classes) (at : ℕ) : Request → Part → Classes → Type 0 where
  defines : (bytes : List ℕ) (c : Class) (r : Reply) → HasRoom classes → IsDefined bytes (length classes) c r
      → Adds classes at (Define bytes) (told r) (classes ++ Some c ∷ [])
  refuses : (bytes : List ℕ) (r : Refusal) → HasRoom classes → IsRefused Third bytes r → Adds classes at (Define bytes) (told (reply.Refused r)) classes
  lacks_memory : (bytes : List ℕ) → HasRoom classes → Adds classes at (Define bytes) (told (reply.Refused refusal.NoMemory)) classes
  too_many : (bytes : List ℕ) → IsFull classes → Adds classes at (Define bytes) (told (reply.Denied TooManyClasses)) classes
  puts : (key value : ℤ) → Adds classes at (Put key value) (one at (call.Put key value)) classes
  gets : (key : ℤ) → Adds classes at (Get key) (one at (call.Get key)) classes
  removes : (key : ℤ) → Adds classes at (Remove key) (one at (call.Remove key)) classes
  looks : (key : ℤ) → Adds classes at (Contains key) (one at (call.Contains key)) classes
  invokes : (n : ℕ) (key : ℤ) (args : List Arg) → Adds classes at (Invoke n key args) (of_class (class_at classes n) (λ c. one at (call.Invoke c key args))) classes
  invokes_all : (n : ℕ) (keys : List ℤ) (args : List Arg) → Adds classes at (InvokeAll n keys args) (of_class (class_at classes n) (λ c. each at (different keys) args c)) classes
  tells_version : Adds classes at Version (told (reply.Version 2)) classes
  forgets : (n : ℕ) (c : Class) → class_at classes n ≡ Some c → Adds classes at (Forget n) (told reply.Done) (without n classes)
  forgets_none : (n : ℕ) → class_at classes n ≡ None → Adds classes at (Forget n) (told (reply.Denied UnknownClass)) classes

-- `Gathers` holds if these are the works of a round's requests so far, the calls of its jobs, and the accepted classes.
pub data Gathers (first : Classes) : List Request → List Work → List Call → Classes → Type 0 where
  none : Gathers first [] [] [] first
  more : (requests : List Request) (works : List Work) (calls : List Call) (now later : Classes) (r : Request) (p : Part) → Gathers first requests works calls now
      → Adds now (length calls) r p later → Gathers first (requests ++ r ∷ []) (works ++ p.work ∷ []) (calls ++ p.calls) later

-- ---- replies

-- The reply to a job. A job without an answer is denied with `NoMemory`.
abbrev pub job_reply : Option Answer → Reply
job_reply None = reply.Denied NoMemory
job_reply (Some (answer.Result o)) = reply.Result o
job_reply (Some answer.Done) = reply.Done
job_reply (Some (answer.Value v)) = reply.Value v
job_reply (Some (answer.Flag b)) = reply.Flag b

-- The outcomes listed for a key: none if its entry processor returned null.
abbrev pub listed : ℤ → Option Answer → List (ℤ × JobOutcome)
listed key None = (key, job.Denied NoMemory) ∷ []
listed key (Some (answer.Result (Returned Null))) = []
listed key (Some (answer.Result o)) = (key, job.Ended o) ∷ []
listed key (Some _) = []

abbrev pub all_listed : List (Option Answer) → List ℤ → List (ℤ × JobOutcome)
all_listed answers [] = []
all_listed [] (k ∷ ks) = listed k None ++ all_listed [] ks
all_listed (a ∷ answers) (k ∷ ks) = listed k a ++ all_listed answers ks

-- The reply to a request, from the answers to the jobs of its round.
abbrev pub work_reply : List (Option Answer) → Work → Reply
work_reply answers (Told r) = r
work_reply answers (Job at) = job_reply (slice_index_or answers at None)
work_reply answers (JobForEach at keys) = reply.Results (all_listed (drop at answers) keys)
