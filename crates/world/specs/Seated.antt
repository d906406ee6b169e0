-- A stripe and the call that runs on it, as contracts see them.
use Rattle.std.specs.Prelude.{Bool, ◌≡◌, ℕ, ℤ, List, slice_get, Option, Some, None}
use Rattle.jtypes.specs.Entry.{Entry}
use Rattle.jtypes.specs.declared.loader.LoadAnswer.{LoadAnswer}
use Rattle.jtypes.specs.Loading.{IsGiven}
use Rattle.verdict.specs.Machine.{step_with}
use Rattle.stripe.specs.declared.call.Reply.{Reply}
use Rattle.stripe.specs.History.{Begun, Record, Answers, key_of}
use Rattle.stripe.specs.Kept.{Kept, IsOf, entry_of, begun, committed}
use Rattle.world.specs.World.{Running, Progress, Working, Settled, progress_of, progress_after, running_call, with_progress, record_of_call, asked_by_get, asked_on, MayAnswer, answer_to}

pub record Seated : Type 0 where
  pub stripe : Kept
  pub running : Option Running

-- The seat of a stripe on which no call runs.
abbrev pub idle_seat : Kept → Seated
idle_seat s = record { stripe = s; running = None }

-- No call runs on any of these seats.
abbrev pub AreIdle : List Seated → Type 0
AreIdle xs = (i : ℕ) (x : Seated) → slice_get xs i ≡ Some x → x.running ≡ None

-- The loader gives its recorded answer to the running call.
abbrev pub AnswerIsGiven : (ℤ → LoadAnswer → Type 0) → Option Running → Type 0
AnswerIsGiven gives None = Unit {0}
AnswerIsGiven gives (Some r) = IsGiven gives (key_of r.call) (answer_to r.progress)

-- The call `b` runs on the seat, and is in its first progress; `a` is the loader's answer to a `get` that asks it.
pub record IsBegun (a : LoadAnswer) (old : Seated) (b : Begun) (new : Seated) : Type 0 where
  pub progress : Progress
  pub is : progress_of b.loads a (entry_of old.stripe (key_of b.call)) b.call ≡ Some progress
  pub stripe : new.stripe ≡ begun old.stripe b
  pub entries : (k : ℤ) → entry_of new.stripe k ≡ entry_of old.stripe k
  pub running : new.running ≡ Some (running_call b.caller b.number b.call progress)

-- A call starts. If a `get` asks the loader, the loader gives the answer.
abbrev pub Starts : (ℤ → LoadAnswer → Type 0) → Seated → Begun → Seated → Type 0
Starts gives old b new = (a : LoadAnswer) × MayAnswer gives a (asked_by_get b.loads (entry_of old.stripe (key_of b.call)) b.call) × IsBegun a old b new × AnswerIsGiven gives new.running

-- The progress after one step, unless the call is final; `a` is the loader's answer, if it is asked.
abbrev pub further : LoadAnswer → Progress → Progress
further a (Working c s) = progress_after c s (step_with c a s)
further a (Settled reply after asked) = Settled reply after asked

abbrev pub turned : LoadAnswer → Option Running → Option Running
turned a None = None
turned a (Some r) = Some (with_progress r (further a r.progress))

-- One step of the running call, with an answer that the loader gives if it is asked.
abbrev pub Turns : (ℤ → LoadAnswer → Type 0) → Option Running → Option Running → Type 0
Turns gives old new = (a : LoadAnswer) × MayAnswer gives a (asked_on (Some old)) × (new ≡ turned a old)

-- The open call, if there is one, has a loader exactly if `loads`.
abbrev pub HasLoader : Bool → Kept → Type 0
HasLoader loads s = (b : Begun) → s.running ≡ Some b → b.loads ≡ loads

-- The running call was final, and `r` is its record.
pub record IsEnded (old : Seated) (r : Record) (new : Seated) : Type 0 where
  pub running : Running
  pub reply : Reply
  pub after : Entry
  pub asked : Option LoadAnswer
  pub runs : old.running ≡ Some running
  pub settled : running.progress ≡ Settled reply after asked
  pub told : r ≡ record_of_call running reply after asked
  pub begun : Begun
  pub opened : old.stripe.running ≡ Some begun
  pub answers : Answers begun.loads (entry_of old.stripe (key_of r.call)) r.call r.reply r.after r.asked
  pub of : IsOf old.stripe (key_of r.call)
  pub stripe : new.stripe ≡ committed old.stripe r
  pub entry : entry_of new.stripe (key_of r.call) ≡ r.after
  pub others : (k : ℤ) → ¬ (k ≡ key_of r.call) → entry_of new.stripe k ≡ entry_of old.stripe k
  pub idle : new.running ≡ None
