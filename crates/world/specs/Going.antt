-- The progress of a call, from the contents of a seat.
use Rattle.std.specs.Prelude.{◌≡◌, ℕ, ℤ, List, Bool, true, false, Option, Some, None, option_map, option_and_then}
use Rattle.jtypes.specs.declared.types.Arg.{Arg}
use Rattle.jtypes.specs.Entry.{Entry, after_effect}
use Rattle.jtypes.specs.Loading.{entry_loaded}
use Rattle.jtypes.specs.declared.loader.LoadAnswer.{LoadAnswer}
use Rattle.jtypes.specs.declared.loader.LoadAnswer.TheVariants as load
use Rattle.typecheck.specs.Typing.{Class}
use Rattle.verdict.specs.Machine.{Invocation, State, start}
use Rattle.soundness.proofs.Answered.{state_after}
use Rattle.interpreter.specs.declared.machine.Machine.{Machine}
use Rattle.ended.specs.declared.done.Done.{Done}
use Rattle.ended.specs.Ended.{IsMeant}
use Rattle.machine.specs.Running.{IsRunning}
use Rattle.stripe.specs.declared.call.Reply.TheVariants.{Result, Value}
use Rattle.stripe.specs.History.{Call, Invoke, Get, Put, Remove, Contains, invocation, told_by}
use Rattle.stripe.specs.Kept.{IsAsked}
use Rattle.world.specs.World.{Progress, Working, Settled, progress_of}

-- The loader's answer in a run: the recorded one if the loader was asked, else `load.None` as a default.
abbrev pub known : Option LoadAnswer → LoadAnswer
known (Some a) = a
known None = load.None

-- The state of an invocation after a number of steps, if none of them ends it.
abbrev pub state_in : Class → Invocation → LoadAnswer → ℕ → Option State
state_in c call a steps = option_and_then (state_after steps c a) (start c call)

-- The progress of a `get` that found this entry.
abbrev pub got_by : Entry → Option LoadAnswer → Progress
got_by before (Some a) = Settled (told_by a) (entry_loaded None a) (Some a)
got_by before None = Settled (Value before) before None

-- The progress of a call that found this entry: an invocation that has this end, or is in the state after `m.steps` steps;
-- a `get` with this answer of the loader; or another call.
abbrev pub progress_in : Bool → Entry → Machine → Call → Option Done → Option LoadAnswer → Option Progress
progress_in loads before m (Invoke c k args) (Some d) asked = Some (Settled (Result d.outcome) (after_effect d.effect before) d.asked)
progress_in loads before m (Invoke c k args) None asked = option_map (λ s. Working c s) (state_in c (invocation loads k args before) (known m.entry.now.asked) m.steps)
progress_in loads before m (Get k) ended asked = Some (got_by before asked)
progress_in loads before m call ended asked = progress_of loads load.None before call

-- Whether a call is final: an invocation that has ended, or any other call.
abbrev pub is_ended : Call → Option Done → Bool
is_ended (Invoke c k args) None = false
is_ended _ _ = true

-- An invocation of the class runs in the workspace, in this state.
pub record IsUnderWay (c : Class) (call : Invocation) (m : Machine) : Type 0 where
  pub state : State
  pub call_is : state.call ≡ call
  pub is : state_in c call (known m.entry.now.asked) m.steps ≡ Some state
  pub running : IsRunning c state m

-- An invocation has ended in its meaning or is in progress; a `get` has asked the loader if it must;
-- another call has neither an end nor an answer.
pub data IsGoing (loads : Bool) (before : Entry) (m : Machine) : Call → Option Done → Option LoadAnswer → Type 0 where
  ended : (c : Class) (k : ℤ) (args : List Arg) (d : Done) → IsMeant c (invocation loads k args before) d → IsGoing loads before m (Invoke c k args) (Some d) None
  working : (c : Class) (k : ℤ) (args : List Arg) → IsUnderWay c (invocation loads k args before) m → IsGoing loads before m (Invoke c k args) None None
  getting : (k : ℤ) (asked : Option LoadAnswer) → IsAsked loads before asked → IsGoing loads before m (Get k) None asked
  putting : (k v : ℤ) → IsGoing loads before m (Put k v) None None
  removing : (k : ℤ) → IsGoing loads before m (Remove k) None None
  containing : (k : ℤ) → IsGoing loads before m (Contains k) None None
