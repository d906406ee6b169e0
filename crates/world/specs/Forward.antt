-- A bound on the events until a call finishes.
use Rattle.std.specs.Prelude.{ℕ, ◌+◌, ◌-◌, ◌<◌, Option, Some, IsSome, slice_get}
use Rattle.bounds.specs.Paths.{step_limit}
use Rattle.jtypes.specs.declared.loader.LoadAnswer.{LoadAnswer}
use Rattle.stripe.specs.History.{key_of}
use Rattle.world.specs.World.{World, Running, Progress, Working, Settled, Event, Start, Step, Finish, entries_now, progress_of}
use Rattle.jtypes.specs.Profile.{Third}

-- An upper bound on the events that a call still needs: its steps up to the limit of an accepted class, and the finish.
abbrev pub turns_of : Progress → ℕ
turns_of (Working c s) = (step_limit Third - s.steps) + 2
turns_of (Settled reply after asked) = 1

abbrev pub turns_on : Option (Option Running) → ℕ
turns_on (Some (Some r)) = turns_of r.progress
turns_on _ = 0

-- The bound for the call that runs on a stripe, or 0 if none runs.
abbrev pub turns_left : World → ℕ → ℕ
turns_left w i = turns_on (slice_get w.running i)

-- A start has a first progress, and a step decreases the bound of its stripe.
abbrev pub GoesForward : World → Event → World → Type 0
GoesForward w (Start caller call) new = (a : LoadAnswer) → IsSome (progress_of w.loads a (entries_now w (key_of call)) call)
GoesForward w (Step i) new = turns_left new i < turns_left w i
GoesForward w (Finish i) new = Unit {0}
