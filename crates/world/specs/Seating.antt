-- The invariant of a seat.
use Rattle.std.specs.Prelude.{◌≡◌, Option, Some, None, option_map}
use Rattle.jtypes.specs.declared.loader.LoadAnswer.{LoadAnswer}
use Rattle.interpreter.specs.declared.machine.Machine.{Machine}
use Rattle.ended.specs.declared.done.Done.{Done}
use Rattle.stripe.specs.History.{Begun, key_of}
use Rattle.stripe.specs.Kept.{Kept, entry_of}
use Rattle.world.specs.declared.seat.Seat.TheInside.{Inside}
use Rattle.world.specs.World.{Running, running_call}
use Rattle.world.specs.Seated.{Seated}
use Rattle.world.specs.Going.{progress_in, IsGoing}

-- The call that is open on the stripe, with its progress.
abbrev pub running_in : Kept → Machine → Option Done → Option LoadAnswer → Option Begun → Option Running
running_in s m ended asked None = None
running_in s m ended asked (Some b) = option_map (running_call b.caller b.number b.call) (progress_in b.loads (entry_of s (key_of b.call)) m b.call ended asked)

abbrev pub seated : Inside → Seated
seated x = record { stripe = x.stripe; running = running_in x.stripe x.workspace x.done x.asked x.stripe.running }

abbrev pub IsSound : Inside → Type 0
IsSound x = (b : Begun) → x.stripe.running ≡ Some b → IsGoing b.loads (entry_of x.stripe (key_of b.call)) x.workspace b.call x.done x.asked
