-- The events of the code as events of the definitions.
use Rattle.stripe.specs.Seen.{call_of}
use Rattle.world.specs.declared.event.Event.{Event as EventTaken}
use Rattle.world.specs.declared.event.Event.TheVariants as taken
use Rattle.world.specs.World.{Event, Start, Step, Finish}

abbrev pub event_of : EventTaken → Event
event_of (taken.Start caller call) = Start caller (call_of call)
event_of (taken.Step stripe) = Step stripe
event_of (taken.Finish stripe) = Finish stripe
