-- The models of the calls and the records of the code. They have the class as a value, not as a reference.
use Rattle.stripe.specs.Rows.{arguments}
use Rattle.stripe.specs.declared.call.Call.{Call as CallTaken}
use Rattle.stripe.specs.declared.call.Call.TheVariants as taken
use Rattle.stripe.specs.declared.call.OpenCall.{OpenCall}
use Rattle.stripe.specs.declared.call.Record.{Record as RecordKept}
use Rattle.stripe.specs.History.{Call, Invoke, Get, Put, Remove, Contains, Begun, Record}

abbrev pub call_of : CallTaken → Call
call_of (taken.Invoke class key args) = Invoke class.now key (arguments args)
call_of (taken.Get key) = Get key
call_of (taken.Put key value) = Put key value
call_of (taken.Remove key) = Remove key
call_of (taken.Contains key) = Contains key

abbrev pub begun_of : OpenCall → Begun
begun_of b = record { caller = b.caller; number = b.number; call = call_of b.call; loads = b.loads }

abbrev pub record_of : RecordKept → Record
record_of r = record { caller = r.caller; number = r.number; call = call_of r.call; reply = r.reply; after = r.after; asked = r.asked }
