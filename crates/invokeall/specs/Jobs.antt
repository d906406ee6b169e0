-- The models of the calls of jobs.
use Rattle.std.specs.Prelude.{List, map}
use Rattle.boxcar.specs.Table.{Shelves}
use Rattle.stripe.specs.History.{Call, Invoke, Get, Put, Remove, Contains}
use Rattle.stripe.specs.Rows.{arguments}
use Rattle.stripe.specs.declared.call.Call.{Call as CallTaken}
use Rattle.stripe.specs.Seen.{call_of as seen_call}
use Rattle.registry.specs.Ids.{IsOf, class_of}
use Rattle.invokeall.specs.declared.job.Job.{Job}
use Rattle.invokeall.specs.declared.job.Job.TheVariants as job

abbrev pub call_of : Job → Call
call_of (job.Invoke class key args) = Invoke (class_of class.now) key (arguments args)
call_of (job.Get key) = Get key
call_of (job.Put key value) = Put key value
call_of (job.Remove key) = Remove key
call_of (job.Contains key) = Contains key

abbrev pub calls_of : List Job → List Call
calls_of jobs = map call_of jobs

-- `IsCallable` holds if the class of an invocation is in this registry.
abbrev pub IsCallable : Shelves → Job → Type 0
IsCallable registry (job.Invoke class key args) = IsOf registry class.now
IsCallable registry (job.Get key) = Unit {0}
IsCallable registry (job.Put key value) = Unit {0}
IsCallable registry (job.Remove key) = Unit {0}
IsCallable registry (job.Contains key) = Unit {0}

-- The models of the calls of the code.
abbrev pub all_seen : List CallTaken → List Call
all_seen calls = map seen_call calls
