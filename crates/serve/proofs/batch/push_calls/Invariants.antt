-- The calls so far and the invocations on the remaining keys are all the calls.
use Rattle.std.proofs.Common.{◌≡◌, ◌++◌, drop}
use Rattle.stripe.specs.Rows.{arguments}
use Rattle.invokeall.specs.Collected.{invocations}
use Rattle.invokeall.specs.Jobs.{all_seen}
use Rattle.serve.proofs.batch.push_calls.Given as goal

abbrev pub invariant-loop-key : goal.invariant-loop-key
invariant-loop-key l = all_seen l.calls.items ++ invocations l.class (arguments l.args) (drop l.key-index l.keys) ≡ all_seen l.initial.calls.items ++ invocations l.class (arguments l.args) l.keys
