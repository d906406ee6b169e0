use Rattle.std.proofs.Common.{◌≡◌, ◌≤◌, ◌++◌, ◌+◌, drop, length, vec_capacity}
use Rattle.std.specs.List.{All}
use Rattle.boxcar.specs.Table.{Shelves}
use Rattle.stripe.specs.Rows.{arguments}
use Rattle.registry.specs.Ids.{IsOf, class_of}
use Rattle.invokeall.specs.Jobs.{IsCallable, calls_of}
use Rattle.invokeall.specs.Collected.{invocations}
use Rattle.invokeall.proofs.all.jobs_for.Given as goal

abbrev pub invariant-loop-key : goal.invariant-loop-key
invariant-loop-key l = record {
  calls : calls_of l.jobs.items ++ invocations (class_of l.class) (arguments l.args) (drop l.key-index l.keys) ≡ invocations (class_of l.class) (arguments l.args) l.keys;
  callable : (registry : Shelves) → IsOf registry l.class → All (IsCallable registry) l.jobs.items;
  room : length l.jobs.items + length (drop l.key-index l.keys) ≤ vec_capacity l.jobs;
}
