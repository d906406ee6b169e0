use Rattle.std.proofs.Common.{◌≡◌, length}
use Rattle.std.specs.List.{All}
use Rattle.boxcar.specs.Table.{Shelves}
use Rattle.registry.specs.Ids.{IsOf}
use Rattle.invokeall.specs.Jobs.{IsCallable}
use Rattle.test_no_memory.proofs.rounds.jobs_for.Given as goal

abbrev pub invariant-loop-place : goal.invariant-loop-place
invariant-loop-place l = ((registry : Shelves) → IsOf registry l.class → All (IsCallable registry) l.jobs.items) × (length l.jobs.items ≡ l.place)
