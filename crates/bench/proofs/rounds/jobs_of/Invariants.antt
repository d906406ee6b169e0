use Rattle.std.proofs.Common.{◌≡◌, length}
use Rattle.std.specs.List.{All}
use Rattle.boxcar.specs.Table.{Shelves}
use Rattle.registry.specs.Ids.{IsOf}
use Rattle.invokeall.specs.Jobs.{IsCallable}
use Rattle.bench.proofs.rounds.jobs_of.Given as goal

abbrev pub invariant-loop-key : goal.invariant-loop-key
invariant-loop-key l = (length l.jobs.items ≡ l.key) × ((registry : Shelves) → IsOf registry l.class → All (IsCallable registry) l.jobs.items)
