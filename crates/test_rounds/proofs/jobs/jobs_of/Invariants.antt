use Rattle.std.specs.List.{All}
use Rattle.boxcar.specs.Table.{Shelves}
use Rattle.registry.specs.Ids.{IsOf}
use Rattle.invokeall.specs.Jobs.{IsCallable}
use Rattle.test_rounds.proofs.jobs.jobs_of.Given as goal

abbrev pub invariant-loop-ask : goal.invariant-loop-ask
invariant-loop-ask l = (registry : Shelves) → IsOf registry l.class → All (IsCallable registry) l.jobs.items
