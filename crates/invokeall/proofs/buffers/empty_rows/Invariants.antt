use Rattle.std.proofs.Common.{◌≡◌, length}
use Rattle.std.specs.List.{All}
use Rattle.invokeall.specs.Buffers.{HasRoom}
use Rattle.invokeall.proofs.buffers.empty_rows.Given as goal

abbrev pub invariant-loop : goal.invariant-loop
invariant-loop l = (length l.rows.items ≡ l.counter) × All (HasRoom l.jobs) l.rows.items
