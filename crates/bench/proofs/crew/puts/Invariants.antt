use Rattle.std.proofs.Common.{◌≡◌}
use Rattle.bench.proofs.crew.puts.Given as goal

abbrev pub invariant-loop-key : goal.invariant-loop-key
invariant-loop-key g l = (l.seat.table ≡ l.initial.seat.table) × (l.seat.caller ≡ l.initial.seat.caller) × (l.seat.made ≡ l.initial.seat.made)
