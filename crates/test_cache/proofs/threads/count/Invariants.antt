use Rattle.std.proofs.Common.{◌≡◌}
use Rattle.test_cache.proofs.threads.count.Given as goal

abbrev pub invariant-loop : goal.invariant-loop
invariant-loop g l = (l.seat.table ≡ l.initial.seat.table) × (l.seat.caller ≡ l.initial.seat.caller) × (l.seat.made ≡ l.initial.seat.made)
