use Rattle.std.proofs.Common.{◌≡◌}
use Rattle.test_cache.proofs.threads.put_and_get.Given as goal

abbrev pub invariant-loop-value : goal.invariant-loop-value
invariant-loop-value g l = (l.seat.table ≡ l.initial.seat.table) × (l.seat.caller ≡ l.initial.seat.caller) × (l.seat.made ≡ l.initial.seat.made)
