use Rattle.std.proofs.Common.{◌≡◌, length}
use Rattle.bench.proofs.alone.timed_absent.Given as goal

abbrev pub invariant-loop-time : goal.invariant-loop-time
invariant-loop-time g l = length l.tables ≡ 1
