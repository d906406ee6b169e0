use Rattle.std.proofs.Common.{◌≡◌, length}
use Rattle.bench.proofs.alone.filled.Given as goal

abbrev pub invariant-loop-round : goal.invariant-loop-round
invariant-loop-round g l = length l.tables ≡ 1
