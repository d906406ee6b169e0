-- The bytes skipped so far were consumed, and no read failed.
use Rattle.std.proofs.Common.{◌≡◌, ◌+◌, ℕ, List, length}
use Rattle.wire.specs.Counting.{StaysCounted}
use Rattle.wire.specs.Reading.{Took}
use Rattle.wire.proofs.reading.pass_over.Given as goal

abbrev pub invariant-loop-left : goal.invariant-loop-left
invariant-loop-left g l = record {
  row : length l.buf ≡ 512;
  gone : List ℕ;
  passed : length gone + l.left ≡ l.count;
  took : Took g.R.Read.remaining l.initial.reader l.reader gone;
  kept : StaysCounted l.initial.reader l.reader;
}

abbrev pub decreases-loop-left : goal.decreases-loop-left
decreases-loop-left g l = l.left
