-- The bytes stored so far were consumed, and no read failed.
use Rattle.std.proofs.Common.{◌≡◌, ◌≤◌, ◌-◌, length, take}
use Rattle.wire.specs.Counting.{StaysCounted}
use Rattle.wire.specs.Reading.{Took}
use Rattle.wire.proofs.reading.fill.Given as goal

abbrev pub invariant-loop-at : goal.invariant-loop-at
invariant-loop-at g l = record {
  long : length l.buf ≡ length l.initial.buf;
  within : l.at ≤ length l.buf;
  took : Took g.R.Read.remaining l.initial.reader l.reader (take l.at l.buf);
  kept : StaysCounted l.initial.reader l.reader;
}

abbrev pub decreases-loop-at : goal.decreases-loop-at
decreases-loop-at g l = length l.buf - l.at
