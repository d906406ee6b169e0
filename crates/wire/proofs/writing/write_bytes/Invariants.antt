-- The bytes removed from `rest` were appended, and no call failed.
use Rattle.std.proofs.Common.{◌≡◌, ℕ, List, ◌++◌, length}
use Rattle.std.specs.Io.KnownBytes.{Appends}
use Rattle.wire.specs.Counting.{StaysCounted}
use Rattle.wire.proofs.writing.write_bytes.Given as goal

abbrev pub invariant-loop-rest : goal.invariant-loop-rest
invariant-loop-rest g l = record {
  gone : List ℕ;
  split : l.initial.rest ≡ gone ++ l.rest;
  appended : Appends (g.W.Write.contents l.initial.writer.inner) (g.W.Write.contents l.writer.inner) gone;
  kept : StaysCounted l.initial.writer l.writer;
}

abbrev pub decreases-loop-rest : goal.decreases-loop-rest
decreases-loop-rest g l = length l.rest
