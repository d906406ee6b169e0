use Rattle.std.proofs.Common.{◌≡◌}
use Rattle.std.specs.Vec.Iter.{into_iter_items}
use Rattle.invokeall.specs.Buffers.{put_all, entries_of}
use Rattle.invokeall.proofs.buffers.collect.Given as goal

abbrev pub invariant-loop-row : goal.invariant-loop-row
invariant-loop-row l = put_all l.answers (entries_of (into_iter_items l.row-iterator)) ≡ put_all l.initial.answers (entries_of (into_iter_items l.initial.row-iterator))
