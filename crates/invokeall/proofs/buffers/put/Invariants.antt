use Rattle.std.proofs.Common.{◌≡◌, drop}
use Rattle.invokeall.specs.Buffers.{put_all}
use Rattle.invokeall.proofs.buffers.put.Given as goal

abbrev pub invariant-loop-number : goal.invariant-loop-number
invariant-loop-number l = put_all l.answers (drop l.number-index l.row) ≡ put_all l.initial.answers l.row
