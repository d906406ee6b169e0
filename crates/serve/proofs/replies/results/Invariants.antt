use Rattle.std.proofs.Common.{◌≡◌, ◌++◌, drop, map}
use Rattle.invokeall.specs.Rounds.{reply_of}
use Rattle.serve.specs.Rounds.{all_listed}
use Rattle.serve.proofs.replies.results.Given as goal

abbrev pub invariant-loop-i : goal.invariant-loop-i
invariant-loop-i l = l.list.items ++ all_listed (drop l.i (map reply_of l.answers)) (drop l.i l.keys) ≡ all_listed (map reply_of l.answers) l.keys
