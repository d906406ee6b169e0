use Rattle.std.proofs.Common.{◌≡◌, drop, fold}
use Rattle.invokeall.specs.Collected.{with_key, different}
use Rattle.serve.proofs.batch.once_each.Given as goal

abbrev pub invariant-loop-key : goal.invariant-loop-key
invariant-loop-key l = fold with_key l.set.keys (drop l.key-index l.keys) ≡ different l.keys
