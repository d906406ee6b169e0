use Rattle.std.proofs.Common.{◌≡◌, drop}
use Rattle.bounds.specs.Rows.{are_known}
use Rattle.bounds.proofs.costs.is_ready.Given as goal

abbrev pub invariant-loop-called : goal.invariant-loop-called
invariant-loop-called l = are_known l.known l.method.calls.items ≡ are_known l.known (drop l.called-index l.method.calls.items)
