use Rattle.std.proofs.Common.{◌≡◌, drop}
use Rattle.unrolled.specs.Known as spec
use Rattle.search.proofs.comparisons.all_answer.Given as goal

abbrev pub invariant-loop-a : goal.invariant-loop-a
invariant-loop-a l =
    spec.all_are l.answer (spec.answers l.comparison l.left l.right) ≡ spec.all_are l.answer (spec.answers l.comparison (drop l.a-index l.left) l.right)
