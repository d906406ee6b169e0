use Rattle.std.proofs.Common.{◌≡◌, drop, map}
use Rattle.jtypes.specs.Arithmetic as arithmetic
use Rattle.unrolled.specs.Known as spec
use Rattle.search.proofs.comparisons.row_answers.Given as goal

abbrev pub invariant-loop-b : goal.invariant-loop-b
invariant-loop-b l =
    spec.all_are l.answer (map (arithmetic.compare l.comparison l.a) l.bs) ≡ spec.all_are l.answer (map (arithmetic.compare l.comparison l.a) (drop l.b-index l.bs))
