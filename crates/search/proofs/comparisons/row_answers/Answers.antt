use Rattle.std.proofs.Common.{arith, ◌≡◌, get_or, pos, w32}
use Rattle.std.proofs.lemmas.Grind.{common_steps}
use Rattle.std.proofs.lemmas.Int.{to_z-of_z}
use Rattle.jtypes.specs.Arithmetic.{compare}
use Rattle.search.proofs.Pairs.{row_stops}
use Rattle.search.proofs.comparisons.row_answers.Goals as goal

pub returns-then-answer-compare : goal.returns-then-answer-compare
returns-then-answer-compare c =
    let e : c.compare.result ≡ compare c.args.comparison c.args.a (get_or c.args.bs.now c.loop-b.b-index (pos 0)) = grind (arith, common_steps) in
    row_stops (compare c.args.comparison c.args.a) c.args.answer _ _ c.args.bs.now c.loop-b.b-index _ c.loop-b-test.true e c.if-answer-compare.true
    (rw (to_z-of_z w32 c.args.a c.ranges.a) at c.loop-b.invariant)
