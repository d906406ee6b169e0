use Rattle.std.proofs.Common.{arith, ◌≡◌, get_or, pos, map}
use Rattle.std.proofs.lemmas.Grind.{common_steps}
use Rattle.jtypes.specs.Arithmetic.{compare}
use Rattle.unrolled.specs.Known.{all_are}
use Rattle.search.proofs.Pairs.{all_stops, all_goes_on}
use Rattle.search.proofs.comparisons.all_answer.Goals as goal

pub returns-then-not-row_answers : goal.returns-then-not-row_answers
returns-then-not-row_answers c =
    let e : c.row_answers.result ≡ all_are c.args.answer (map (compare c.args.comparison (get_or c.args.left.now c.loop-a.a-index (pos 0))) c.args.right.now) = grind (arith, common_steps) in
    all_stops c.args.comparison c.args.answer c.row_answers.result _ c.args.left.now c.args.right.now c.loop-a.a-index _ c.loop-a-test.true e c.if-not-row_answers.true c.loop-a.invariant

pub loop-a-preserved : goal.loop-a-preserved
loop-a-preserved c =
    let e : c.row_answers.result ≡ all_are c.args.answer (map (compare c.args.comparison (get_or c.args.left.now c.loop-a.a-index (pos 0))) c.args.right.now) = grind (arith, common_steps) in
    all_goes_on c.args.comparison c.args.answer c.row_answers.result _ c.args.left.now c.args.right.now c.loop-a.a-index _ c.loop-a-test.true e c.if-not-row_answers.false c.loop-a.invariant
