use Rattle.std.proofs.Common.{sym, ◌∙◌}
use Rattle.verdict.specs.Shape.{is_constructor}
use Rattle.verdict.proofs.OnlyOne.{two_found, one_found, none_found}
use Rattle.verdict.proofs.shape.only_constructor.Goals as goal
use Rattle.verdict.proofs.shape.only_constructor.Goals.{then-is_constructor+else-is_some, else-is_constructor}

pub returns-then-is_some : goal.returns-then-is_some
returns-then-is_some c =
    two_found (is_constructor c.args.class.now.pool) c.args.methods.now c.loop-number.number c.index-methods-number.result c.loop-number.found c.loop-number-test.true c.index-methods-number.is (sym c.is_constructor.ensures ∙ c.if-is_constructor.true) (sym c.is_some.ensures ∙ c.if-is_some.true) c.loop-number.invariant

pub loop-number-preserved : goal.loop-number-preserved
loop-number-preserved c = elim c.if-is_constructor.branch [
  | then-is_constructor+else-is_some w ↦ rw w.found-is (one_found (is_constructor c.args.class.now.pool) c.args.methods.now c.loop-number.number c.index-methods-number.result c.loop-number.found c.loop-number-test.true c.index-methods-number.is (sym c.is_constructor.ensures ∙ w.if-is_constructor.true) (sym w.is_some.ensures ∙ w.if-is_some.false) c.loop-number.invariant)
  | else-is_constructor w ↦ rw w.found-is (none_found (is_constructor c.args.class.now.pool) c.args.methods.now c.loop-number.number c.index-methods-number.result c.loop-number.found c.loop-number-test.true c.index-methods-number.is (sym c.is_constructor.ensures ∙ w.if-is_constructor.false) c.loop-number.invariant)
]
