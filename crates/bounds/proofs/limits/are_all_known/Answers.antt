use Rattle.std.proofs.Common.{sym, ◌∙◌}
use Rattle.bounds.proofs.Circles.{none_is}
use Rattle.bounds.proofs.limits.are_all_known.Goals as goal

pub returns-then-is_none-clause-one : goal.returns-then-is_none-clause-one
returns-then-is_none-clause-one c = λ f. (c.loop-method.method-index, c.method-item.result, c.loop-method-test.true, c.method-item.is, sym c.known_at.ensures ∙ none_is c.known_at.result c.if-is_none.ensures)
