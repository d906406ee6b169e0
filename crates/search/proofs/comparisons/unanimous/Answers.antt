use Rattle.std.proofs.Common.{◌∙◌, sym}
use Rattle.search.proofs.Pairs.{none_answered}
use Rattle.search.proofs.comparisons.unanimous.Goals as goal

pub returns-in_err-b : goal.returns-in_err-b
returns-in_err-b c = c.from_residual-in_err-b.ensures ∙ none_answered c.args.comparison c.args.left.now c.args.right.now (sym c.in_err-b.ensures.value)
