use Rattle.bounds.proofs.CellsFilled.{size_is}
use Rattle.bounds.proofs.costs.size_of.Goals as goal

pub returns-in-Some : goal.returns-in-Some
returns-in-Some c = size_is c.args.code.now c.as_slice.result.now c.in-Some.p.now c.saturating_add.result c.as_slice.ensures.value c.as_slice.ensures.rising c.in-Some.ensures.value c.saturating_add.ensures
