use Rattle.std.proofs.Common.{◌∙◌}
use Rattle.bounds.proofs.CellsOfTables.{cost_is}
use Rattle.bounds.proofs.costs.greatest.Goals as goal

pub returns : goal.returns
returns c =
    let list = c.as_slice-code in
    cost_is c.args.method.now c.args.known.now list.result.now c.deref-2.result.now c.loop-left.left c.cost_at.result list.ensures.value list.ensures.rising c.loop-left-test.false (λ r. c.deref-2.ensures.value ∙ c.loop-left.invariant.1 r) c.cost_at.ensures
