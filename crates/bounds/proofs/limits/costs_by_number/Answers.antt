use Rattle.bounds.proofs.KnownCosts.{told_ok}
use Rattle.bounds.proofs.limits.costs_by_number.Goals as goal

pub returns-clause-costs : goal.returns-clause-costs
returns-clause-costs c = told_ok c.args.methods.now c.costs_of.result c.costs_of.ensures.table c.costs_of.ensures.all
