use Rattle.std.proofs.Common.{List, Option, length, subst}
use Rattle.bounds.specs.Cells.{Cell}
use Rattle.explain.specs.Listed.{AreListed}
use Rattle.explain.proofs.Listing.{costs_listed}
use Rattle.explain.proofs.explained.costs_of.Goals as goal

pub returns-clause-ok : goal.returns-clause-ok
returns-clause-ok c =
    let rows = c.args.methods.now in
    let costs = c.in_ok-listed.field-0.items in
    costs_listed rows c.in_ok-known.known.items costs c.in_ok-known.ensures.costs (subst (λ (k : List (Option Cell)). AreListed rows k (length rows) costs) c.deref.ensures.value c.in_ok-listed.ensures)
