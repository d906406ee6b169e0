use Rattle.unrolled.proofs.Greatest.{tables_are_bounds, each_has_table}
use Rattle.unrolled.proofs.laws.tables_are_bounds.Goals as goal

pub returns-clause-bounds : goal.returns-clause-bounds
returns-clause-bounds c = tables_are_bounds

pub returns-clause-table : goal.returns-clause-table
returns-clause-table c = each_has_table
