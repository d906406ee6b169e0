use Rattle.std.proofs.Common.{rules, of_calls, int_le}
use Rattle.std.proofs.lemmas.Fn.{always_returns_same}
use Rattle.table_loader.proofs.Ordered.{partitioned}
use Rattle.table_loader.proofs.table.count_to.Goals as goal

pub returns-clause-point : goal.returns-clause-point
returns-clause-point c =
    c.partition_point.ensures.partitioned (λ p. int_le p.key c.args.key) (always_returns_same _ _ _ (λ a r f k. search (rules, of_calls)))
    (partitioned c.args.rows.now c.requires c.args.key)
