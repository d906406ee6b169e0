use Rattle.std.proofs.Common.{rules, of_calls}
use Rattle.std.proofs.lemmas.Fn.{always_returns_same}
use Rattle.table_loader.specs.declared.table.Pair.{Pair}
use Rattle.table_loader.proofs.Kept.{kept}
use Rattle.table_loader.proofs.table.Table.of.Goals as goal

pub invariant_of-result : goal.invariant_of-result
invariant_of-result c = c.in_ok-sort_by_key.ensures.sorted (λ (p : Pair). p.key) (always_returns_same _ _ _ (λ a r f k. search (rules, of_calls)))

pub returns : goal.returns
returns c = kept c.args.rows.items c.sort_by_key.new.self.items (c.sort_by_key.ensures.stable (λ (p : Pair). p.key) (always_returns_same _ _ _ (λ a r f k. search (rules, of_calls))))
