use Rattle.std.proofs.Common.{◌≡◌, ◌≤◌, vec_capacity}
use Rattle.std.specs.Prelude.{replicate}
use Rattle.std.specs.FinMap as map
use Rattle.stripe.proofs.tables.empty_tables.Given as goal

abbrev pub invariant-loop : goal.invariant-loop
invariant-loop l = (l.tables.items ≡ replicate l.counter map.empty) × (l.stripes ≤ vec_capacity l.tables)
