use Rattle.std.proofs.Common.{◌≡◌, ◌≤◌, ◌++◌, length, vec_capacity, All}
use Rattle.stripe.specs.Stored.{HasValues}
use Rattle.stripe.specs.Tables.{fresh_from}
use Rattle.stripe.specs.Room.{AreEmpty}
use Rattle.stripe.proofs.tables.into_stripes.Given as goal

abbrev pub invariant-loop-table : goal.invariant-loop-table
invariant-loop-table l =
    (l.yielded ++ l.table-iterator.rest.items ≡ l.fn.tables.items) × All HasValues l.table-iterator.rest.items × AreEmpty (length l.table-iterator.rest.items) l.journal l.histories.items
    × (l.stripes.items ≡ fresh_from l.count l.journal 0 l.yielded) × (length l.fn.tables.items ≤ vec_capacity l.stripes)
