use Rattle.std.proofs.Common.{◌≤◌, vec_capacity}
use Rattle.stripe.specs.Room.{AreEmpty}
use Rattle.stripe.proofs.tables.empty_histories.Given as goal

abbrev pub invariant-loop : goal.invariant-loop
invariant-loop l = AreEmpty l.counter l.journal l.histories.items × (l.stripes ≤ vec_capacity l.histories)
