use Rattle.std.proofs.Common.{◌≡◌, ◌+◌, ◌-◌, ◌≤◌, [], ℕ, length, vec_capacity}
use mathlib.Core.Option.{some}
use lib.ListN.{get_elem?}
use Rattle.claims.specs.Views.{hand}
use Rattle.claims.specs.Counters.{Share, fresh}
use Rattle.claims.specs.Inside.{numbering}
use Rattle.claims.proofs.ends.cut_all.Given as goal

abbrev pub invariant-loop : goal.invariant-loop
invariant-loop l =
    (l.place.table_id ≡ l.initial.place.table_id) × (l.place.me ≡ (hand l.board.key.jobs l.board.key.workers (l.workers + 1 - l.counter) 0 [], [])) × (length l.list.items + 1 ≡ l.counter) × (vec_capacity l.initial.list ≤ vec_capacity l.list)
    × ((c : ℕ) (s : Share) → get_elem? l.list.items c ≡ some s → s ≡ fresh (numbering l.board.table_id l.board.key))
