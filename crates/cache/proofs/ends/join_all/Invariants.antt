use Rattle.std.proofs.Common.{◌≡◌, ◌≤◌, ◌++◌, [], ◌∷◌, vec_capacity}
use Rattle.std.specs.Vec.Iter.{into_iter_items}
use Rattle.cache.specs.Opened.{view_of}
use Rattle.cache.specs.Closing.{receipts_seen, receipts_in}
use Rattle.cache.proofs.ends.join_all.Given as goal

abbrev pub invariant-loop-seat : goal.invariant-loop-seat
invariant-loop-seat g l =
    (l.yielded ++ into_iter_items l.seat-iterator ≡ into_iter_items l.initial.seat-iterator) × (l.pass.table_id ≡ l.initial.pass.table_id)
    × (l.pass.me ≡ (view_of l.fn.first.made (l.fn.first ∷ l.yielded), [])) × (receipts_seen l.lists.items ≡ receipts_in (l.fn.first ∷ l.yielded)) × (vec_capacity l.initial.lists ≤ vec_capacity l.lists)
