use Rattle.std.proofs.Common.{◌≡◌, ◌++◌, [], ◌∷◌}
use Rattle.std.specs.Vec.Iter.{into_iter_items}
use Rattle.claims.specs.Inside.{view_of}
use Rattle.claims.proofs.ends.join_all.Given as goal

abbrev pub invariant-loop-claimer : goal.invariant-loop-claimer
invariant-loop-claimer l =
    (l.yielded ++ into_iter_items l.claimer-iterator ≡ into_iter_items l.initial.claimer-iterator) × (l.place.table_id ≡ l.initial.place.table_id)
    × (l.place.me ≡ (view_of l.board.key (l.fn.first ∷ l.yielded), []))
