use Rattle.std.proofs.Common.{◌≡◌, ◌++◌, length}
use Rattle.search.specs.Orders.{AreBelow}
use Rattle.loop_bounds.specs.Found.{points_seen, IsFound, Grows}
use Rattle.loop_bounds.specs.Graphs.{AreLinked}
use Rattle.loop_bounds.proofs.found.note_all.Given as goal

abbrev pub invariant-loop-k : goal.invariant-loop-k
invariant-loop-k l = record {
  rest : l.yielded ++ l.k-iterator.rest.items ≡ l.fn.ks.items;
  found : IsFound l.found;
  grows : Grows l.initial.found.points.items l.found.points.items (points_seen l.fn.ks.items);
  linked : AreLinked (points_seen l.found.points.items) l.numbers.items (points_seen l.yielded);
  below : AreBelow (length l.found.points.items) l.numbers.items;
}
