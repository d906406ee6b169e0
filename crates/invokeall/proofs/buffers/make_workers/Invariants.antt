use Rattle.std.proofs.Common.{◌≡◌, ◌+◌, ◌≤◌, ◌++◌, length, vec_capacity}
use Rattle.std.specs.Vec.Iter.{into_iter_items}
use Rattle.invokeall.specs.Buffers.{seats_of, claimers_of, rows_of}
use Rattle.invokeall.proofs.buffers.make_workers.Given as goal

abbrev pub invariant-loop-seat : goal.invariant-loop-seat
invariant-loop-seat l = record {
  seats : seats_of l.workers.items ++ into_iter_items l.seat-iterator ≡ into_iter_items l.initial.seat-iterator;
  claimed : claimers_of l.workers.items ++ l.claimers.items ≡ l.initial.claimers.items;
  listed : rows_of l.workers.items ++ l.lists.items ≡ l.initial.lists.items;
  workspaces : length l.workspaces.items ≡ length (into_iter_items l.seat-iterator);
  claimers : length l.claimers.items ≡ length (into_iter_items l.seat-iterator);
  lists : length l.lists.items ≡ length (into_iter_items l.seat-iterator);
  room : length l.workers.items + length (into_iter_items l.seat-iterator) ≤ vec_capacity l.workers;
}
