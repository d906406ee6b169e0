use Rattle.std.proofs.Common.{◌≡◌, ◌+◌, ◌≤◌, ◌++◌, length, vec_capacity}
use Rattle.std.specs.Vec.Iter.{into_iter_items}
use Rattle.invokeall.specs.Buffers.{seats_of, claimers_of, rows_of}
use Rattle.invokeall.proofs.buffers.into_parts.Given as goal

abbrev pub invariant-loop-worker : goal.invariant-loop-worker
invariant-loop-worker l = record {
  rest : l.yielded ++ into_iter_items l.worker-iterator ≡ into_iter_items l.initial.worker-iterator;
  seats : l.seats.items ≡ seats_of l.yielded;
  workspaces : length l.workspaces.items ≡ length l.yielded;
  claimers : l.claimers.items ≡ claimers_of l.yielded;
  rows : l.rows.items ≡ rows_of l.yielded;
  seat_room : length l.yielded + length (into_iter_items l.worker-iterator) ≤ vec_capacity l.seats;
  space_room : length l.yielded + length (into_iter_items l.worker-iterator) ≤ vec_capacity l.workspaces;
  claimer_room : length l.yielded + length (into_iter_items l.worker-iterator) ≤ vec_capacity l.claimers;
  row_room : length l.yielded + length (into_iter_items l.worker-iterator) ≤ vec_capacity l.rows;
}
