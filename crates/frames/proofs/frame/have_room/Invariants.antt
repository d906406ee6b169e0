use Rattle.std.proofs.Common.{◌≡◌, ◌+◌, ◌≤◌, drop}
use Rattle.frames.proofs.Room.{slots}
use Rattle.frames.proofs.frame.have_room.Given as goal

abbrev pub invariant-loop-t : goal.invariant-loop-t
invariant-loop-t l = record {
  rest : slots (drop l.t-index l.types) + l.slots ≡ slots l.types + l.left;
  within : l.left ≤ l.slots;
}
