use Rattle.std.proofs.Common.{◌≡◌, ◌++◌, length}
use Rattle.world.specs.Room.{AreReturning, back_of}
use Rattle.world.proofs.room.give_back.Given as goal

abbrev pub invariant-loop-seat : goal.invariant-loop-seat
invariant-loop-seat l =
    (l.yielded ++ l.seat-iterator.rest.items ≡ l.fn.seats.items) × (l.rest ≡ back_of (length l.fn.seats.items) l.yielded) × AreReturning (length l.fn.seats.items) l.fn.seats.items
