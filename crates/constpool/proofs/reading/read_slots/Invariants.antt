use Rattle.std.proofs.Common.{◌≡◌, ◌-◌, false}
use Rattle.jtypes.specs.Layout.{first}
use Rattle.jtypes.proofs.Many.{with_front}
use Rattle.constpool.specs.Pool.{slots}
use Rattle.constpool.proofs.reading.read_slots.Given as goal

abbrev pub invariant-loop : goal.invariant-loop
invariant-loop l = with_front l.slots.items (first (slots (l.count - l.counter) l.second) l.cursor) ≡ first (slots l.count false) l.fn.cursor
