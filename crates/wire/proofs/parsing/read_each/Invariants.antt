-- The arguments read so far and those still to read are the result of the whole layout.
use Rattle.std.proofs.Common.{◌≡◌, ◌-◌}
use Rattle.jtypes.specs.Layout.{first, many}
use Rattle.jtypes.proofs.Many.{with_front}
use Rattle.wire.specs.Bodies.{argument}
use Rattle.wire.proofs.parsing.read_each.Given as goal

abbrev pub invariant-loop : goal.invariant-loop
invariant-loop l = with_front l.args.items (first (many (l.count - l.counter) argument) l.cursor) ≡ first (many l.count argument) l.fn.cursor
