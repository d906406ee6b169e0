use Rattle.std.proofs.Common.{◌≡◌, ◌-◌}
use Rattle.jtypes.specs.Layout.{first, many}
use Rattle.jtypes.proofs.Many.{with_front}
use Rattle.table_loader.specs.Rows.{pair}
use Rattle.table_loader.proofs.file.read_rows.Given as goal

abbrev pub invariant-loop : goal.invariant-loop
invariant-loop l = with_front l.rows.items (first (many (l.count - l.counter) pair) l.cursor) ≡ first (many l.count pair) l.fn.cursor
