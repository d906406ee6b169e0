use Rattle.table_loader.proofs.Lengths.{not_whole, whole_rows}
use Rattle.table_loader.proofs.file.rows_of.Goals as goal

pub returns-then-count-bytes-clause-none : goal.returns-then-count-bytes-clause-none
returns-then-count-bytes-clause-none c _ rows are = not_whole c.args.bytes.now rows c.if-count-bytes.true are

pub returns-in-Ok-clause-some : goal.returns-in-Ok-clause-some
returns-in-Ok-clause-some c = whole_rows _ c.args.bytes.now c.in-Ok.rows.items _ c.if-count-bytes.false (rw c.new-cursor.ensures at c.in-Ok.ensures)
