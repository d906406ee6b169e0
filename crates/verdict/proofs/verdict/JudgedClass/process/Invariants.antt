use Rattle.std.proofs.Common.{◌≡◌, drop}
use Rattle.verdict.specs.Judged.{process_row}
use Rattle.verdict.proofs.verdict.JudgedClass.process.Given as goal

abbrev pub invariant-loop-row : goal.invariant-loop-row
invariant-loop-row l = process_row l.row-items ≡ process_row (drop l.row-index l.row-items)
