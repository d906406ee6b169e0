use Rattle.std.proofs.Common.{sym}
use Rattle.constpool.proofs.Fronts.{cut_none, cut_some}
use Rattle.constpool.proofs.parsing.before_semicolon.Goals as goal

pub returns-in_err-end : goal.returns-in_err-end
returns-in_err-end c = rw c.from_residual.ensures (cut_none c.args.bytes.now c.semicolon.result c.in_err-end.was c.semicolon.ensures)

pub returns : goal.returns
returns c = sym (cut_some c.args.bytes.now c.semicolon.result c.in_ok-end.end c.in_ok-end.was c.semicolon.ensures)
