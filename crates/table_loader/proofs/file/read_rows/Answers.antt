use Rattle.std.proofs.lemmas.Result.{err_from_is_err_and}
use Rattle.jtypes.proofs.Many.{goes_on, ends, is_done}
use Rattle.table_loader.specs.Rows.{pair}
use Rattle.table_loader.proofs.file.read_rows.Goals as goal

pub returns-in_err-one : goal.returns-in_err-one
returns-in_err-one c =
    let p = err_from_is_err_and c.from_residual.result c.from_residual.ensures.1 in
    rw (p.1, p.2) (ends pair c.in_err-one.field-0.0 c.loop.rows.items c.args.count c.loop.counter c.loop.cursor _ c.loop-test.true c.in_err-one.ensures c.loop.invariant)

pub loop-preserved : goal.loop-preserved
loop-preserved c =
    rw c.in_ok-push.ensures.items (goes_on pair c.loop.rows.items c.args.count c.loop.counter c.loop.cursor c.in_ok-one.one c.read_pair.new.cursor _ c.loop-test.true c.in_ok-one.ensures c.loop.invariant)

pub returns : goal.returns
returns c = is_done pair c.loop.rows.items c.args.count c.loop.counter c.loop.cursor _ c.loop-test.false c.loop.invariant
