use Rattle.std.proofs.Common.{sym}
use Rattle.std.proofs.lemmas.Result.{err_from_is_err_and}
use Rattle.constpool.proofs.Params.{signature_fails}
use Rattle.constpool.proofs.parsing.read_signature.Goals as goal

pub returns-in_err-result : goal.returns-in_err-result
returns-in_err-result c =
    let p = err_from_is_err_and c.from_residual-in_err-result.result c.from_residual-in_err-result.ensures.1 in
    rw (p.1, p.2) (signature_fails c.in_err-result.field-0.0 c.args.bytes.now c.in-Some.rest.now c.in_ok-params.rest.now _ (sym c.in-Some.ensures) c.in_ok-params.ensures c.in_err-result.ensures)
