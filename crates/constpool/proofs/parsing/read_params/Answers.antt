use Rattle.std.proofs.Common.{arith, sym, suc, length, ◌-◌, ◌≡◌, ◌++◌, ◌∷◌, [], length-append}
use Rattle.std.proofs.lemmas.Result.{err_from_is_err_and}
use Rattle.constpool.proofs.Params.{goes_on, ends, is_closed, is_cut, shorter, parsed_ok, not_empty, empty}
use Rattle.constpool.proofs.parsing.read_params.Goals as goal

pub returns-in-Some : goal.returns-in-Some
returns-in-Some c = rw c.new.ensures (is_closed c.loop-rest.params.items _ c.loop-rest.rest.now c.in-Some.after.now _ (sym c.in-Some.ensures) c.loop-rest.invariant)

pub returns-in_err-param : goal.returns-in_err-param
returns-in_err-param c =
    let p = err_from_is_err_and c.from_residual.result c.from_residual.ensures.1 in
    let n = not_empty c.loop-rest.rest.now c.is_empty.result c.is_empty.ensures c.loop-rest-test.true in
    rw (p.1, p.2) (ends c.in_err-param.field-0.0 c.loop-rest.params.items _ c.loop-rest.rest.now _ (sym c.in_default.ensures) n c.in_err-param.ensures c.loop-rest.invariant)

pub loop-rest-smaller : goal.loop-rest-smaller
loop-rest-smaller c = shorter c.loop-rest.rest.now c.in_ok-param.after.now c.in_ok-param.param (parsed_ok _ _ c.in_ok-param.ensures)

pub loop-rest-preserved : goal.loop-rest-preserved
loop-rest-preserved c =
    let n = not_empty c.loop-rest.rest.now c.is_empty.result c.is_empty.ensures c.loop-rest-test.true in
    let k : suc (length c.args.bytes.now - length (c.loop-rest.params.items ++ c.in_ok-param.param ∷ [])) ≡ length c.args.bytes.now - length c.loop-rest.params.items = omega (arith, n, c.loop-rest.invariant.0, length-append c.loop-rest.params.items (c.in_ok-param.param ∷ [])) in
    rw c.in_ok-push.ensures.items (goes_on c.loop-rest.params.items _ _ c.loop-rest.rest.now c.in_ok-param.after.now c.in_ok-param.param _ (sym c.in_default.ensures) n c.in_ok-param.ensures k c.loop-rest.invariant)

pub returns : goal.returns
returns c =
    let none = empty c.loop-rest.rest.now c.is_empty.result c.is_empty.ensures c.loop-rest-test.false in
    is_cut c.loop-rest.params.items _ c.loop-rest.rest.now _ none c.loop-rest.invariant
