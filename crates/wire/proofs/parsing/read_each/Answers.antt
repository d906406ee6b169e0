use Rattle.std.proofs.Common.{◌≡◌, ◌++◌, ◌∷◌, [], arith, rules}
use Rattle.std.proofs.lemmas.Result.{err_from_is_err_and}
use Rattle.jtypes.proofs.Many.{goes_on, ends, is_done}
use Rattle.wire.specs.Bodies.{argument}
use Rattle.wire.proofs.parsing.read_each.Goals as goal

pub returns-in_err-arg : goal.returns-in_err-arg
returns-in_err-arg c =
    let p = err_from_is_err_and c.from_residual.result c.from_residual.ensures.1 in
    rw (p.1, p.2) (ends argument c.in_err-arg.field-0.0 c.loop.args.items c.args.count c.loop.counter c.loop.cursor _ c.loop-test.true c.in_err-arg.ensures c.loop.invariant)

pub loop-preserved : goal.loop-preserved
loop-preserved c =
    let more : c.push.new.self.items ≡ c.loop.args.items ++ c.in_ok-arg.arg ∷ [] = search rules in
    rw more (goes_on argument c.loop.args.items c.args.count c.loop.counter c.loop.cursor c.in_ok-arg.arg c.read_arg.new.cursor _ c.loop-test.true c.in_ok-arg.ensures c.loop.invariant)

pub returns : goal.returns
returns c =
    let same : c.loop.counter ≡ c.args.count = omega (arith, c.loop-test.false, c.loop.auto.counter-end) in
    is_done argument c.loop.args.items c.args.count c.loop.counter c.loop.cursor _ (omega (arith, same)) c.loop.invariant
