use Rattle.verdict.specs.Shaping.{HasGoodMethod}
use Rattle.verdict.proofs.Methods.{zip_goes_on}
use Rattle.verdict.proofs.shape.judge_methods.Goals as goal

pub loop-method-preserved : goal.loop-method-preserved
loop-method-preserved c =
    rw c.in_ok-push.ensures.items (zip_goes_on (HasGoodMethod c.args.class.now.pool c.args.class.now.parts) c.args.methods.now c.loop-method.method-index c.method-item.result c.loop-method.codes.items c.in_ok-parts.parts c.loop-method-test.true c.method-item.is c.loop-method.invariant c.in_ok-parts.ensures)
