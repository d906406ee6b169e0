use Rattle.verdict.proofs.Methods.{method_judged}
use Rattle.verdict.proofs.shape.judge_method.Goals as goal

pub returns : goal.returns
returns c = method_judged c.args.class.now.pool c.args.class.now.parts c.args.method.now c.in_ok-slots.slots c.judge_code.result c.in_ok-slots.ensures c.judge_code.ensures
