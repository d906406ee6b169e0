use Rattle.std.proofs.Common.{◌++◌, sym, ap, ◌∙◌, append-nil}
use Rattle.stripe.specs.Rows.{arguments}
use Rattle.invokeall.specs.Collected.{invocations}
use Rattle.invokeall.specs.Jobs.{all_seen}
use Rattle.serve.proofs.Plans.{pushed, drop_none}
use Rattle.serve.proofs.batch.push_calls.Goals as goal

pub loop-key-preserved : goal.loop-key-preserved
loop-key-preserved c =
    pushed c.args.class.now (arguments c.args.args) c.loop-key.calls.items c.push.new.self.items c.invocation.result c.args.keys.now c.loop-key.key-index _ _ c.loop-key-test.true c.invocation.ensures c.in_ok-push.ensures.items c.loop-key.invariant

pub returns : goal.returns
returns c =
    let args = arguments c.args.args in
    sym (append-nil (all_seen c.loop-key.calls.items)) ∙ ap (λ l. all_seen c.loop-key.calls.items ++ invocations c.args.class.now args l) (sym (drop_none c.args.keys.now c.loop-key.key-index c.loop-key-test.false)) ∙ c.loop-key.invariant
