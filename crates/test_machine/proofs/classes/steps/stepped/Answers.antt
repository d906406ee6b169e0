use Rattle.std.proofs.Common.{ap, ◌∙◌}
use Rattle.verdict.specs.Machine.{Invocation}
use Rattle.test_machine.proofs.classes.steps.stepped.Goals as goal

pub loop-count-preserved : goal.loop-count-preserved
loop-count-preserved c =
    let now = c.loop-count.invariant in
    let (a, t, goes, same, running) = c.in-Going.ensures.follows now.0 now.1 in
    (t, (running, ap (λ (i : Invocation). i.loads) same ∙ now.1.1))
