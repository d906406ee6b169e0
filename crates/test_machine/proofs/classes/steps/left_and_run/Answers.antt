use Rattle.std.proofs.Common.{false, ap}
use Rattle.verdict.specs.Machine.{Invocation}
use Rattle.test_machine.proofs.classes.steps.left_and_run.Goals as goal

pub stepped-told-requires : goal.stepped-told-requires
stepped-told-requires c =
    let h = c.start.ensures.started false in
    (h.state, (h.running, ap (λ (i : Invocation). i.loads) h.call_is))
