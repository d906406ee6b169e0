use Rattle.std.proofs.Common.{ap, ◌∙◌}
use Rattle.world.specs.Seated.{Seated}
use Rattle.world.proofs.Seats.{none_runs}
use Rattle.world.proofs.seat.Seat.into_stripe.Goals as goal

pub returns-clause-idle : goal.returns-clause-idle
returns-clause-idle c e =
    none_runs c.self.inside.stripe c.self.inside.workspace c.self.inside.done c.self.inside.asked c.self.invariant (ap (λ (x : Seated). x.running) c.self.view_is ∙ e)
