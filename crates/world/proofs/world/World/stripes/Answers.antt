use Rattle.std.proofs.Common.{length, ap, ◌∙◌}
use Rattle.world.specs.World.{World}
use Rattle.world.proofs.Places.{seen, over}
use Rattle.world.proofs.world.World.stripes.Goals as goal

pub returns : goal.returns
returns g c = c.len.ensures ∙ c.self.inside.seats.ok.0 ∙ c.self.invariant.steady.same ∙ ap (λ (w : World). length w.opening) (seen c.self.view_is)
