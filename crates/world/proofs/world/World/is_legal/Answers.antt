use Rattle.std.proofs.Common.{subst, refl}
use Rattle.stripe.specs.History.{AreGiven}
use Rattle.world.specs.World.{World, entries_now}
use Rattle.world.specs.Lawful.{IsLawful}
use Rattle.world.specs.Inside.{parts, world_of}
use Rattle.world.proofs.Lawful.{is_lawful}
use Rattle.world.proofs.Places.{seen, over}
use Rattle.world.proofs.world.World.is_legal.Goals as goal

pub returns-clause-lawful : goal.returns-clause-lawful
returns-clause-lawful g c =
    let w = world_of (parts g.L.Loader.ASKS c.self.inside) in
    subst (λ (w : World). IsLawful g.L.Loader.ASKS w.opening w.finished (entries_now w)) (seen c.self.view_is) (is_lawful g.L.Loader.ASKS w.opening w.finished (entries_now w) c.self.invariant.steady.legal (λ k. refl))

pub returns-clause-given : goal.returns-clause-given
returns-clause-given g c = over (λ l w. AreGiven (g.L.Loader.gives l) w.finished) c.self.view_is c.self.invariant.given.finished
