use Rattle.std.proofs.Common.{IsTrue, sym, subst}
use Rattle.world.specs.World.{World}
use Rattle.world.specs.Seated.{AreIdle}
use Rattle.world.specs.Refused.{NoneRuns}
use Rattle.world.specs.Inside.{parts}
use Rattle.world.proofs.Opening.{idle_none, none_idle}
use Rattle.world.proofs.Places.{seen, over}
use Rattle.world.proofs.world.World.is_idle.Goals as goal

pub returns : goal.returns
returns g c =
    let p = parts g.L.Loader.ASKS c.self.inside in
    subst (λ (w : World). (IsTrue c.are_idle.result → NoneRuns w) × (NoneRuns w → IsTrue c.are_idle.result)) (seen c.self.view_is) (
      λ t. idle_none p (subst AreIdle c.deref.ensures.value (c.are_idle.ensures.0 t)),
      λ n. c.are_idle.ensures.1 (subst AreIdle (sym c.deref.ensures.value) (none_idle p n)),
    )
