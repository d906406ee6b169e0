use Rattle.std.proofs.Common.{◌≡◌, Option, None, IsTrue, ap, subst}
use Rattle.world.specs.World.{Running}
use Rattle.world.specs.Seated.{Seated}
use Rattle.world.proofs.Seats.{idle_open}
use Rattle.world.proofs.seat.Seat.is_idle.Goals as goal

pub returns : goal.returns
returns c =
    let t = c.is_none.result in
    subst (λ (r : Option Running). (IsTrue t → r ≡ None) × (r ≡ None → IsTrue t)) (ap (λ (x : Seated). x.running) c.self.view_is)
    (idle_open c.self.inside.stripe c.self.inside.workspace c.self.inside.done c.self.inside.asked c.self.invariant t c.open.result c.is_none.ensures c.open.ensures.running)
