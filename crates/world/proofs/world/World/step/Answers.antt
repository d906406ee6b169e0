use Rattle.std.proofs.Common.{arith, ◌≡◌, ◌<◌, Some, vec_len, slice_get, ap, subst, ◌∙◌}
use Rattle.std.proofs.lemmas.Option.{slice_get_read}
use Rattle.world.specs.World.{World, Step}
use Rattle.world.specs.Forward.{turns_left}
use Rattle.world.specs.Refused.{IsApplied}
use Rattle.world.specs.Inside.{parts, world_of, running_on}
use Rattle.world.proofs.Places.{map_get, seen, over}
use Rattle.world.proofs.Steady.{with_seat, running_set, steady_turned, turned_nearer}
use Rattle.world.proofs.Given.{given_at, given_seat}
use Rattle.world.proofs.Applying.{applied_step}
use Rattle.world.proofs.world.World.step.Goals as goal

pub step-requires : goal.step-requires
step-requires g c =
    let p = parts g.L.Loader.ASKS c.self.inside in
    let x = c.index_mut-seat.result.now in
    let there : slice_get p.seats c.args.stripe ≡ Some x = slice_get_read p.seats (vec_len c.self.inside.seats) c.args.stripe x c.self.inside.seats.ok.0 (omega (arith, c.if-stripe-len.false, c.len.ensures)) c.index_mut-seat.ensures.value in
    (c.self.invariant.steady.seats c.args.stripe x there).loads

pub invariant_of-self : goal.invariant_of-self
invariant_of-self g c =
    let p = parts g.L.Loader.ASKS c.self.inside in
    let i = c.args.stripe in
    let x = c.index_mut-seat.result.now in
    let y = c.step.new.self in
    let gives = g.L.Loader.gives c.self.inside.loader.now in
    let there : slice_get p.seats i ≡ Some x = slice_get_read p.seats (vec_len c.self.inside.seats) i x c.self.inside.seats.ok.0 (omega (arith, c.if-stripe-len.false, c.len.ensures)) c.index_mut-seat.ensures.value in
    record {
      steady = steady_turned p c.self.invariant.steady i x y there c.step.ensures.stripe c.step.ensures.turns.0 c.step.ensures.turns.2;
      given = given_seat gives p c.self.invariant.given i x there y p.starts (c.step.ensures.given (given_at gives p c.self.invariant.given i x there));
    }

pub returns-clause-applied : goal.returns-clause-applied
returns-clause-applied g c =
    let p = parts g.L.Loader.ASKS c.self.inside in
    let i = c.args.stripe in
    let x = c.index_mut-seat.result.now in
    let y = c.step.new.self in
    let gives = g.L.Loader.gives c.self.inside.loader.now in
    let there : slice_get p.seats i ≡ Some x = slice_get_read p.seats (vec_len c.self.inside.seats) i x c.self.inside.seats.ok.0 (omega (arith, c.if-stripe-len.false, c.len.ensures)) c.index_mut-seat.ensures.value in
    let new = world_of (with_seat p i y p.starts) in
    over (λ l w. IsApplied (g.L.Loader.gives l) w (Step i) c.step.result new) c.self.view_is
    (applied_step gives (world_of p) i x.running y.running c.step.result new (map_get running_on p.seats i x there) c.step.ensures.answer c.step.ensures.turns (running_set p i y p.starts))

pub returns-clause-forward : goal.returns-clause-forward
returns-clause-forward g c done =
    let p = parts g.L.Loader.ASKS c.self.inside in
    let i = c.args.stripe in
    let x = c.index_mut-seat.result.now in
    let y = c.step.new.self in
    let gives = g.L.Loader.gives c.self.inside.loader.now in
    let there : slice_get p.seats i ≡ Some x = slice_get_read p.seats (vec_len c.self.inside.seats) i x c.self.inside.seats.ok.0 (omega (arith, c.if-stripe-len.false, c.len.ensures)) c.index_mut-seat.ensures.value in
    subst (λ (w : World). turns_left (world_of (with_seat p i y p.starts)) i < turns_left w i) (seen c.self.view_is)
    (turned_nearer p i x y p.starts there (c.step.ensures.nearer done))
