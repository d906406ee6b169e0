use Rattle.std.proofs.Common.{arith, ◌≡◌, ◌<◌, length, Some, vec_len, slice_get, ap}
use Rattle.std.proofs.lemmas.Option.{slice_get_read}
use Rattle.std.proofs.lemmas.List.{length-map}
use Rattle.stripe.specs.Seen.{record_of}
use Rattle.world.specs.World.{World}
use Rattle.world.specs.Inside.{parts}
use Rattle.world.proofs.Places.{seen, over}
use Rattle.world.proofs.world.World.history.Goals as goal

pub returns-clause-few : goal.returns-clause-few
returns-clause-few g c =
    let p = parts g.L.Loader.ASKS c.self.inside in
    let x = c.index-seat.result.now in
    let within : c.args.stripe < vec_len c.self.inside.seats = omega (arith, c.requires, ap (λ (w : World). length w.opening) (seen c.self.view_is), c.self.inside.seats.ok.0, c.self.invariant.steady.same) in
    let there : slice_get p.seats c.args.stripe ≡ Some x = slice_get_read p.seats (vec_len c.self.inside.seats) c.args.stripe x c.self.inside.seats.ok.0 within c.index-seat.ensures in
    let few = (c.self.invariant.steady.seats c.args.stripe x there).few in
    omega (arith, few, ap length c.history.ensures, length-map c.history.result.now record_of, ap (λ (w : World). w.journal) (seen c.self.view_is))
