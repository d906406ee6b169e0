use Rattle.std.proofs.Common.{rules, arith, ◌≡◌, Some, vec_len, slice_get, w64, sym, ap, ◌∙◌}
use Rattle.std.proofs.lemmas.Option.{slice_get_read}
use Rattle.std.proofs.lemmas.Int.{to_z-of_z}
use Rattle.stripe.specs.History.{stripe_of}
use Rattle.stripe.specs.Kept.{IsOf, entry_of}
use Rattle.world.specs.World.{World, entries_now}
use Rattle.world.specs.Inside.{parts, world_of, IsAt}
use Rattle.world.proofs.Places.{seen, over}
use Rattle.world.proofs.world.World.entry.Goals as goal

pub returns : goal.returns
returns g c =
    let p = parts g.L.Loader.ASKS c.self.inside in
    let x = c.index-seat.result.now in
    let key = to_z-of_z w64 c.args.key (search rules) in
    let there : slice_get p.seats c.stripe_of-place.result ≡ Some x = slice_get_read p.seats (vec_len c.self.inside.seats) c.stripe_of-place.result x c.self.inside.seats.ok.0 (omega (arith, c.stripe_of-place.ensures.within, c.len.ensures)) c.index-seat.ensures in
    let at : IsAt (world_of p) c.stripe_of-place.result x = c.self.invariant.steady.seats c.stripe_of-place.result x there in
    let of : IsOf x.stripe c.args.key =
    ap (λ n. stripe_of n c.args.key) (at.stripes ∙ sym (c.len.ensures ∙ c.self.inside.seats.ok.0 ∙ c.self.invariant.steady.same)) ∙ ap (stripe_of c.len.result) (sym key) ∙ sym c.stripe_of-place.ensures.stripe ∙ sym at.place in
    c.entry.ensures ∙ ap (entry_of x.stripe) key ∙ at.left c.args.key of ∙ ap (λ (w : World). entries_now w c.args.key) (seen c.self.view_is)
