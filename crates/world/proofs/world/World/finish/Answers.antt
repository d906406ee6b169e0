use Rattle.std.proofs.Common.{arith, ◌≡◌, ◌<◌, ◌++◌, ◌∷◌, [], ℕ, List, map, Some, vec_len, vec_capacity, slice_get, slice_set, refl, sym, ap, subst, ◌∙◌}
use Rattle.std.proofs.lemmas.Option.{slice_get_read}
use Rattle.std.proofs.lemmas.List.{map-append, length-map}
use Rattle.jtypes.specs.declared.loader.LoadAnswer.TheVariants as load
use Rattle.stripe.specs.History.{Record}
use Rattle.stripe.specs.Seen.{record_of}
use Rattle.world.specs.declared.event.Applied.TheVariants.{Done, Ignored}
use Rattle.world.specs.World.{World, Finish, with_record, AnswersAreGiven}
use Rattle.world.specs.Seated.{Seated, IsEnded}
use Rattle.world.specs.Refused.{IsApplied, KeepsEntries}
use Rattle.world.specs.Inside.{Parts, IsSteady, parts, world_of, running_on}
use Rattle.world.proofs.Places.{map_get, seen, over}
use Rattle.world.proofs.Steady.{with_seat, steady_same, world_same}
use Rattle.world.proofs.Ending.{with_end, record_set, steady_ended, keeps_ended, finish_room}
use Rattle.world.proofs.Given.{given_ended}
use Rattle.world.proofs.Applying.{applied_finish, kept_finish, was_done, was_ignored}
use Rattle.world.proofs.world.World.finish.Goals as goal

place : (n i : ℕ) (len : ℕ) → i < len → len ≡ n → i < n
place n i len lt e = omega (arith, lt, e)

abbrev with_finished : Parts → ℕ → Seated → List Record → ℕ → Parts
with_finished p i y rs reserved =
    record { loads = p.loads; opening = p.opening; journal = p.journal; seats = slice_set p.seats i y; finished = rs; reserved = reserved; starts = p.starts; rest = p.rest }

pub invariant_of-self : goal.invariant_of-self
invariant_of-self g c =
    let p = parts g.L.Loader.ASKS c.self.inside in
    let i = c.args.stripe in
    let x = c.index_mut-seat.result.now in
    let y = c.finish.new.self in
    let gives = g.L.Loader.gives c.self.inside.loader.now in
    let there : slice_get p.seats i ≡ Some x = slice_get_read p.seats (vec_len c.self.inside.seats) i x c.self.inside.seats.ok.0 (place (vec_len c.self.inside.seats) i c.len.result c.if-stripe-len.false c.len.ensures) c.index_mut-seat.ensures.value in
    let same : y ≡ x = c.in_default.ensures.same in
    record {
      steady = steady_same p c.self.invariant.steady i x y there same;
      given = subst (AnswersAreGiven gives) (sym (world_same p c.self.invariant.steady i x y there same)) c.self.invariant.given;
    }

pub returns-in_default-clause-applied : goal.returns-in_default-clause-applied
returns-in_default-clause-applied g c =
    let p = parts g.L.Loader.ASKS c.self.inside in
    let i = c.args.stripe in
    let x = c.index_mut-seat.result.now in
    let y = c.finish.new.self in
    let gives = g.L.Loader.gives c.self.inside.loader.now in
    let there : slice_get p.seats i ≡ Some x = slice_get_read p.seats (vec_len c.self.inside.seats) i x c.self.inside.seats.ok.0 (place (vec_len c.self.inside.seats) i c.len.result c.if-stripe-len.false c.len.ensures) c.index_mut-seat.ensures.value in
    let new = world_of (with_seat p i y p.starts) in
    let kept = kept_finish (world_of p) i x.running (map_get running_on p.seats i x there) c.in_default.ensures.running in
    let same = world_same p c.self.invariant.steady i x y there c.in_default.ensures.same in
    over (λ l w. IsApplied (g.L.Loader.gives l) w (Finish i) Ignored new) c.self.view_is
    (was_ignored gives (world_of p) (Finish i) new same (load.None, tt, same ∙ sym kept.0) kept.1 refl)

pub push_reserved-requires : goal.push_reserved-requires
push_reserved-requires g c =
    let p = parts g.L.Loader.ASKS c.self.inside in
    let i = c.args.stripe in
    let x = c.index_mut-seat.result.now in
    let y = c.finish.new.self in
    let gives = g.L.Loader.gives c.self.inside.loader.now in
    let there : slice_get p.seats i ≡ Some x = slice_get_read p.seats (vec_len c.self.inside.seats) i x c.self.inside.seats.ok.0 (place (vec_len c.self.inside.seats) i c.len.result c.if-stripe-len.false c.len.ensures) c.index_mut-seat.ensures.value in
    let room = finish_room p c.self.invariant.steady i x y there (record_of c.in-Some.record) c.in-Some.ensures.ended 0 in
    omega (arith, room, length-map c.self.inside.finished.items record_of, c.self.inside.finished.ok.0)

pub invariant_of-self-2 : goal.invariant_of-self-2
invariant_of-self-2 g c =
    let p = parts g.L.Loader.ASKS c.self.inside in
    let i = c.args.stripe in
    let x = c.index_mut-seat.result.now in
    let y = c.finish.new.self in
    let gives = g.L.Loader.gives c.self.inside.loader.now in
    let there : slice_get p.seats i ≡ Some x = slice_get_read p.seats (vec_len c.self.inside.seats) i x c.self.inside.seats.ok.0 (place (vec_len c.self.inside.seats) i c.len.result c.if-stripe-len.false c.len.ensures) c.index_mut-seat.ensures.value in
    let r = record_of c.in-Some.record in
    let reserved = vec_capacity c.push_reserved.new.self in
    let ended : IsEnded x r y = c.in-Some.ensures.ended in
    let more : map record_of c.push_reserved.new.self.items ≡ p.finished ++ r ∷ [] = ap (map record_of) c.push_reserved.ensures.items ∙ map-append record_of c.self.inside.finished.items (c.in-Some.record ∷ []) in
    let is : ◌≡◌ {A = Parts} (with_finished p i y (map record_of c.push_reserved.new.self.items) reserved) (with_end p i y r reserved) = ap (λ rs. with_finished p i y rs reserved) more in
    record {
      steady = subst IsSteady (sym is) (steady_ended p c.self.invariant.steady i x y there r ended reserved (omega (arith, c.push_reserved.ensures.capacity)));
      given = subst (λ (q : Parts). AnswersAreGiven gives (world_of q)) (sym is) (given_ended gives p c.self.invariant.given i x there y r ended reserved);
    }

pub returns-clause-applied : goal.returns-clause-applied
returns-clause-applied g c =
    let p = parts g.L.Loader.ASKS c.self.inside in
    let i = c.args.stripe in
    let x = c.index_mut-seat.result.now in
    let y = c.finish.new.self in
    let gives = g.L.Loader.gives c.self.inside.loader.now in
    let there : slice_get p.seats i ≡ Some x = slice_get_read p.seats (vec_len c.self.inside.seats) i x c.self.inside.seats.ok.0 (place (vec_len c.self.inside.seats) i c.len.result c.if-stripe-len.false c.len.ensures) c.index_mut-seat.ensures.value in
    let r = record_of c.in-Some.record in
    let reserved = vec_capacity c.push_reserved.new.self in
    let ended : IsEnded x r y = c.in-Some.ensures.ended in
    let more : map record_of c.push_reserved.new.self.items ≡ p.finished ++ r ∷ [] = ap (map record_of) c.push_reserved.ensures.items ∙ map-append record_of c.self.inside.finished.items (c.in-Some.record ∷ []) in
    let is : ◌≡◌ {A = Parts} (with_finished p i y (map record_of c.push_reserved.new.self.items) reserved) (with_end p i y r reserved) = ap (λ rs. with_finished p i y rs reserved) more in
    let new = world_of (with_finished p i y (map record_of c.push_reserved.new.self.items) reserved) in
    let new_is : new ≡ with_record (world_of p) i r = ap world_of is ∙ record_set p i x y r reserved ended in
    let done = applied_finish (world_of p) i x y r (map_get running_on p.seats i x there) ended in
    over (λ l w. IsApplied (g.L.Loader.gives l) w (Finish i) Done new) c.self.view_is
    (was_done gives (world_of p) (Finish i) new (load.None, tt, new_is ∙ done.0) done.1 refl)

pub returns-clause-held : goal.returns-clause-held
returns-clause-held g c =
    let p = parts g.L.Loader.ASKS c.self.inside in
    let i = c.args.stripe in
    let x = c.index_mut-seat.result.now in
    let y = c.finish.new.self in
    let gives = g.L.Loader.gives c.self.inside.loader.now in
    let there : slice_get p.seats i ≡ Some x = slice_get_read p.seats (vec_len c.self.inside.seats) i x c.self.inside.seats.ok.0 (place (vec_len c.self.inside.seats) i c.len.result c.if-stripe-len.false c.len.ensures) c.index_mut-seat.ensures.value in
    let r = record_of c.in-Some.record in
    let reserved = vec_capacity c.push_reserved.new.self in
    let ended : IsEnded x r y = c.in-Some.ensures.ended in
    let more : map record_of c.push_reserved.new.self.items ≡ p.finished ++ r ∷ [] = ap (map record_of) c.push_reserved.ensures.items ∙ map-append record_of c.self.inside.finished.items (c.in-Some.record ∷ []) in
    let is : ◌≡◌ {A = Parts} (with_finished p i y (map record_of c.push_reserved.new.self.items) reserved) (with_end p i y r reserved) = ap (λ rs. with_finished p i y rs reserved) more in
    let new = world_of (with_finished p i y (map record_of c.push_reserved.new.self.items) reserved) in
    let new_is : new ≡ with_record (world_of p) i r = ap world_of is ∙ record_set p i x y r reserved ended in
    subst (λ (w : World). KeepsEntries w new) (seen c.self.view_is)
    (subst (KeepsEntries (world_of p)) (sym new_is) (keeps_ended p c.self.invariant.steady i x y there r ended 0))
