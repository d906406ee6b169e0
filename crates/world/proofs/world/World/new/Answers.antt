use Rattle.std.proofs.Common.{arith, ◌≡◌, ◌≤◌, ◌*◌, [], length, map, All, None, vec_capacity, sym, ap, subst, ◌∙◌}
use Rattle.stripe.specs.Seen.{record_of}
use Rattle.stripe.specs.Kept.{Kept}
use Rattle.stripe.specs.Tables.{IsCount}
use Rattle.world.specs.Seated.{idle_seat}
use Rattle.world.specs.World.{AnswersAreGiven}
use Rattle.world.specs.Inside.{Parts, IsSteady, running_on, world_of}
use Rattle.world.proofs.Opening.{given_opened, fresh_length, fresh_idle, none_running, opened_parts, steady_opened}
use Rattle.world.proofs.world.World.new.Goals as goal

pub seated-requires-clause-idle : goal.seated-requires-clause-idle
seated-requires-clause-idle g c = subst (All (λ (s : Kept). s.running ≡ None)) (sym c.in_ok-split.ensures.stripes) (fresh_idle (length c.args.tables) c.args.journal 0 c.args.tables)

pub seated-requires-clause-workspaces : goal.seated-requires-clause-workspaces
seated-requires-clause-workspaces g c =
    c.in-Ok.ensures.workspaces ∙ c.stripes-stripes.ensures.stripes ∙ sym (ap length c.in_ok-split.ensures.stripes ∙ fresh_length (length c.args.tables) c.args.journal 0 c.args.tables)

pub seated-requires-clause-room : goal.seated-requires-clause-room
seated-requires-clause-room g c = (
  c.in-Ok.ensures.none_seated,
  omega (arith, c.in-Ok.ensures.seats, c.stripes-stripes.ensures.stripes, ap length c.in_ok-split.ensures.stripes, fresh_length (length c.args.tables) c.args.journal 0 c.args.tables),
)

pub invariant_of-result : goal.invariant_of-result
invariant_of-result g c =
    let room = vec_capacity c.in-Ok.room.finished in
    let seats = c.seated.ensures ∙ ap (map idle_seat) c.in_ok-split.ensures.stripes in
    let none : map record_of c.in-Ok.room.finished.items ≡ [] = ap (map record_of) c.in-Ok.ensures.none_finished in
    let same : ◌≡◌ {A = Parts}
    (record { loads = g.L.Loader.ASKS; opening = c.of-opening.result.value; journal = c.args.journal; seats = c.seated.result.items; finished = map record_of c.in-Ok.room.finished.items; reserved = room; starts = c.no_starts.result; rest = c.in_ok-split.rest })
    (opened_parts g.L.Loader.ASKS c.args.tables c.args.journal room c.no_starts.result) =
    λ k. record { loads = g.L.Loader.ASKS; opening = c.of-opening.ensures k; journal = c.args.journal; seats = seats k; finished = none k; reserved = room; starts = c.no_starts.result; rest = c.in_ok-split.ensures.rest k } in
    let steady = steady_opened (g.L.Loader.gives c.args.loader.now) g.L.Loader.ASKS c.args.tables c.args.journal room c.no_starts.result (subst IsCount c.stripes-stripes.ensures.stripes c.stripes-stripes.ensures.count) c.in_ok-split.ensures.journal
    (subst (λ n. n * c.args.journal ≤ room) c.stripes-stripes.ensures.stripes c.in-Ok.ensures.finished) c.no_starts.ensures.callers c.no_starts.ensures.none in
    record {
      steady = subst IsSteady (sym same) steady;
      given = subst (λ (p : Parts). AnswersAreGiven (g.L.Loader.gives c.args.loader.now) (world_of p)) (sym same) (given_opened (g.L.Loader.gives c.args.loader.now) g.L.Loader.ASKS c.args.tables c.args.journal room c.no_starts.result);
    }

pub returns-clause-opened : goal.returns-clause-opened
returns-clause-opened g c =
    let seats = c.seated.ensures ∙ ap (map idle_seat) c.in_ok-split.ensures.stripes in
    let none : map record_of c.in-Ok.room.finished.items ≡ [] = ap (map record_of) c.in-Ok.ensures.none_finished in
    let running = ap (map running_on) seats ∙ none_running (length c.args.tables) c.args.journal 0 c.args.tables in
    λ k. record { loads = g.L.Loader.ASKS; opening = c.of-opening.ensures k; journal = c.args.journal; running = running k; finished = none k }
