use Rattle.std.proofs.Common.{arith, ◌≡◌, ◌+◌, ◌++◌, ◌∷◌, [], length, map, take, Some, false, slice_get, refl, sym, ap, subst, ◌∙◌, add-one}
use Rattle.std.proofs.lemmas.Option.{slice_get_read}
use Rattle.std.proofs.lemmas.List.{take-map, take_all}
use Rattle.stripe.specs.declared.refusal.BeginRefusal.TheVariants.{JournalFull}
use Rattle.world.specs.declared.event.Applied.TheVariants.{Done, Refused}
use Rattle.world.specs.World.{World, Happens, none}
use Rattle.world.specs.Seen.{event_of}
use Rattle.world.specs.Refused.{is_start_on_full, RunsWithRoom, IsRefusable}
use Rattle.world.proofs.Places.{map_get}
use Rattle.world.proofs.Runs.{room_more, take_one, refusable, not_true, opening_stays}
use Rattle.world.proofs.world.World.run.Goals as goal

pub returns-in-Refused-clause-stopped : goal.returns-in-Refused-clause-stopped
returns-in-Refused-clause-stopped g c =
    let events = c.args.events.now in
    let i = c.loop-place.place in
    let e = c.index-events-place.result in
    let gives = g.L.Loader.gives c.args.self.now.loader in
    let there : slice_get events i ≡ Some e = slice_get_read events (length events) i e refl (omega arith) c.index-events-place.is in
    let same : c.apply.new.self.world ≡ c.loop-place.self.world = c.in-Refused.ensures.applied.same not_done in
    let runs = subst (λ (w : World). RunsWithRoom gives c.args.self.now.world (map event_of (take i events)) w) (sym same) c.loop-place.invariant.runs in
    record {
      event = event_of e;
      there = map_get event_of events i e there;
      before = subst (λ es. RunsWithRoom gives c.args.self.now.world es c.apply.new.self.world) (sym (take-map event_of i events)) runs;
      refused = subst (λ (w : World). IsRefusable w (event_of e) c.in-Refused.refusal) (sym same)
          (refusable c.loop-place.self.world (event_of e) c.in-Refused.refusal c.in-Refused.ensures.applied.full.0 c.in-Refused.ensures.applied.memory);
    }
  where
    not_done : Refused c.in-Refused.refusal ≡ Done → ⊥
    not_done q = absurd (cc)

pub loop-place-init : goal.loop-place-init
loop-place-init g c = record { runs = (none, tt); loader = refl }

pub returns-clause-ok : goal.returns-clause-ok
returns-clause-ok g c =
    let all : take c.loop-place.place c.args.events.now ≡ c.args.events.now = take_all c.loop-place.place c.args.events.now c.loop-place-test.false in
    subst (λ es. RunsWithRoom (g.L.Loader.gives c.args.self.now.loader) c.args.self.now.world (map event_of es) c.loop-place.self.world) all c.loop-place.invariant.runs

pub loop-place-preserved : goal.loop-place-preserved
loop-place-preserved g c =
    let events = c.args.events.now in
    let i = c.loop-place.place in
    let e = c.index-events-place.result in
    let gives = g.L.Loader.gives c.args.self.now.loader in
    let there : slice_get events i ≡ Some e = slice_get_read events (length events) i e refl (omega arith) c.index-events-place.is in
    let more : map event_of (take (i + 1) events) ≡ map event_of (take i events) ++ event_of e ∷ [] = ap (λ n. map event_of (take n events)) (add-one i) ∙ take_one event_of events i e there in
    let w = c.args.self.now.world in
    let before = c.loop-place.self.world in
    let applied = c.apply.ensures.applied in
    let room : is_start_on_full before (event_of e) ≡ false = not_true (is_start_on_full before (event_of e)) (λ q. c.in_default.not-Refused JournalFull (applied.full.1 q)) in
    let happens : Happens gives before (event_of e) c.apply.new.self.world =
    subst (λ l. Happens (g.L.Loader.gives l) before (event_of e) c.apply.new.self.world) c.loop-place.invariant.loader (applied.world (λ r q. c.in_default.not-Refused r q)) in
    record {
      runs = subst (λ es. RunsWithRoom gives w es c.apply.new.self.world) (sym more) (room_more (event_of e) c.loop-place.invariant.runs happens room c.apply.ensures.held);
      loader = c.apply.ensures.loader ∙ c.loop-place.invariant.loader;
    }

pub returns-in-Refused-clause-opening : goal.returns-in-Refused-clause-opening
returns-in-Refused-clause-opening g c =
    let same : c.apply.new.self.world ≡ c.loop-place.self.world = c.in-Refused.ensures.applied.same not_done in
    ap (λ (w : World). w.opening) same ∙ opening_stays c.loop-place.invariant.runs.0
  where
    not_done : Refused c.in-Refused.refusal ≡ Done → ⊥
    not_done q = absurd (cc)

pub returns-clause-opening : goal.returns-clause-opening
returns-clause-opening g c = opening_stays c.loop-place.invariant.runs.0
