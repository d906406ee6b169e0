use Rattle.std.proofs.Common.{List, map, sym, ap, subst, ◌∙◌}
use Rattle.stripe.specs.Stored.{Stored, entry_among}
use Rattle.stripe.specs.Seen.{record_of}
use Rattle.stripe.specs.History.{AreGiven}
use Rattle.world.specs.World.{World, entries_now}
use Rattle.world.specs.Lawful.{IsLawful}
use Rattle.world.specs.Refused.{NoneRuns}
use Rattle.world.specs.Inside.{parts}
use Rattle.world.proofs.Lawful.{is_lawful}
use Rattle.world.proofs.Opening.{none_idle, stored_left}
use Rattle.world.proofs.Places.{seen, over}
use Rattle.world.proofs.world.World.close.Goals as goal

pub give_back-requires-clause-returning : goal.give_back-requires-clause-returning
give_back-requires-clause-returning g c i x there =
    let p = parts g.L.Loader.ASKS c.self.inside in
    record {
      stripes = (c.self.invariant.steady.seats i x there).stripes ∙ sym c.self.invariant.steady.same;
      place = (c.self.invariant.steady.seats i x there).place;
      idle = none_idle p (subst NoneRuns (sym (seen c.self.view_is)) c.requires) i x there;
    }

pub returns-clause-left : goal.returns-clause-left
returns-clause-left g c k =
    ap (λ (ms : List Stored). entry_among ms k) c.give_back.ensures ∙ stored_left (parts g.L.Loader.ASKS c.self.inside) c.self.invariant.steady k ∙ ap (λ (w : World). entries_now w k) (seen c.self.view_is)

pub returns-clause-lawful : goal.returns-clause-lawful
returns-clause-lawful g c =
    let p = parts g.L.Loader.ASKS c.self.inside in
    subst (λ (w : World). IsLawful g.L.Loader.ASKS w.opening (map record_of c.self.inside.finished.items) (entry_among c.give_back.result)) (seen c.self.view_is)
    (is_lawful g.L.Loader.ASKS p.opening p.finished (entry_among c.give_back.result) c.self.invariant.steady.legal
    (λ k. ap (λ (ms : List Stored). entry_among ms k) c.give_back.ensures ∙ stored_left p c.self.invariant.steady k))

pub returns-clause-given : goal.returns-clause-given
returns-clause-given g c = over (λ l w. AreGiven (g.L.Loader.gives l) w.finished) c.self.view_is c.self.invariant.given.finished
