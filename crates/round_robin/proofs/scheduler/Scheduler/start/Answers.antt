use Rattle.std.proofs.Common.{◌≡◌, ◌+◌, Some, slice_set, refl, sym, subst, ◌∙◌}
use Rattle.stripe.specs.declared.refusal.BeginRefusal.{BeginRefusal}
use Rattle.stripe.specs.Seen.{call_of}
use Rattle.world.specs.declared.event.Applied.TheVariants.{Done, Refused}
use Rattle.world.specs.World.{World, Start}
use Rattle.round_robin.specs.Scheduling.{stage, IsGoing}
use Rattle.round_robin.proofs.Moves.{Starts, start_moves}
use Rattle.round_robin.proofs.Told.{IsTold, may_make_entry}
use Rattle.round_robin.proofs.Stages.{idle_there, not_full, going_passed, going_started}
use Rattle.round_robin.proofs.scheduler.Scheduler.start.Goals as goal

not_refused : (r : BeginRefusal) → ¬ (Done ≡ Refused r)
not_refused r e = absurd (cc)

pub returns-in-Done-clause-going : goal.returns-in-Done-clause-going
returns-in-Done-clause-going g c =
    let s = stage c.args.self.now in
    let call = call_of c.args.call in
    let happens = c.in-Done.ensures.applied.world not_refused in
    let begin : Starts happens.0 s.world call = start_moves happens.0 s.world call (idle_there s c.requires.going call c.requires.next c.args.stripe c.requires.stripe c.requires.inside c.requires.idle) (c.in-Done.ensures.forward refl happens.0) in
    subst (λ (w : World). IsGoing (record { calls = s.calls; begun = s.begun + 1; world = w; numbers = slice_set s.numbers c.args.stripe (Some s.begun); replies = s.replies }))
    (sym (happens.2 ∙ begin.is))
    (going_started s c.requires.going call c.requires.next c.args.stripe c.requires.stripe c.requires.inside c.requires.idle begin.progress)

pub returns-in-Refused-clause-going : goal.returns-in-Refused-clause-going
returns-in-Refused-clause-going g c =
    let s = stage c.args.self.now in
    let call = call_of c.args.call in
    let told : IsTold s.world (Start 0 call) c.apply.result = record { ignored = c.apply.ensures.applied.ignored; full = c.apply.ensures.applied.full; memory = c.apply.ensures.applied.memory } in
    let may = may_make_entry s.world call c.apply.result c.in-Refused.field-0 told c.in-Refused.is (not_full s c.requires.going call c.requires.next c.args.stripe c.requires.stripe c.requires.inside c.requires.idle) in
    subst (λ (w : World). IsGoing (record { calls = s.calls; begun = s.begun + 1; world = w; numbers = s.numbers; replies = s.replies })) (sym (c.in-Refused.ensures.applied.same not_done))
    (going_passed s c.requires.going call c.requires.next c.args.stripe c.requires.stripe c.requires.inside c.requires.idle may)
  where
    not_done : Refused c.in-Refused.field-0 ≡ Done → ⊥
    not_done e = absurd (cc)
