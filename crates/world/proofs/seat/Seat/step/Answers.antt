use Rattle.std.proofs.Common.{◌<◌, ◌∙◌, Option, Some, not, cond, refl, sym, ap, subst}
use Rattle.stripe.specs.Kept.{Kept}
use Rattle.stripe.specs.Rows.{arguments}
use Rattle.stripe.specs.Seen.{call_of}
use Rattle.world.specs.declared.event.Applied.TheVariants.{Done, Ignored}
use Rattle.world.specs.World.{Running}
use Rattle.world.specs.Forward.{turns_on}
use Rattle.world.specs.Refused.{works}
use Rattle.world.specs.Seated.{Seated, HasLoader, AnswerIsGiven, Turns}
use Rattle.world.specs.Seating.{running_in}
use Rattle.world.proofs.Seats.{can_step, goes_on, goes_turned, goes_nearer, goes_answered, ends, ends_turned, ends_nearer, ends_answered, open_works}
use Rattle.world.proofs.seat.Seat.step.Goals as goal

pub one_step-requires : goal.one_step-requires
one_step-requires g c = can_step c.self.inside.stripe c.self.inside.workspace c.self.inside.done c.self.inside.asked c.self.invariant c.in-Some.open c.in-Some.ensures.running c.in-Invoke.class.now c.in-Invoke.key (arguments c.in-Invoke.args) (ap call_of c.in-Invoke.is) (sym c.is_ended.ensures ∙ c.if-is_ended.false) g.L.Loader.ASKS (subst (λ (x : Seated). HasLoader g.L.Loader.ASKS x.stripe) (sym c.self.view_is) c.requires)

pub invariant_of-self : goal.invariant_of-self
invariant_of-self g c =
    let s = can_step c.self.inside.stripe c.self.inside.workspace c.self.inside.done c.self.inside.asked c.self.invariant c.in-Some.open c.in-Some.ensures.running c.in-Invoke.class.now c.in-Invoke.key (arguments c.in-Invoke.args) (ap call_of c.in-Invoke.is) (sym c.is_ended.ensures ∙ c.if-is_ended.false) g.L.Loader.ASKS (subst (λ (x : Seated). HasLoader g.L.Loader.ASKS x.stripe) (sym c.self.view_is) c.requires) in
    goes_on c.self.inside.stripe c.self.inside.workspace c.self.inside.done c.self.inside.asked c.self.invariant c.in-Some.open c.in-Some.ensures.running c.in-Invoke.class.now c.in-Invoke.key (arguments c.in-Invoke.args) (ap call_of c.in-Invoke.is) (sym c.is_ended.ensures ∙ c.if-is_ended.false) g.L.Loader.ASKS (subst (λ (x : Seated). HasLoader g.L.Loader.ASKS x.stripe) (sym c.self.view_is) c.requires)
    (g.L.Loader.gives c.args.loader.now) c.one_step.new.workspace c.in-Going.ensures.steps c.in-Going.ensures.counted

pub invariant_of-self-in-Ended : goal.invariant_of-self-in-Ended
invariant_of-self-in-Ended g c =
    ends c.self.inside.stripe c.self.inside.workspace c.self.inside.done c.self.inside.asked c.self.invariant c.in-Some.open c.in-Some.ensures.running c.in-Invoke.class.now c.in-Invoke.key (arguments c.in-Invoke.args) (ap call_of c.in-Invoke.is) (sym c.is_ended.ensures ∙ c.if-is_ended.false) g.L.Loader.ASKS (subst (λ (x : Seated). HasLoader g.L.Loader.ASKS x.stripe) (sym c.self.view_is) c.requires)
    (g.L.Loader.gives c.args.loader.now) c.one_step.new.workspace c.in-Ended.done c.in-Ended.ensures.steps

pub returns-in-Going-clause-answer : goal.returns-in-Going-clause-answer
returns-in-Going-clause-answer g c =
    sym (ap (λ (x : Seated). cond (works (Some x.running)) Done Ignored) (sym c.self.view_is)
    ∙ ap (λ b. cond b Done Ignored) (open_works c.self.inside.stripe c.self.inside.workspace c.self.inside.done c.self.inside.asked c.self.invariant c.in-Some.open c.in-Some.ensures.running ∙ ap not (sym c.is_ended.ensures ∙ c.if-is_ended.false)))

pub returns-in-Going-clause-turns : goal.returns-in-Going-clause-turns
returns-in-Going-clause-turns g c =
    subst (λ (x : Seated). Turns (g.L.Loader.gives c.args.loader.now) x.running (running_in c.self.inside.stripe c.one_step.new.workspace c.self.inside.done c.self.inside.asked c.self.inside.stripe.running)) c.self.view_is
    (goes_turned c.self.inside.stripe c.self.inside.workspace c.self.inside.done c.self.inside.asked c.self.invariant c.in-Some.open c.in-Some.ensures.running c.in-Invoke.class.now c.in-Invoke.key (arguments c.in-Invoke.args) (ap call_of c.in-Invoke.is) (sym c.is_ended.ensures ∙ c.if-is_ended.false) g.L.Loader.ASKS (subst (λ (x : Seated). HasLoader g.L.Loader.ASKS x.stripe) (sym c.self.view_is) c.requires)
    (g.L.Loader.gives c.args.loader.now) c.one_step.new.workspace c.in-Going.ensures.steps c.in-Going.ensures.counted)

pub returns-in-Ended-clause-answer : goal.returns-in-Ended-clause-answer
returns-in-Ended-clause-answer g c =
    sym (ap (λ (x : Seated). cond (works (Some x.running)) Done Ignored) (sym c.self.view_is)
    ∙ ap (λ b. cond b Done Ignored) (open_works c.self.inside.stripe c.self.inside.workspace c.self.inside.done c.self.inside.asked c.self.invariant c.in-Some.open c.in-Some.ensures.running ∙ ap not (sym c.is_ended.ensures ∙ c.if-is_ended.false)))

pub returns-in-Ended-clause-turns : goal.returns-in-Ended-clause-turns
returns-in-Ended-clause-turns g c =
    subst (λ (x : Seated). Turns (g.L.Loader.gives c.args.loader.now) x.running (running_in c.self.inside.stripe c.one_step.new.workspace (Some c.in-Ended.done) c.self.inside.asked c.self.inside.stripe.running)) c.self.view_is
    (ends_turned c.self.inside.stripe c.self.inside.workspace c.self.inside.done c.self.inside.asked c.self.invariant c.in-Some.open c.in-Some.ensures.running c.in-Invoke.class.now c.in-Invoke.key (arguments c.in-Invoke.args) (ap call_of c.in-Invoke.is) (sym c.is_ended.ensures ∙ c.if-is_ended.false) g.L.Loader.ASKS (subst (λ (x : Seated). HasLoader g.L.Loader.ASKS x.stripe) (sym c.self.view_is) c.requires)
    (g.L.Loader.gives c.args.loader.now) c.one_step.new.workspace c.in-Ended.done c.in-Ended.ensures.steps c.effect_leads_from_before_to_now.ensures.leads)

pub returns-in-Going-clause-nearer : goal.returns-in-Going-clause-nearer
returns-in-Going-clause-nearer g c _ =
    let s = can_step c.self.inside.stripe c.self.inside.workspace c.self.inside.done c.self.inside.asked c.self.invariant c.in-Some.open c.in-Some.ensures.running c.in-Invoke.class.now c.in-Invoke.key (arguments c.in-Invoke.args) (ap call_of c.in-Invoke.is) (sym c.is_ended.ensures ∙ c.if-is_ended.false) g.L.Loader.ASKS (subst (λ (x : Seated). HasLoader g.L.Loader.ASKS x.stripe) (sym c.self.view_is) c.requires) in
    subst (λ (x : Seated). turns_on (Some (running_in c.self.inside.stripe c.one_step.new.workspace c.self.inside.done c.self.inside.asked c.self.inside.stripe.running)) < turns_on (Some x.running)) c.self.view_is
    (goes_nearer c.self.inside.stripe c.self.inside.workspace c.self.inside.done c.self.inside.asked c.self.invariant c.in-Some.open c.in-Some.ensures.running c.in-Invoke.class.now c.in-Invoke.key (arguments c.in-Invoke.args) (ap call_of c.in-Invoke.is) (sym c.is_ended.ensures ∙ c.if-is_ended.false) g.L.Loader.ASKS (subst (λ (x : Seated). HasLoader g.L.Loader.ASKS x.stripe) (sym c.self.view_is) c.requires)
    (g.L.Loader.gives c.args.loader.now) c.one_step.new.workspace c.in-Going.ensures.steps c.in-Going.ensures.counted (c.in-Going.ensures.counts s.0 s.1 refl) (c.in-Going.ensures.few s.0 s.1 refl))

pub returns-in-Ended-clause-nearer : goal.returns-in-Ended-clause-nearer
returns-in-Ended-clause-nearer g c _ =
    subst (λ (x : Seated). turns_on (Some (running_in c.self.inside.stripe c.one_step.new.workspace (Some c.in-Ended.done) c.self.inside.asked c.self.inside.stripe.running)) < turns_on (Some x.running)) c.self.view_is
    (ends_nearer c.self.inside.stripe c.self.inside.workspace c.self.inside.done c.self.inside.asked c.self.invariant c.in-Some.open c.in-Some.ensures.running c.in-Invoke.class.now c.in-Invoke.key (arguments c.in-Invoke.args) (ap call_of c.in-Invoke.is) (sym c.is_ended.ensures ∙ c.if-is_ended.false) g.L.Loader.ASKS (subst (λ (x : Seated). HasLoader g.L.Loader.ASKS x.stripe) (sym c.self.view_is) c.requires)
    (g.L.Loader.gives c.args.loader.now) c.one_step.new.workspace c.in-Ended.done c.in-Ended.ensures.steps)

pub returns-in-Going-clause-given : goal.returns-in-Going-clause-given
returns-in-Going-clause-given g c h =
    goes_answered c.self.inside.stripe c.self.inside.workspace c.self.inside.done c.self.inside.asked c.self.invariant c.in-Some.open c.in-Some.ensures.running c.in-Invoke.class.now c.in-Invoke.key (arguments c.in-Invoke.args) (ap call_of c.in-Invoke.is) (sym c.is_ended.ensures ∙ c.if-is_ended.false) g.L.Loader.ASKS (subst (λ (x : Seated). HasLoader g.L.Loader.ASKS x.stripe) (sym c.self.view_is) c.requires)
    (g.L.Loader.gives c.args.loader.now) c.one_step.new.workspace c.in-Going.ensures.steps c.in-Going.ensures.counted c.in-Going.ensures.given c.in-Going.ensures.key
    (subst (λ (x : Seated). AnswerIsGiven (g.L.Loader.gives c.args.loader.now) x.running) (sym c.self.view_is) h)

pub returns-in-Ended-clause-given : goal.returns-in-Ended-clause-given
returns-in-Ended-clause-given g c h =
    ends_answered c.self.inside.stripe c.self.inside.workspace c.self.inside.done c.self.inside.asked c.self.invariant c.in-Some.open c.in-Some.ensures.running c.in-Invoke.class.now c.in-Invoke.key (arguments c.in-Invoke.args) (ap call_of c.in-Invoke.is) (sym c.is_ended.ensures ∙ c.if-is_ended.false) g.L.Loader.ASKS (subst (λ (x : Seated). HasLoader g.L.Loader.ASKS x.stripe) (sym c.self.view_is) c.requires)
    (g.L.Loader.gives c.args.loader.now) c.one_step.new.workspace c.in-Ended.done c.in-Ended.ensures.steps c.in-Ended.ensures.given c.in-Ended.ensures.key (c.in-Ended.ensures.told c.in-Ended.done refl)
    (subst (λ (x : Seated). AnswerIsGiven (g.L.Loader.gives c.args.loader.now) x.running) (sym c.self.view_is) h)
