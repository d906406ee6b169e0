use Rattle.std.proofs.Common.{None, sym, subst, ◌∙◌}
use Rattle.stripe.specs.Kept.{IsRecord}
use Rattle.stripe.specs.Seen.{begun_of, record_of}
use Rattle.world.specs.Seated.{Seated, IsEnded}
use Rattle.world.specs.Seating.{running_in}
use Rattle.world.proofs.Seats.{can_commit, open_ended, before_in}
use Rattle.world.proofs.seat.Seat.finish.Goals as goal

pub commit-record-requires : goal.commit-record-requires
commit-record-requires c =
    can_commit c.self.inside.stripe c.self.inside.workspace c.self.inside.done c.self.inside.asked c.self.invariant c.in_ok-open.open c.in_ok-open.ensures.running (sym c.is_ended.ensures ∙ c.if-not-is_ended.false)

pub returns-clause-ended : goal.returns-clause-ended
returns-clause-ended c =
    let r = record_of c.commit-record.result in
    let told : IsRecord (begun_of c.in_ok-open.open) (before_in c.self.inside.stripe c.in_ok-open.open) r = c.commit-record.ensures.«record» (begun_of c.in_ok-open.open) (sym c.in_ok-open.ensures.running) in
    subst (λ (x : Seated). IsEnded x r (record { stripe = c.commit-record.new.self; running = running_in c.commit-record.new.self c.self.inside.workspace None None c.commit-record.new.self.running })) c.self.view_is
    (open_ended c.self.inside.stripe c.self.inside.workspace c.self.inside.done c.self.inside.asked c.self.invariant c.in_ok-open.open c.in_ok-open.ensures.running c.effect_leads_from_before_to_now.ensures.leads
    (sym c.is_ended.ensures ∙ c.if-not-is_ended.false) r told c.commit-record.ensures.asked c.in_ok-open.ensures.of c.commit-record.new.self c.self.inside.workspace c.commit-record.ensures.committed c.commit-record.ensures.entry c.commit-record.ensures.others)
