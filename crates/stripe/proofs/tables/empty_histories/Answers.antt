use Rattle.std.proofs.Common.{arith, subst}
use Rattle.std.proofs.lemmas.Grind.{common_steps}
use Rattle.stripe.specs.Room.{AreEmpty}
use Rattle.stripe.proofs.Fresh.{none_empty, one_more_empty}
use Rattle.stripe.proofs.tables.empty_histories.Goals as goal

pub loop-init : goal.loop-init
loop-init c = (none_empty c.args.journal c.in_ok-histories.histories.items c.in_ok-histories.ensures.items, omega (arith, c.in_ok-histories.ensures.capacity))

pub push_reserved-requires : goal.push_reserved-requires
push_reserved-requires c =
    let count = c.loop.invariant.0.count in
    let room = c.loop.invariant.1 in
    grind (arith, common_steps)

pub loop-preserved : goal.loop-preserved
loop-preserved c =
    let i = c.loop.invariant in (
      one_more_empty c.loop.counter c.args.journal c.loop.histories.items c.push_reserved.new.self.items c.in_ok-with_capacity.field-0 i.0 c.push_reserved.ensures.items
          c.in_ok-with_capacity.ensures.items (omega (arith, c.in_ok-with_capacity.ensures.capacity)),
      omega (arith, i.1, c.push_reserved.ensures.capacity),
    )

pub returns : goal.returns
returns c = subst (λ n. AreEmpty n c.args.journal c.loop.histories.items) (omega (arith, c.loop-test.false, c.loop.auto.counter-end)) c.loop.invariant.0
