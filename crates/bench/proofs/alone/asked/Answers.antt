use Rattle.std.proofs.Common.{rules, arith, ◌<◌, length}
use Rattle.bench.proofs.OneStripe.{one_stripe, is_alone}
use Rattle.bench.proofs.alone.asked.Goals as goal

pub remove-stripe-requires : goal.remove-stripe-requires
remove-stripe-requires g c =
    let one = one_stripe _ c.args.tables _ c.in-Ok.ensures.stripes c.requires in
    let some : 0 < length c.in-Ok.stripes.items = omega (arith, one) in
    search (rules, some)

pub ask_all-requires-clause-one : goal.ask_all-requires-clause-one
ask_all-requires-clause-one g c =
    let alone = is_alone _ c.args.tables _ c.remove-stripe.result c.in-Ok.ensures.stripes c.requires c.remove-stripe.ensures.value in
    (alone.stripes, alone.place)

pub ask_all-requires-clause-idle : goal.ask_all-requires-clause-idle
ask_all-requires-clause-idle g c = (is_alone _ c.args.tables _ c.remove-stripe.result c.in-Ok.ensures.stripes c.requires c.remove-stripe.ensures.value).idle
