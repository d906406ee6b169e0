use Rattle.std.proofs.Common.{refl, sym}
use Rattle.explain.proofs.Listing.{listed_more}
use Rattle.explain.proofs.costs.listed.Goals as goal

pub loop-method-preserved : goal.loop-method-preserved
loop-method-preserved c =
    let row = c.method-item.result in
    rw c.in_ok-push-in-Some.ensures.items (listed_more c.args.methods.now c.args.known.now c.loop-method.method-index c.loop-method.costs.items row (record { number = row.number; cost = c.in-Some.cost }) c.method-item.is c.loop-method-test.true refl (sym c.in-Some.ensures) c.loop-method.invariant)
