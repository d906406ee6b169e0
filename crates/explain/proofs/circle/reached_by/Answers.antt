use Rattle.explain.proofs.Listing.{call_among}
use Rattle.explain.proofs.circle.reached_by.Goals as goal

pub returns : goal.returns
returns c = call_among c.args.methods.now c.in_ok-row.row.now c.args.call.method c.args.call.place c.in_ok-callee.callee.now c.own_number.result c.in_ok-row.ensures c.in_ok-callee.ensures c.own_number.ensures
