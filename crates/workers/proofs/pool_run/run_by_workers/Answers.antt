use Rattle.std.proofs.Common.{arith}
use Rattle.std.proofs.lemmas.List.{length-map}
use Rattle.stripe.specs.Seen.{call_of}
use Rattle.workers.proofs.pool_run.run_by_workers.Goals as goal

pub run_on-requires-clause-receipts : goal.run_on-requires-clause-receipts
run_on-requires-clause-receipts g c κs within i s there =
    let room = c.in-Ok-open_for.ensures.room i s there in
    let as_many = length-map c.args.round.now.calls.now call_of in omega (arith, room, as_many)
