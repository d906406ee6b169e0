use Rattle.std.proofs.Common.{arith, map, slice_get, slice_index_or, ap, ◌∙◌}
use Rattle.std.proofs.lemmas.Option.{slice_get-get_or}
use Rattle.stripe.specs.Seen.{call_of}
use Rattle.round_robin.proofs.Replies.{map_get}
use Rattle.round_robin.proofs.scheduler.Scheduler.begin.Goals as goal

pub stripe_of-stripe-requires-clause-few : goal.stripe_of-stripe-requires-clause-few
stripe_of-stripe-requires-clause-few g c = omega (arith, c.len.ensures, c.args.self.now.numbers.ok.0, c.requires.going.numbers, c.requires.stripes.1)

pub start-requires-clause-next : goal.start-requires-clause-next
start-requires-clause-next g c =
    let calls = c.args.self.now.calls.now in
    let k = c.args.self.now.begun in
    ap (λ l. slice_get l c.wait_for.new.self.begun) c.wait_for.ensures.same.calls ∙ ap (slice_get (map call_of calls)) c.wait_for.ensures.same.begun
    ∙ map_get call_of calls k (slice_index_or calls k c.index-self-self.result) (slice_get-get_or calls k c.index-self-self.result c.requires.more)
