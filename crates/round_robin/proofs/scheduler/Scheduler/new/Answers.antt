use Rattle.std.proofs.Common.{arith, ◌≡◌, length, map, replicate, None, sym, ap, subst, ◌∙◌}
use Rattle.std.proofs.lemmas.List.{length-map}
use Rattle.stripe.specs.Seen.{call_of}
use Rattle.world.specs.World.{World}
use Rattle.round_robin.specs.Scheduling.{IsGoing}
use Rattle.round_robin.proofs.Stages.{going_opened}
use Rattle.round_robin.proofs.scheduler.Scheduler.new.Goals as goal

pub returns-clause-going : goal.returns-clause-going
returns-clause-going g c =
    let many : length (map call_of c.args.calls.now) ≡ length c.args.calls.now = length-map c.args.calls.now call_of in
    subst (λ (w : World). IsGoing (record { calls = map call_of c.args.calls.now; begun = 0; world = w; numbers = c.args.room.numbers.items; replies = c.args.room.replies.items })) (sym c.requires.opened)
    (going_opened c.args.world.world.loads (map call_of c.args.calls.now) c.args.world.world.opening c.args.world.world.journal c.args.room.numbers.items c.args.room.replies.items
    (omega (arith, many, c.requires.journal)) c.requires.room.numbers (c.requires.room.replies ∙ ap (λ n. replicate n None) (sym many)))
