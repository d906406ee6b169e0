use Rattle.std.proofs.Common.{arith, ◌≡◌, ◌<◌, length, Some, slice_get, vec_len, sym, ap, ◌∙◌}
use Rattle.world.specs.Forward.{turns_left}
use Rattle.round_robin.specs.Scheduling.{stage}
use Rattle.round_robin.proofs.Replies.{number_at}
use Rattle.round_robin.proofs.Stages.{some_of, empty_of, numbered_turns, no_turns_left}
use Rattle.round_robin.proofs.scheduler.Scheduler.wait_for.Goals as goal

pub turns-smaller : goal.turns-smaller
turns-smaller g c =
    let s = stage c.turns.self in
    let same : length s.world.opening ≡ length c.args.self.now.world.world.opening = ap length c.turns.invariant.same.opening in
    let there : slice_get s.numbers c.args.stripe ≡ Some c.index.result.now = number_at s.numbers (vec_len c.turns.self.numbers) (length s.world.opening) c.args.stripe c.index.result.now c.turns.self.numbers.ok.0 c.turns.invariant.going.numbers (omega (arith, same, c.requires.stripe)) c.index.ensures in
    let some = some_of c.index.result.now (sym c.is_some.ensures ∙ c.turns-test.true) in
    let more : 0 < turns_left s.world c.args.stripe = numbered_turns s c.turns.invariant.going c.args.stripe some.0 (there ∙ ap Some some.1) in
    let less = c.turn.ensures.nearer c.args.stripe (omega (arith, same, c.requires.stripe)) in
    let smaller : turns_left c.turn.new.self.world.world c.args.stripe < turns_left s.world c.args.stripe = omega (arith, more, less) in
    smaller

pub returns-clause-idle : goal.returns-clause-idle
returns-clause-idle g c =
    let s = stage c.turns.self in
    let same : length s.world.opening ≡ length c.args.self.now.world.world.opening = ap length c.turns.invariant.same.opening in
    let there : slice_get s.numbers c.args.stripe ≡ Some c.index.result.now = number_at s.numbers (vec_len c.turns.self.numbers) (length s.world.opening) c.args.stripe c.index.result.now c.turns.self.numbers.ok.0 c.turns.invariant.going.numbers (omega (arith, same, c.requires.stripe)) c.index.ensures in
    no_turns_left s c.turns.invariant.going c.args.stripe (there ∙ ap Some (empty_of c.index.result.now (sym c.is_some.ensures ∙ c.turns-test.false)))
