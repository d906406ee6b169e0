use Rattle.std.proofs.Common.{List, ℤ, ap, arith, length, map}
use Rattle.invokeall.specs.Rounds.{reply_of}
use Rattle.wire.specs.declared.reply.JobOutcome.{JobOutcome}
use Rattle.serve.proofs.Listed.{few_listed}
use Rattle.serve.proofs.replies.reply_to.Goals as goal

pub returns-in_ok-list-in-JobForEach-clause-framed : goal.returns-in_ok-list-in-JobForEach-clause-framed
returns-in_ok-list-in-JobForEach-clause-framed c =
    let few = few_listed (map reply_of c.answers_from.result.now) c.in-JobForEach.keys.items.now in
    let same = ap (λ (l : List (ℤ × JobOutcome)). length l) c.in_ok-list-in-JobForEach.ensures in
    let items = ap (λ (l : List (ℤ × JobOutcome)). length l) c.new.ensures in
    omega (arith, few, same, items, c.in-JobForEach.keys.few)
