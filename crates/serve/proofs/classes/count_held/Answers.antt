use Rattle.std.proofs.Common.{◌≡◌, ◌≤◌, arith}
use Rattle.serve.proofs.Numbered.{held_more}
use Rattle.serve.proofs.classes.count_held.Goals as goal

pub loop-id-preserved : goal.loop-id-preserved
loop-id-preserved c =
    let i = c.loop-id.invariant in
    let more = held_more c.args.ids.now c.loop-id.id-index c.id-item.result c.loop-id-test.true c.id-item.is in
    record {
      counted = omega (arith, i.counted, c.one_held-count.ensures.count, more);
      few = omega (arith, i.few, c.one_held-count.ensures.most);
    }
