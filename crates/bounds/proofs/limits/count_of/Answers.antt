use Rattle.std.proofs.Common.{◌≡◌, ◌+◌, ap, ◌∙◌, arith}
use Rattle.std.specs.Prelude.{min, max}
use Rattle.std.proofs.lemmas.List.{get_or_default}
use Rattle.bounds.proofs.Circles.{counted}
use Rattle.bounds.proofs.limits.count_of.Goals as goal

pub loop-method-preserved : goal.loop-method-preserved
loop-method-preserved c = λ i d l.
    let row = c.method-item.result in
    let size : c.max-count.result ≡ max c.loop-method.count (min (row.number + 1) 18_446_744_073_709_551_615) = c.max-count.ensures ∙ ap (λ n. max c.loop-method.count n) c.saturating_add.ensures in
    let low = counted c.args.methods.now c.loop-method.method-index c.loop-method.count row c.loop-method.invariant (λ x. c.method-item.is ∙ get_or_default c.args.methods.now c.loop-method.method-index row x c.loop-method-test.true) i d l in
    omega (arith, size, low)

pub returns : goal.returns
returns c = λ less i d l.
    let all = c.loop-method-test.false in
    let low = c.loop-method.invariant i d (omega (arith, l, all)) in
    omega (arith, low, less)
