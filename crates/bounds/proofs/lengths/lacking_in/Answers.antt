use Rattle.std.proofs.Common.{◌≡◌, true, ap, sym, length, ◌∙◌, arith}
use Rattle.std.proofs.lemmas.List.{get_or_default}
use Rattle.std.proofs.lemmas.List.Elements.{AllWithin-upto}
use Rattle.decode.specs.declared.instruction.Placed.{Placed}
use Rattle.bounds.specs.Lengths.{has_length}
use Rattle.bounds.proofs.LengthsFound.{all_have, one_lacks}
use Rattle.bounds.proofs.lengths.lacking_in.Goals as goal

pub returns-then-not-has_length-clause-some : goal.returns-then-not-has_length-clause-some
returns-then-not-has_length-clause-some c = λ rise.
    let list = c.as_slice-p-items in
    one_lacks c.args.method.now list.result.now c.loop-p.p-index c.p-item.result list.ensures.value list.ensures.rising c.loop-p-test.true (λ d. c.p-item.is ∙ get_or_default list.result.now c.loop-p.p-index c.p-item.result d c.loop-p-test.true) (sym (c.has_length.ensures rise) ∙ c.if-not-has_length.true)

pub returns-clause-none : goal.returns-clause-none
returns-clause-none c = λ rise.
    let row = c.args.method.now in
    let all = AllWithin-upto (λ (p : Placed). has_length row p p.instruction ≡ true) row.code 0 c.loop-p.p-index (length row.code) (omega (arith, c.loop-p-test.false, ap length c.as_slice-p-items.ensures.value)) (c.loop-p.invariant rise) in
    all_have row (λ k d l. all k d (omega arith) l)
