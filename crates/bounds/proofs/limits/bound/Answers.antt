use Rattle.std.proofs.Common.{rules, ◌≢◌, ap, ◌∙◌}
use Rattle.bounds.specs.Cells.{known_at}
use Rattle.jtypes.specs.declared.refusal.Refusal.TheVariants.{LengthNotConstant}
use Rattle.bounds.specs.Lengths.{HaveLengths}
use Rattle.bounds.specs.Limits.{IsLimit}
use Rattle.bounds.specs.Rows.{AreNotRecursive}
use Rattle.bounds.proofs.KnownCosts.{answers}
use Rattle.bounds.proofs.Grounded.{err_whatever, not_recursive, ok_whatever}
use Rattle.bounds.proofs.limits.bound.Goals as goal

pub returns-in-Some-clause-answer : goal.returns-in-Some-clause-answer
returns-in-Some-clause-answer c =
    let row = c.method-item.result in
    answers c.args.methods.now c.loop-method.method-index row c.in_ok-known.known.items c.in-Some.cost c.within_limits.result c.loop-method-test.true c.method-item.is c.if-method.true
    c.in_ok-known.ensures.table (c.in-Some.ensures ∙ ap (λ l. known_at l row.number) c.deref.ensures.value) c.within_limits.ensures

pub returns-in-Some-clause-lengths : goal.returns-in-Some-clause-lengths
returns-in-Some-clause-lengths c = ok_whatever (HaveLengths c.args.methods.now) c.within_limits.result (c.if-not-all_have_lengths.ensures.have (search rules))

pub returns-in-Some-clause-ordered : goal.returns-in-Some-clause-ordered
returns-in-Some-clause-ordered c =
    let known = c.in_ok-known in
    ok_whatever (AreNotRecursive c.args.methods.now) c.within_limits.result (not_recursive c.args.methods.now known.known.items known.ensures.grounded known.ensures.all)

pub returns-in_err-known-clause-judged : goal.returns-in_err-known-clause-judged
returns-in_err-known-clause-judged c = err_whatever (λ r. r ≢ LengthNotConstant) (HaveLengths c.args.methods.now) c.from_residual.result (c.if-not-all_have_lengths.ensures.have (search rules))

pub returns-in-Some-clause-judged : goal.returns-in-Some-clause-judged
returns-in-Some-clause-judged c = err_whatever (λ r. r ≢ LengthNotConstant) (HaveLengths c.args.methods.now) c.within_limits.result (c.if-not-all_have_lengths.ensures.have (search rules))

pub returns-in-Some-clause-limit : goal.returns-in-Some-clause-limit
returns-in-Some-clause-limit c =
    let known = c.in_ok-known in
    err_whatever IsLimit (AreNotRecursive c.args.methods.now) c.within_limits.result (not_recursive c.args.methods.now known.known.items known.ensures.grounded known.ensures.all)

pub returns-clause-judged : goal.returns-clause-judged
returns-clause-judged c = λ other. c.if-not-all_have_lengths.ensures.have (search rules)
