use Rattle.std.proofs.Common.{◌+◌, refl, sym, subst, ◌∙◌, arith}
use Rattle.std.proofs.lemmas.List.{get_or_default}
use Rattle.bounds.specs.Rows.{Learns, LearnsUpTo}
use Rattle.bounds.proofs.limits.learn.Goals.{then-branch, else-branch}
use Rattle.bounds.proofs.KnownCosts.{row_at, row_within}
use Rattle.bounds.proofs.Circles.{learnt_more, learnt_no_more}
use Rattle.bounds.proofs.limits.learn.Goals as goal

pub returns-in_err-learn_one-clause-table : goal.returns-in_err-learn_one-clause-table
returns-in_err-learn_one-clause-table c = λ k set t on table are right.
    let i = c.loop-method.method-index in
    let row = c.method-item.result in
    c.learn_one.ensures.table k set t on table
    (row_at k set c.args.methods.now i row are c.loop-method-test.true c.method-item.is)
    (row_within k set c.args.methods.now i row are c.loop-method-test.true c.method-item.is)
    (c.loop-method.invariant.table k set t on table are right)

pub returns-in_err-learn_one-clause-grounded : goal.returns-in_err-learn_one-clause-grounded
returns-in_err-learn_one-clause-grounded c = λ k set are right.
    c.learn_one.ensures.grounded k (row_at k set c.args.methods.now c.loop-method.method-index c.method-item.result are c.loop-method-test.true c.method-item.is) (c.loop-method.invariant.grounded k set are right)

pub loop-method-init : goal.loop-method-init
loop-method-init c = record { table = λ k set t on table are right. right; grounded = λ k set are right. right; learns = (refl, λ i d l. absurd (omega (arith, l))) }

pub loop-method-preserved : goal.loop-method-preserved
loop-method-preserved c =
    let i = c.loop-method.method-index in
    let row = c.method-item.result in
    let rows = c.args.methods.now in
    record {
      table = λ k set t on table are right. c.learn_one.ensures.table k set t on table
          (row_at k set rows i row are c.loop-method-test.true c.method-item.is)
          (row_within k set rows i row are c.loop-method-test.true c.method-item.is)
          (c.loop-method.invariant.table k set t on table are right);
      grounded = λ k set are right. c.learn_one.ensures.grounded k (row_at k set rows i row are c.loop-method-test.true c.method-item.is) (c.loop-method.invariant.grounded k set are right);
      learns = elim c.if-branch.branch [
        | then-branch w ↦ subst (λ b. LearnsUpTo rows (i + 1) b c.args.known.now c.learn_one.new.known) (sym w.learnt-is)
            (learnt_more rows i (i + 1) row c.args.known.now c.loop-method.known c.learn_one.new.known c.loop-method.learnt c.loop-method.invariant.learns
            (subst (λ b. Learns row b c.loop-method.known c.learn_one.new.known) w.if-branch.true c.in_ok-learn_one.ensures.ok))
        | else-branch w ↦ subst (λ b. LearnsUpTo rows (i + 1) b c.args.known.now c.learn_one.new.known) (sym w.learnt-is)
            (learnt_no_more rows i row c.args.known.now c.loop-method.known c.learn_one.new.known c.loop-method.learnt c.loop-method.invariant.learns
            (subst (λ b. Learns row b c.loop-method.known c.learn_one.new.known) w.if-branch.false c.in_ok-learn_one.ensures.ok)
            (λ x. c.method-item.is ∙ get_or_default rows i row x c.loop-method-test.true))
      ];
    }
