use Rattle.std.proofs.Common.{rules, ◌≡◌, List, length, take, drop, ◌++◌, Option, refl, sym, subst, ap, arith}
use Rattle.bounds.specs.Cells.{Cell}
use Rattle.bounds.specs.Rows.{AreKnown, AreGrounded, AreBelow, AreSettled}
use Rattle.bounds.proofs.Circles.{circles, took, settled_after}
use Rattle.bounds.proofs.KnownCosts.{nothing_known}
use Rattle.bounds.proofs.Grounded.{nothing_grounded}
use Rattle.bounds.proofs.limits.costs_of.Goals as goal

pub loop-goes_on-preserved : goal.loop-goes_on-preserved
loop-goes_on-preserved c =
    let rows = c.args.methods.now in
    let old = c.loop-goes_on.known.items in
    let new = c.learn.new.known in
    let value = c.deref_mut.ensures.value in
    let kept = c.learn.auto.known in
    let long = c.deref_mut.ensures.len in
    let of_value = ap length value in
    let n : c.loop-goes_on.known.len ≡ length new = omega (arith, kept, long, of_value) in
    let m : length old ≡ length new = omega (arith, kept, of_value) in
    let same : take c.loop-goes_on.known.len (new ++ drop (length new) old) ≡ new = took new (drop (length new) old) c.loop-goes_on.known.len n in
    record {
      table = λ k set t on table are. subst (AreKnown t) (sym same) (c.learn.ensures.table k set t on table are (subst (AreKnown t) (sym value) (c.loop-goes_on.invariant.table k set t on table are)));
      grounded = λ k set are. subst (AreGrounded k) (sym same) (c.learn.ensures.grounded k set are (subst (AreGrounded k) (sym value) (c.loop-goes_on.invariant.grounded k set are)));
      below = subst (λ (l : List (Option Cell)). AreBelow rows (length l)) (sym same) (subst (AreBelow rows) m c.loop-goes_on.invariant.below);
      settled = λ e. subst (AreSettled rows) (sym same) (settled_after rows c.deref_mut.result.now new c.in_ok-goes_on.goes_on c.in_ok-goes_on.ensures.ok e);
    }

pub returns-else-are_all_known-clause-err : goal.returns-else-are_all_known-clause-err
returns-else-are_all_known-clause-err c = λ other. (refl, circles c.args.methods.now c.deref.result.now (subst (AreSettled c.args.methods.now) (sym c.deref.ensures.value) (c.loop-goes_on.invariant.settled c.loop-goes_on-test.false)) (c.if-are_all_known.ensures.one (search rules)))

pub loop-goes_on-init : goal.loop-goes_on-init
loop-goes_on-init c = record {
  table = λ k set t on table are. nothing_known t c.in_ok-known.known.items c.count_of.result (search rules);
  grounded = λ k set are. nothing_grounded k c.in_ok-known.known.items c.count_of.result (search rules);
  below = search rules;
  settled = λ e. cc;
}
