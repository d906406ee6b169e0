use Rattle.std.proofs.Common.{rules, ◌≡◌, Some, sym, ap, ◌∙◌}
use Rattle.std.specs.Prelude.{option_copied}
use Rattle.frames.specs.Seen.{frame_seen}
use Rattle.typecheck.specs.Seen.{target_row}
use Rattle.typecheck.proofs.Flowing.{target_lacks, target_misfits, target_fits, target_kept}
use Rattle.typecheck.proofs.check.meet.Goals as goal

pub returns-in_default-clause-err : goal.returns-in_default-clause-err
returns-in_default-clause-err c = λ n others.
    let f = c.args.outcome.now in
    let found : option_copied c.declared_at_target.result ≡ target_row c.args.declared.now c.args.target = search rules in
    target_lacks f.locals.kept c.args.declared.now c.args.p.now (frame_seen f) c.args.target _ found others (ap option_copied c.in_default.is)

pub frame_assignable-requires : goal.frame_assignable-requires
frame_assignable-requires c =
    let found : option_copied c.declared_at_target.result ≡ target_row c.args.declared.now c.args.target = search rules in
    let is : target_row c.args.declared.now c.args.target ≡ Some c.in-Some.d.now = sym found ∙ ap option_copied c.in-Some.is in
    let kept = target_kept c.args.outcome.now.locals.kept c.args.declared.now c.args.target c.requires.rows in
    rw is at kept

pub returns-then-not-frame_assignable-clause-err : goal.returns-then-not-frame_assignable-clause-err
returns-then-not-frame_assignable-clause-err c = λ n others.
    let f = c.args.outcome.now in
    let found : option_copied c.declared_at_target.result ≡ target_row c.args.declared.now c.args.target = search rules in
    target_misfits f.locals.kept c.args.declared.now c.args.p.now (frame_seen f) c.args.target _ found others c.in-Some.d.now c.frame_assignable.result c.mismatch.result (ap option_copied c.in-Some.is)
    c.frame_assignable.ensures.fits c.if-not-frame_assignable.true c.mismatch.ensures

pub returns-clause-ok : goal.returns-clause-ok
returns-clause-ok c = λ others.
    let f = c.args.outcome.now in
    let found : option_copied c.declared_at_target.result ≡ target_row c.args.declared.now c.args.target = search rules in
    target_fits f.locals.kept c.args.declared.now c.args.p.now (frame_seen f) c.args.target _ found others c.in-Some.d.now c.frame_assignable.result (ap option_copied c.in-Some.is) c.frame_assignable.ensures.fits c.if-not-frame_assignable.false
