use Rattle.std.proofs.Common.{rules, to_z, of_z, ◌≢◌, ℤ, sym, subst, ◌∙◌, FitsSigned, drop, ◌+◌}
use Rattle.std.specs.Int.{w128}
use Rattle.std.proofs.lemmas.Int.{to_z-of_z}
use Rattle.std.proofs.lemmas.Result.{err_from_is_err_and}
use Rattle.jtypes.specs.declared.refusal.Refusal.TheVariants.{NoMemory}
use Rattle.decode.specs.Places.{cases_of}
use Rattle.frames.specs.declared.frame.Flow.{Flow}
use Rattle.frames.specs.Seen.{declared_seen, frame_seen}
use Rattle.typecheck.specs.Seen.{branched_cases, IsMet, IsUnmet}
use Rattle.typecheck.proofs.Targets.{case_step}
use Rattle.typecheck.proofs.check.meet_cases.Goals as goal

pub meet_next-requires-clause-before : goal.meet_next-requires-clause-before
meet_next-requires-clause-before c =
    let f = c.args.outcome.now in
    let p = c.args.p.now in
    let ds = c.args.declared.now in
    subst (λ (x : Flow). IsMet (declared_seen x.locals.kept ds) p (frame_seen x) (to_z w128 c.loop-i.before-bits)) (sym c.loop-i.invariant.0) c.loop-i.invariant.2

pub returns-in_err-meet_next-clause-err : goal.returns-in_err-meet_next-clause-err
returns-in_err-meet_next-clause-err c =
    let e = err_from_is_err_and c.from_residual.result c.from_residual.ensures.1 in
    let f = c.args.outcome.now in
    let p = c.args.p.now in
    let ds = c.args.declared.now in
    let zs = cases_of p.instruction in
    let r = c.in_err-meet_next.field-0.0 in
    let fits : FitsSigned w128 c.case_target-target.result = search (rules, c.case_target-target.type_inv) in
    let number = to_z-of_z w128 c.case_target-target.result fits in
    let said = subst (λ (z : ℤ). r ≢ NoMemory → IsUnmet (declared_seen c.loop-i.outcome.locals.kept ds) p (frame_seen c.loop-i.outcome) z r) number c.in_err-meet_next.ensures.err in
    let here = subst (λ (x : Flow). r ≢ NoMemory → IsUnmet (declared_seen x.locals.kept ds) p (frame_seen x) c.case_target-target.result r) c.loop-i.invariant.0 said in
    rw (e.1, e.2) (λ n. c.loop-i.invariant.1 ∙ case_step (declared_seen f.locals.kept ds) p (frame_seen f) zs c.loop-i.i c.case_target-target.result c.case_target-target.ensures ∙ here n (branched_cases (declared_seen f.locals.kept ds) p (frame_seen f) (drop (c.loop-i.i + 1) zs)))

pub loop-i-preserved : goal.loop-i-preserved
loop-i-preserved c =
    let f = c.args.outcome.now in
    let p = c.args.p.now in
    let ds = c.args.declared.now in
    let zs = cases_of p.instruction in
    let fits : FitsSigned w128 c.case_target-target.result = search (rules, c.case_target-target.type_inv) in
    let number = to_z-of_z w128 c.case_target-target.result fits in
    let said = subst (λ (z : ℤ). IsMet (declared_seen c.loop-i.outcome.locals.kept ds) p (frame_seen c.loop-i.outcome) z) number c.in_ok-meet_next.ensures.ok in
    let here = subst (λ (x : Flow). IsMet (declared_seen x.locals.kept ds) p (frame_seen x) c.case_target-target.result) c.loop-i.invariant.0 said in (
      c.meet_next.ensures.same ∙ c.loop-i.invariant.0,
      c.loop-i.invariant.1 ∙ case_step (declared_seen f.locals.kept ds) p (frame_seen f) zs c.loop-i.i c.case_target-target.result c.case_target-target.ensures ∙ here (branched_cases (declared_seen f.locals.kept ds) p (frame_seen f) (drop (c.loop-i.i + 1) zs)),
      subst (λ (x : Flow). IsMet (declared_seen x.locals.kept ds) p (frame_seen x) (to_z w128 (of_z w128 c.case_target-target.result))) c.loop-i.invariant.0 c.in_ok-meet_next.ensures.ok,
    )
