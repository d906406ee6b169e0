use Rattle.std.proofs.Common.{rules, arith, ap, ◌∙◌, FitsSigned}
use Rattle.std.specs.Int.{w128}
use Rattle.std.proofs.lemmas.Int.{to_z-of_z}
use Rattle.decode.specs.Places.{cases_of}
use Rattle.bounds.specs.Cells.{either, cell_at_target}
use Rattle.bounds.proofs.Cases.{none_yet, one_more, all_seen}
use Rattle.bounds.proofs.costs.cost_of_cases.Goals as goal

pub loop-left-init : goal.loop-left-init
loop-left-init c = (omega (arith, c.case_count-left.ensures), none_yet c.args.costs.now (cases_of c.args.p.now.instruction) c.case_count-left.result c.args.default (omega (arith, c.case_count-left.ensures)))

pub loop-left-preserved : goal.loop-left-preserved
loop-left-preserved c =
    let zs = cases_of c.args.p.now.instruction in
    let fits : FitsSigned w128 c.case_target.result = search (rules, c.case_target.type_inv) in
    let number = to_z-of_z w128 c.case_target.result fits in
    let is = c.cost_at_target.ensures ∙ ap (cell_at_target c.args.costs.now) number in (
      omega (arith, c.loop-left.invariant.0),
      one_more c.args.costs.now zs c.loop-left.left c.case_target.result c.loop-left.greatest c.or-greatest.result c.args.default (omega (arith, c.loop-left-test.true)) c.case_target.ensures c.loop-left.invariant.1 (c.or-greatest.ensures ∙ ap (λ x. either x c.loop-left.greatest) is),
    )

pub returns : goal.returns
returns c = all_seen c.args.costs.now (cases_of c.args.p.now.instruction) c.loop-left.left c.loop-left.greatest c.args.default c.loop-left-test.false c.loop-left.invariant.1
