use Rattle.std.proofs.Common.{rules, FitsSigned, subst, arith}
use Rattle.std.specs.Int.{w128}
use Rattle.std.proofs.lemmas.Int.{to_z-of_z}
use Rattle.decode.specs.Places.{cases_of}
use Rattle.search.specs.After.{IsPlace}
use Rattle.loop_bounds.proofs.Lists.{all_at, one_at}
use Rattle.loop_bounds.proofs.places.cases_fit.Goals as goal

pub loop-i-preserved : goal.loop-i-preserved
loop-i-preserved c =
    let fits : FitsSigned w128 c.case_target.result = search (rules, c.case_target.type_inv) in
    let number = to_z-of_z w128 c.case_target.result fits in
    one_at IsPlace (cases_of c.args.instruction.now) c.loop-i.i c.case_target.result c.case_target.ensures (subst IsPlace number (c.fits.ensures cc)) c.loop-i.invariant

pub returns : goal.returns
returns c _ = all_at IsPlace (cases_of c.args.instruction.now) c.loop-i.i (omega arith) c.loop-i.invariant
