use Rattle.std.proofs.lemmas.Result.{err_from_is_err_and}
use Rattle.verdict.proofs.Methods.{codes_of_good}
use Rattle.verdict.proofs.Shapes.{method_refuses, names_refuse, good_shape}
use Rattle.verdict.proofs.shape.judge_shape.Goals as goal

pub returns-in_err-codes : goal.returns-in_err-codes
returns-in_err-codes c =
    let p = err_from_is_err_and c.from_residual-in_err-codes.result c.from_residual-in_err-codes.ensures.1 in
    rw (p.1, p.2) (method_refuses c.args.class.now.pool c.args.class.now.parts c.in_err-codes.field-0.0 (rw c.as_slice-methods.ensures at c.in_err-codes.ensures))

pub judge_constructors-requires : goal.judge_constructors-requires
judge_constructors-requires c =
    let good = rw c.as_slice-methods.ensures at c.in_ok-codes.ensures in
    rw c.deref.ensures.value (codes_of_good c.args.class.now.pool c.args.class.now.parts c.args.class.now.parts.methods c.in_ok-codes.codes.items good)

pub returns-in_err-judge_names : goal.returns-in_err-judge_names
returns-in_err-judge_names c =
    let p = err_from_is_err_and c.from_residual-in_err-judge_names.result c.from_residual-in_err-judge_names.ensures.1 in
    rw (p.1, p.2) (names_refuse c.args.class.now.pool c.args.class.now.parts c.in_err-judge_names.field-0.0 (rw c.as_slice-methods.ensures at c.in_err-judge_names.ensures))

pub returns : goal.returns
returns c =
    good_shape c.args.class.now.pool c.args.class.now.parts _ _ c.in_ok-judge_header.ensures (rw c.as_slice-methods.ensures at c.in_ok-codes.ensures) c.in_ok-constructor.ensures (rw c.as_slice-methods.ensures at c.in_ok-judge_names.ensures)
