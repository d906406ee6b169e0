use Rattle.std.proofs.lemmas.Result.{err_from_is_err_and}
use Rattle.classfile.specs.View.{method_view, view_of}
use Rattle.verdict.proofs.Descriptors.{descriptor_fails}
use Rattle.verdict.proofs.shape.judge_descriptor.Goals as goal

pub returns-in_err-sig : goal.returns-in_err-sig
returns-in_err-sig c =
    let p = err_from_is_err_and c.from_residual.result c.from_residual.ensures.1 in
    rw (p.1, p.2) (descriptor_fails (view_of c.args.class.now.pool c.args.class.now.parts) (method_view c.args.class.now.pool c.args.method.now) _ c.in_err-sig.field-0.0 c.method_descriptor-descriptor.ensures c.in_err-sig.ensures.refused)
