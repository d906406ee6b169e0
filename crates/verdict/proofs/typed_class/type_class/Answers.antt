use Rattle.std.proofs.Common.{length}
use Rattle.std.proofs.lemmas.Result.{err_from_is_err_and}
use Rattle.classfile.specs.View.{view_of}
use Rattle.verdict.specs.Judging.{AreFound, AreTyped}
use Rattle.verdict.specs.Verdict.{IsClassFile}
use Rattle.verdict.proofs.Spots.{shape_told, instructions_told, types_told}
use Rattle.verdict.proofs.typed_class.type_class.Goals as goal

pub returns-clause-ok : goal.returns-clause-ok
returns-clause-ok c =
    let bytes = c.args.bytes.now in
    let pool = c.in_ok-class.class.pool in
    let p = c.in_ok-class.class.parts in
    let file : IsClassFile bytes pool p = record { laid_out = c.in_ok-class.ensures.found; none_stands = c.in_ok-class.ensures.accepted } in
    let n = c.in-Ok.shape.constructor in
    let codes = c.in-Ok.shape.codes.items in
    let items = c.in_ok-instructions.instructions.items in
    let rows = c.in_ok-methods.methods.items in
    let found : AreFound (view_of pool p) codes n (length codes) items = rw c.deref.ensures.value at c.in_ok-instructions.ensures.ok in
    let typed : AreTyped pool p n (length codes) rows = rw c.deref-2.ensures.value at c.in_ok-methods.ensures.ok in
    record { file = file; constructor = n; codes = codes; shape = c.in-Ok.ensures; items = items; found = found; typed = typed }

pub returns-in-Err-clause-err : goal.returns-in-Err-clause-err
returns-in-Err-clause-err c =
    let bytes = c.args.bytes.now in
    let pool = c.in_ok-class.class.pool in
    let p = c.in_ok-class.class.parts in
    let file : IsClassFile bytes pool p = record { laid_out = c.in_ok-class.ensures.found; none_stands = c.in_ok-class.ensures.accepted } in
    shape_told bytes pool p c.in_ok-shape_located-in-Err.field-0 file c.in_ok-shape_located-in-Err.ensures

pub returns-in_err-instructions-clause-err : goal.returns-in_err-instructions-clause-err
returns-in_err-instructions-clause-err c =
    let bytes = c.args.bytes.now in
    let pool = c.in_ok-class.class.pool in
    let p = c.in_ok-class.class.parts in
    let file : IsClassFile bytes pool p = record { laid_out = c.in_ok-class.ensures.found; none_stands = c.in_ok-class.ensures.accepted } in
    let e = err_from_is_err_and c.from_residual-in_err-instructions.result c.from_residual-in_err-instructions.ensures.1 in
    rw (e.1, e.2) (instructions_told bytes pool p c.in-Ok.shape.constructor c.in-Ok.shape.codes.items c.in_err-instructions.field-0.0 file c.in-Ok.ensures c.in_err-instructions.ensures.err)

pub returns-in_err-methods-clause-err : goal.returns-in_err-methods-clause-err
returns-in_err-methods-clause-err c =
    let bytes = c.args.bytes.now in
    let pool = c.in_ok-class.class.pool in
    let p = c.in_ok-class.class.parts in
    let file : IsClassFile bytes pool p = record { laid_out = c.in_ok-class.ensures.found; none_stands = c.in_ok-class.ensures.accepted } in
    let n = c.in-Ok.shape.constructor in
    let codes = c.in-Ok.shape.codes.items in
    let items = c.in_ok-instructions.instructions.items in
    let found : AreFound (view_of pool p) codes n (length codes) items = rw c.deref.ensures.value at c.in_ok-instructions.ensures.ok in
    let e = err_from_is_err_and c.from_residual-in_err-methods.result c.from_residual-in_err-methods.ensures.1 in
    rw (e.1, e.2) (types_told bytes pool p n codes items c.in_err-methods.field-0.0 file c.in-Ok.ensures found c.in_err-methods.ensures.err)
