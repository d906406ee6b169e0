use Rattle.std.proofs.Common.{ap, Err}
use Rattle.std.proofs.lemmas.Result.{err_from_is_err_and}
use Rattle.jtypes.specs.declared.refusal.Refusal.{Refusal}
use Rattle.verdict.specs.TypedClasses.{IsTypedClass}
use Rattle.verdict.proofs.Accepted.{is_accepted, has_class, is_judged_as, has_bounds}
use Rattle.verdict.proofs.Refused.{bounds_refused}
use Rattle.verdict.proofs.Spots.{refused_is}
use Rattle.verdict.proofs.verdict.judge.Goals as goal

pub returns-clause-found : goal.returns-clause-found
returns-clause-found c = c.in-Ok.ensures.ok.file.laid_out

pub returns-clause-accepted : goal.returns-clause-accepted
returns-clause-accepted c =
    let bytes = c.args.bytes.now in
    let pool = c.in-Ok.found.class.pool in
    let p = c.in-Ok.found.class.parts in
    let rows = c.in-Ok.found.methods.items in
    let t : IsTypedClass bytes pool p rows = c.in-Ok.ensures.ok in
    let bound = rw c.deref.ensures.value at c.in_ok-bounds.ensures in
    is_accepted bytes pool p t.constructor t.codes t.shape t.items t.found rows t.typed t.file.laid_out t.file.none_stands c.in_ok-bounds.bounds bound.ordered bound.answer bound.limits bound.lengths

pub returns-clause-class : goal.returns-clause-class
returns-clause-class c =
    let bytes = c.args.bytes.now in
    let pool = c.in-Ok.found.class.pool in
    let p = c.in-Ok.found.class.parts in
    let rows = c.in-Ok.found.methods.items in
    let t : IsTypedClass bytes pool p rows = c.in-Ok.ensures.ok in
    has_class bytes pool p t.constructor t.codes t.shape t.items t.found rows t.typed t.file.laid_out t.file.none_stands

pub returns-clause-judged : goal.returns-clause-judged
returns-clause-judged c =
    let bytes = c.args.bytes.now in
    let pool = c.in-Ok.found.class.pool in
    let p = c.in-Ok.found.class.parts in
    let rows = c.in-Ok.found.methods.items in
    let t : IsTypedClass bytes pool p rows = c.in-Ok.ensures.ok in
    is_judged_as bytes pool p t.constructor t.codes t.shape t.items t.found rows t.typed t.file.laid_out t.file.none_stands c.in_ok-bounds.bounds

pub returns-clause-bounds : goal.returns-clause-bounds
returns-clause-bounds c =
    let bytes = c.args.bytes.now in
    let pool = c.in-Ok.found.class.pool in
    let p = c.in-Ok.found.class.parts in
    let rows = c.in-Ok.found.methods.items in
    let t : IsTypedClass bytes pool p rows = c.in-Ok.ensures.ok in
    let bound = rw c.deref.ensures.value at c.in_ok-bounds.ensures in
    has_bounds bytes pool p t.constructor t.codes t.shape t.items t.found rows t.typed t.file.laid_out t.file.none_stands c.in_ok-bounds.bounds bound.ordered bound.answer

pub returns-in-Err-clause-refused : goal.returns-in-Err-clause-refused
returns-in-Err-clause-refused c = refused_is c.args.bytes.now c.in-Err.located c.in-Err.ensures.err

pub returns-in_err-bounds-clause-refused : goal.returns-in_err-bounds-clause-refused
returns-in_err-bounds-clause-refused c =
    let bytes = c.args.bytes.now in
    let pool = c.in-Ok.found.class.pool in
    let p = c.in-Ok.found.class.parts in
    let rows = c.in-Ok.found.methods.items in
    let t : IsTypedClass bytes pool p rows = c.in-Ok.ensures.ok in
    let bound = rw c.deref.ensures.value at c.in_err-bounds.ensures in
    let refusal : Refusal = c.in_err-bounds.field-0.0 in
    let e = err_from_is_err_and c.from_residual.result c.from_residual.ensures.1 in
    rw (e.1, e.2) (bounds_refused bytes pool p t.constructor t.codes t.shape t.items t.found rows t.typed t.file refusal bound.refusal bound.judged bound.limit bound.recursive (λ s. bound.lacking (ap Err s)) (λ s. bound.process (ap Err s)) bound.answer)
