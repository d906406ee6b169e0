use Rattle.std.proofs.Common.{sym, ◌∙◌, ap, length, inr}
use Rattle.std.proofs.lemmas.List.{length-map}
use Rattle.std.proofs.lemmas.Result.{err_from_is_err_and}
use Rattle.constpool.specs.Names.{code_name}
use Rattle.classfile.specs.Code.{contents_named}
use Rattle.verdict.proofs.Codes.{bad_only, parts_refused, good_code}
use Rattle.verdict.proofs.shape.judge_code.Goals as goal

pub returns-in_default : goal.returns-in_default
returns-in_default c =
    let same = c.in_ok-codes.ensures ∙ ap (contents_named c.args.class.now.pool code_name) c.as_slice.ensures in
    let count = ap length c.deref.ensures.value ∙ sym (length-map c.in_ok-codes.codes.items (λ content. content.now)) in
    let none = sym (rw c.deref-2.ensures.value at c.in_ok-parts.ensures) ∙ c.in_default.is in
    inr (bad_only c.args.class.now.pool c.args.method.now _ _ same count (sym c.has_no_body.ensures ∙ c.if-has_no_body.false) none)

pub returns-in_err-judge_parts : goal.returns-in_err-judge_parts
returns-in_err-judge_parts c =
    let p = err_from_is_err_and c.from_residual-in_err-judge_parts.result c.from_residual-in_err-judge_parts.ensures.1 in
    let same = c.in_ok-codes.ensures ∙ ap (contents_named c.args.class.now.pool code_name) c.as_slice.ensures in
    let some = sym (rw c.deref-2.ensures.value at c.in_ok-parts.ensures) ∙ c.in-Some.is in
    rw (p.1, p.2) (parts_refused c.args.class.now.pool c.args.method.now _ c.in-Some.parts c.args.slots c.requires.0 c.in_err-judge_parts.field-0.0 same some c.requires.1 c.requires.2 c.in_err-judge_parts.ensures)

pub returns : goal.returns
returns c =
    let same = c.in_ok-codes.ensures ∙ ap (contents_named c.args.class.now.pool code_name) c.as_slice.ensures in
    let count = ap length c.deref.ensures.value ∙ sym (length-map c.in_ok-codes.codes.items (λ content. content.now)) in
    let some = sym (rw c.deref-2.ensures.value at c.in_ok-parts.ensures) ∙ c.in-Some.is in
    good_code c.args.class.now.pool c.args.method.now _ _ c.in-Some.parts c.args.slots c.requires.0 same count (sym c.has_no_body.ensures ∙ c.if-has_no_body.false) some c.requires.1 c.requires.2 c.in_ok-judge_parts.ensures
