use Rattle.std.proofs.Common.{refl, sym, ap, ◌∙◌, map, ◌≡◌, Some, Ok, List, ℕ}
use Rattle.std.specs.Prelude.{slice_get}
use Rattle.constpool.specs.Names.{stack_map_name}
use Rattle.classfile.specs.Code.{contents_named}
use Rattle.classfile.specs.View.{ClassView, MethodView, view_of, method_view}
use Rattle.frames.specs.Signatures.{method_signature}
use Rattle.frames.specs.declared.frame.Environment.{Environment}
use Rattle.verdict.proofs.Constructor.{item_at}
use Rattle.verdict.proofs.Judged.{body_judged, row_judged, same_view}
use Rattle.verdict.proofs.ParameterRoom.{starts_so, has_start, judged_room}
use Rattle.verdict.proofs.Types.{signature_is, types_located}
use Rattle.verdict.proofs.typed_class.judge_method.Goals as goal

pub returns-in-Ok-clause-row : goal.returns-in-Ok-clause-row
returns-in-Ok-clause-row c =
    let pool = c.args.class.now.pool in
    let p = c.args.class.now.parts in
    let parts = c.args.parts.now in
    let m = c.in-Some-get.member.now in
    let there = rw c.as_slice.ensures at (item_at _ _ _ c.in-Some-get.ensures.lookup.3) in
    let w : MethodView = record { flags = c.in-Some.method.flags; name = c.in-Some.method.name.now; descriptor = c.in-Some.method.descriptor.now } in
    let viewed : Some w ≡ slice_get (view_of pool p).methods c.args.number = c.in-Some.ensures ∙ ap (λ (v : ClassView). slice_get v.methods c.args.number) c.view-view.ensures in
    let e : Environment = record { signature = c.in-Some-2.signature; max_stack = parts.max_stack; max_locals = parts.max_locals } in
    let signed : method_signature (view_of pool p) (method_view pool m) ≡ Some e.signature =
    ap (method_signature (view_of pool p)) (same_view pool p c.args.number m w there viewed) ∙ ap (λ (v : ClassView). method_signature v w) (sym c.view-view.ensures) ∙ sym c.in_ok-signature.ensures ∙ c.in-Some-2.is
    in
    let tables : List (List ℕ) = map (λ t. t.now) c.deref.result.now in
    let are = ap (map (λ t. t.now)) c.deref.ensures.value ∙ c.in_ok-tables.ensures ∙ ap (contents_named pool stack_map_name) c.as_slice-2.ensures in
    let started : c.in-Some-new.start ≡ e = starts_so _ e c.in-Some-new.start (sym c.new.ensures ∙ c.in-Some-new.is) in
    let checked = rw (c.requires.members, started) at c.in-Ok.ensures in
    let body = body_judged pool p c.args.number parts c.args.code c.requires.code m there e signed refl refl tables are in
    row_judged pool p c.args.number c.args.code m there e tables body c.is_process-is_process.result c.is_process-is_process.ensures (Ok c.in-Ok.typed) checked.method checked.body checked.typed checked.starts checked.calls checked.declared

pub returns-clause-err : goal.returns-clause-err
returns-clause-err c =
    let pool = c.args.class.now.pool in
    let p = c.args.class.now.parts in
    let parts = c.args.parts.now in
    let m = c.in-Some-get.member.now in
    let there = rw c.as_slice.ensures at (item_at _ _ _ c.in-Some-get.ensures.lookup.3) in
    let w : MethodView = record { flags = c.in-Some.method.flags; name = c.in-Some.method.name.now; descriptor = c.in-Some.method.descriptor.now } in
    let viewed : Some w ≡ slice_get (view_of pool p).methods c.args.number = c.in-Some.ensures ∙ ap (λ (v : ClassView). slice_get v.methods c.args.number) c.view-view.ensures in
    let e : Environment = record { signature = c.in-Some-2.signature; max_stack = parts.max_stack; max_locals = parts.max_locals } in
    let signed : method_signature (view_of pool p) (method_view pool m) ≡ Some e.signature =
    ap (method_signature (view_of pool p)) (same_view pool p c.args.number m w there viewed) ∙ ap (λ (v : ClassView). method_signature v w) (sym c.view-view.ensures) ∙ sym c.in_ok-signature.ensures ∙ c.in-Some-2.is
    in
    let tables : List (List ℕ) = map (λ t. t.now) c.deref.result.now in
    let are = ap (map (λ t. t.now)) c.deref.ensures.value ∙ c.in_ok-tables.ensures ∙ ap (contents_named pool stack_map_name) c.as_slice-2.ensures in
    let started : c.in-Some-new.start ≡ e = starts_so _ e c.in-Some-new.start (sym c.new.ensures ∙ c.in-Some-new.is) in
    let checked = rw (c.requires.members, started) at c.in-Err.ensures in
    let body = body_judged pool p c.args.number parts c.args.code c.requires.code m there e signed refl refl tables are in
    types_located pool p c.args.number parts c.args.code c.requires.code m there e tables body c.in-Err.refusal checked.refused c.located.result c.located.ensures.refusal c.located.ensures.spot

pub returns-in_default-2-clause-err : goal.returns-in_default-2-clause-err
returns-in_default-2-clause-err c =
    let pool = c.args.class.now.pool in
    let p = c.args.class.now.parts in
    let m = c.in-Some-get.member.now in
    let there = rw c.as_slice.ensures at (item_at _ _ _ c.in-Some-get.ensures.lookup.3) in
    let w : MethodView = record { flags = c.in-Some.method.flags; name = c.in-Some.method.name.now; descriptor = c.in-Some.method.descriptor.now } in
    let viewed : Some w ≡ slice_get (view_of pool p).methods c.args.number = c.in-Some.ensures ∙ ap (λ (v : ClassView). slice_get v.methods c.args.number) c.view-view.ensures in
    let signed = c.in_ok-signature.ensures ∙ ap (λ (v : ClassView). method_signature v w) c.view-view.ensures in
    absurd (signature_is pool p c.args.number c.args.parts.now c.args.code c.requires.code m there w (same_view pool p c.args.number m w there viewed) c.in_ok-signature.field-0 signed c.in_default-2.not-Some)

pub returns-in_default-new-clause-err : goal.returns-in_default-new-clause-err
returns-in_default-new-clause-err c =
    let pool = c.args.class.now.pool in
    let p = c.args.class.now.parts in
    let parts = c.args.parts.now in
    let m = c.in-Some-get.member.now in
    let there = rw c.as_slice.ensures at (item_at _ _ _ c.in-Some-get.ensures.lookup.3) in
    let w : MethodView = record { flags = c.in-Some.method.flags; name = c.in-Some.method.name.now; descriptor = c.in-Some.method.descriptor.now } in
    let viewed : Some w ≡ slice_get (view_of pool p).methods c.args.number = c.in-Some.ensures ∙ ap (λ (v : ClassView). slice_get v.methods c.args.number) c.view-view.ensures in
    let e : Environment = record { signature = c.in-Some-2.signature; max_stack = parts.max_stack; max_locals = parts.max_locals } in
    let signed : method_signature (view_of pool p) (method_view pool m) ≡ Some e.signature =
    ap (method_signature (view_of pool p)) (same_view pool p c.args.number m w there viewed) ∙ ap (λ (v : ClassView). method_signature v w) (sym c.view-view.ensures) ∙ sym c.in_ok-signature.ensures ∙ c.in-Some-2.is
    in
    absurd (has_start e (judged_room pool p c.args.number parts c.args.code c.requires.code m there e signed refl) (sym c.new.ensures ∙ c.in_default-new.is))
