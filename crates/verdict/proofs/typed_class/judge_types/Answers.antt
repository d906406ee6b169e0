use Rattle.std.proofs.Common.{List, map, ◌++◌, sym, ap, subst, ◌∙◌, ◌∷◌, [], Some, length, arith}
use Rattle.std.specs.Vec.Iter.{into_iter_items}
use Rattle.std.proofs.lemmas.Option.{slice_get-get_or, slice_get_within}
use Rattle.std.proofs.lemmas.List.Elements.{All-append}
use Rattle.classfile.specs.View.{ClassView, view_of}
use Rattle.typecheck.specs.Calls.{AreCallsOf}
use Rattle.classfile.specs.declared.class_file.CodeParts.{CodeParts}
use Rattle.verdict.specs.Judging.{IsFoundIn, IsTypedRow, numbers_but}
use Rattle.verdict.proofs.Judged.{has_instructions, first_of, rest_of, row_added, nothing_left, all_rows}
use Rattle.verdict.proofs.Numbered.{one_all, rest_other}
use Rattle.verdict.specs.declared.instructions.Found.{Found}
use Rattle.typecheck.specs.declared.typed.Typed.{Typed}
use Rattle.verdict.proofs.typed_class.judge_types.Goals as goal

pub judge_method-requires-clause-code : goal.judge_method-requires-clause-code
judge_method-requires-clause-code c =
    let pool = c.args.class.now.pool in
    let p = c.args.class.now.parts in
    let f = c.in-Some.field-0 in
    let parts = c.index-codes-number.result in
    let found = first_of (IsFoundIn (view_of pool p) c.args.codes.now) (into_iter_items c.loop-number.number-iterator) _ f c.loop-number.invariant.rest c.in-Some.ensures.steps.0 in
    let numbers = ap (λ (l : List Found). map (λ (t : Typed). t.number) c.loop-number.methods.items ++ map (λ (f : Found). f.number) l) (sym c.in-Some.ensures.steps.0) ∙ c.loop-number.invariant.numbers in
    let other = rest_other c.args.constructor (length c.args.codes.now) (map (λ (t : Typed). t.number) c.loop-number.methods.items) f.number _ numbers in
    has_instructions pool p c.args.constructor c.args.codes.now f parts c.requires.shape found (slice_get-get_or c.args.codes.now f.number parts (slice_get_within c.args.codes.now f.number found.parts found.there) ∙ ap (λ (x : CodeParts). Some x) (sym c.index-codes-number.is)) other

pub judge_method-requires-clause-calls : goal.judge_method-requires-clause-calls
judge_method-requires-clause-calls c =
    let pool = c.args.class.now.pool in
    let p = c.args.class.now.parts in
    let f = c.in-Some.field-0 in
    let found = first_of (IsFoundIn (view_of pool p) c.args.codes.now) (into_iter_items c.loop-number.number-iterator) _ f c.loop-number.invariant.rest c.in-Some.ensures.steps.0 in
    subst (λ (v : ClassView). AreCallsOf v f.code f.calls.items) (sym c.requires.members) found.calls

pub loop-number-preserved : goal.loop-number-preserved
loop-number-preserved c =
    let pool = c.args.class.now.pool in
    let p = c.args.class.now.parts in
    let f = c.in-Some.field-0 in
    let old = into_iter_items c.loop-number.number-iterator in
    let new = into_iter_items c.next.new.self in
    let steps = c.in-Some.ensures.steps in
    let at = c.loop-number.invariant in
    let row = c.in_ok-judge_method.field-0 in
    let methods = c.loop-number.methods.items in
    rw c.in_ok-push.ensures.items (record {
      numbers = row_added methods row old new f (numbers_but c.args.constructor (length c.args.codes.now)) at.numbers steps.0 c.in_ok-judge_method.ensures.number;
      each = All-append (IsTypedRow pool p) methods (row ∷ []) at.each (one_all (IsTypedRow pool p) row c.in_ok-judge_method.ensures.row);
      rest = rest_of (IsFoundIn (view_of pool p) c.args.codes.now) old new f at.rest steps.0;
      count = (let was = at.count in let gone = steps.1 in let short = ap length steps.0 in omega arith);
    })

pub returns-clause-ok : goal.returns-clause-ok
returns-clause-ok c =
    let items = into_iter_items c.loop-number.number-iterator in
    let at = c.loop-number.invariant in
    all_rows c.args.class.now.pool c.args.class.now.parts c.args.constructor (length c.args.codes.now) c.loop-number.methods.items items at.numbers at.each (nothing_left items (sym at.count ∙ c.in-None.ensures.steps.0))
