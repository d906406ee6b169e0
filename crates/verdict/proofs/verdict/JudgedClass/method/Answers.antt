use Rattle.std.proofs.Common.{rules, ltb, ◌≢◌, ◌≡◌, ◌<◌, get_or, length, ap, sym, subst, ◌∙◌, arith}
use Rattle.std.proofs.lemmas.List.Sorted.{IsPartitionPoint-from_clause, IsPartitionedBy-ltb}
use Rattle.decode.proofs.Search.{non_decreasing}
use Rattle.typecheck.specs.declared.typed.Typed.{Typed}
use Rattle.verdict.specs.Judged.{Judged, NumbersRise}
use Rattle.verdict.proofs.RowsFound.{there, none_there}
use Rattle.verdict.proofs.verdict.JudgedClass.method.Goals.{in_default-via-in-Some+else-m-number, in_default-via-in_default}
use Rattle.verdict.proofs.verdict.JudgedClass.method.Goals as goal

pub returns-in-Some : goal.returns-in-Some
returns-in-Some c = λ rise.
    let h = c.in-Some.ensures.lookup in
    let same : c.as_slice-rows.result.now ≡ c.args.self.now.methods = c.as_slice-rows.ensures.value ∙ ap (λ (v : Judged). v.methods) c.self.view_is in
    there c.args.self.now.methods c.as_slice-rows.result.now same rise c.args.number c.partition_point-i.result c.in-Some.m.now h.3.0 h.1 c.if-m-number.true

pub returns-in_default : goal.returns-in_default
returns-in_default c = λ rise.
    let rows = c.as_slice-rows.result.now in
    let same : rows ≡ c.args.self.now.methods = c.as_slice-rows.ensures.value ∙ ap (λ (v : Judged). v.methods) c.self.view_is in
    let rising : NumbersRise rows = subst NumbersRise (sym same) rise in
    let parted = IsPartitionedBy-ltb (λ (y : Typed). y.number) rows c.args.number (non_decreasing (λ y. y.number) rows rising) in
    let point = IsPartitionPoint-from_clause (λ (y : Typed). ltb y.number c.args.number) rows c.partition_point-i.result c.partition_point-i.ensures.partitioned parted (λ x b f' k. search rules) in
    let other : (d : Typed) → c.partition_point-i.result < length rows → (get_or rows c.partition_point-i.result d).number ≢ c.args.number = λ d lt.
    elim c.in_default.branch [
      | in_default-via-in-Some+else-m-number w ↦ λ q. w.if-m-number.false (ap (λ (p : Typed). p.number) (w.in-Some.ensures.lookup.3.1 d) ∙ q)
      | in_default-via-in_default w ↦ λ q. omega (arith, w.in_default.ensures.lookup.3)
    ] in
    none_there c.args.self.now.methods rows same rise c.args.number c.partition_point-i.result point other
