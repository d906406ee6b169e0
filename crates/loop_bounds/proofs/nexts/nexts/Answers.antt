use Rattle.std.proofs.Common.{◌≡◌, get_or, Some, ap, sym, ◌∙◌, subst}
use Rattle.std.specs.Prelude.{slice_get, IfOk, MatchOption}
use Rattle.std.proofs.lemmas.Option.{slice_get-get_or}
use Rattle.decode.specs.Places.{at_place}
use Rattle.typecheck.specs.declared.typed.Typed.{Typed}
use Rattle.unrolled.specs.Rules.{rules_of}
use Rattle.search.specs.Seen.{node_seen}
use Rattle.loop_bounds.specs.Nexts.{at_node, AreNexts, IsDeadEnd}
use Rattle.loop_bounds.specs.Found.{points_seen}
use Rattle.loop_bounds.proofs.Starting.{some_row}
use Rattle.loop_bounds.proofs.nexts.nexts.Goals as goal

pub returns-in-Some-at-clause-answer : goal.returns-in-Some-at-clause-answer
returns-in-Some-at-clause-answer c d are follow has =
    let rows = c.args.methods.now in
    let k = c.args.k.now in
    let row = some_row rows c.in-Some.i k.method c.in-Some.ensures.within c.in-Some.ensures.number in
    let here : slice_get rows c.in-Some.i ≡ Some (get_or rows c.in-Some.i c.index-methods-i.result) = slice_get-get_or rows c.in-Some.i c.index-methods-i.result c.in-Some.ensures.within in
    let there : slice_get rows c.in-Some.i ≡ Some row.0 = row.1 in
    let same : get_or rows c.in-Some.i c.index-methods-i.result ≡ row.0 = cc (here, there) in
    let at : at_place row.0.code k.node.place ≡ Some c.in-Some-at.p.now = ap (λ (t : Typed). at_place t.code k.node.place) (sym same) ∙ sym c.in-Some-at.ensures in
    subst (λ n. IfOk c.nexts_of.result (λ o. MatchOption o (IsDeadEnd d (rules_of d) (at_node n (node_seen k.node))) (λ ys. AreNexts d (rules_of d) (at_node n (node_seen k.node)) (points_seen ys.items)))) row.2
    (c.nexts_of.ensures.answer d row.0 are follow row.1 at)
