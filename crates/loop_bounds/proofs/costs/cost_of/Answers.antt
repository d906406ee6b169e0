use Rattle.std.proofs.Common.{◌≡◌, get_or, Some, None, ap, sym, ◌∙◌, subst}
use Rattle.std.specs.Prelude.{slice_get, option_copied}
use Rattle.std.proofs.lemmas.Option.{slice_get-get_or}
use Rattle.decode.specs.Places.{at_place}
use Rattle.typecheck.specs.Calls.{AreRising}
use Rattle.typecheck.specs.declared.typed.Typed.{Typed}
use Rattle.search.specs.Points.{point_seen}
use Rattle.loop_bounds.specs.Tables.{cell_by}
use Rattle.loop_bounds.proofs.Lists.{read_is}
use Rattle.loop_bounds.proofs.Starting.{some_row}
use Rattle.loop_bounds.proofs.Costed.{cell_is, stands_there}
use Rattle.loop_bounds.proofs.costs.cost_of.Goals as goal

pub returns-in-Some-at : goal.returns-in-Some-at
returns-in-Some-at c has d ps marks t are table inside expanded cells =
    let rows = c.args.methods.now in
    let k = c.args.k.now in
    let row = some_row rows c.in-Some.i k.method c.in-Some.ensures.within c.in-Some.ensures.number in
    let here : slice_get rows c.in-Some.i ≡ Some (get_or rows c.in-Some.i c.index-methods-i.result) = slice_get-get_or rows c.in-Some.i c.index-methods-i.result c.in-Some.ensures.within in
    let further : slice_get rows c.in-Some.i ≡ Some c.index-methods-i-in-Some-at.result = read_is rows c.in-Some.i c.index-methods-i-in-Some-at.result c.in-Some.ensures.within c.index-methods-i-in-Some-at.is in
    let there : slice_get rows c.in-Some.i ≡ Some row.0 = row.1 in
    let same : get_or rows c.in-Some.i c.index-methods-i.result ≡ row.0 = cc (here, there) in
    let also : c.index-methods-i-in-Some-at.result ≡ row.0 = cc (further, there) in
    let at : at_place row.0.code k.node.place ≡ Some c.in-Some-at.p.now = ap (λ (z : Typed). at_place z.code k.node.place) (sym same) ∙ sym c.in-Some-at.ensures in
    let of = are.each c.in-Some.i row.0 row.1 in
    subst (λ (z : Typed). AreRising z.calls.items → c.cost_by.result ≡ cell_by z k.node.place c.in-Some-at.p.now.instruction c.args.costs.now c.args.numbers.now) also c.cost_by.ensures of.calls.rising
    ∙ cell_is d marks t table ps c.args.costs.now (point_seen k) c.args.numbers.now row.0 c.in-Some-at.p.now inside of row.2 at expanded cells

pub returns-in-None : goal.returns-in-None
returns-in-None c has d ps marks t are table inside expanded cells =
    let rows = c.args.methods.now in
    let k = c.args.k.now in
    let row = some_row rows c.in-Some.i k.method c.in-Some.ensures.within c.in-Some.ensures.number in
    let here : slice_get rows c.in-Some.i ≡ Some (get_or rows c.in-Some.i c.index-methods-i.result) = slice_get-get_or rows c.in-Some.i c.index-methods-i.result c.in-Some.ensures.within in
    let there : slice_get rows c.in-Some.i ≡ Some row.0 = row.1 in
    let same : get_or rows c.in-Some.i c.index-methods-i.result ≡ row.0 = cc (here, there) in
    let none : at_place row.0.code k.node.place ≡ None = ap (λ (z : Typed). at_place z.code k.node.place) (sym same) ∙ sym c.at.ensures ∙ ap option_copied c.in-None.is in
    absurd (stands_there d ps (point_seen k) c.args.numbers.now row.0 (are.each c.in-Some.i row.0 row.1) row.2 expanded none)
