use Rattle.std.proofs.Common.{◌≡◌, List, length, sym, ◌∙◌, subst, arith, vec_len}
use Rattle.search.specs.declared.point.Point as plain
use Rattle.search.specs.Points.{AreNumbers}
use Rattle.loop_bounds.proofs.Growth.{elsewhere, grows_added, values_added, added_at}
use Rattle.loop_bounds.proofs.found.add.Goals as goal

pub returns-clause-found : goal.returns-clause-found
returns-clause-found c =
    let points = c.args.found.now.points in
    let size : vec_len points ≡ length points.items = omega arith in
    record {
      numbers = subst (λ (l : List plain.Point). AreNumbers c.add_number.new.numbers l) (sym c.in_ok-push.ensures.items) (c.in_ok-add_number.ensures points.items (sym (c.len-n.ensures ∙ size)) c.requires.found.numbers);
      values = values_added points.items _ c.args.k c.args.found.now.values _ c.in_ok-push.ensures.items c.requires.found.values c.counted-found.ensures;
    }

pub returns-clause-grows : goal.returns-clause-grows
returns-clause-grows c =
    let points = c.args.found.now.points.items in
    grows_added points _ c.args.k c.in_ok-push.ensures.items (elsewhere c.args.found.now.numbers points c.args.k c.requires.found.numbers c.requires.new)

pub returns-clause-number : goal.returns-clause-number
returns-clause-number c =
    let points = c.args.found.now.points in
    let size : vec_len points ≡ length points.items = omega arith in
    added_at points.items _ c.args.k c.len-n.result c.in_ok-push.ensures.items (c.len-n.ensures ∙ size)
