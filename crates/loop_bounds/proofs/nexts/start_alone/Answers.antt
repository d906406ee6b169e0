use Rattle.std.proofs.Common.{◌≡◌, [], ◌∷◌, ◌++◌, List, ap, ◌∙◌}
use Rattle.std.specs.Prelude.{Some, slice_get}
use Rattle.unrolled.specs.Graph.{entered}
use Rattle.unrolled.specs.Rules.{rules_of}
use Rattle.unrolled.specs.Certificates.{Point}
use Rattle.search.specs.declared.point.Point as plain
use Rattle.search.specs.Seen.{operands_seen}
use Rattle.loop_bounds.specs.Nexts.{at_node}
use Rattle.loop_bounds.specs.Found.{points_seen}
use Rattle.loop_bounds.proofs.Starting.{some_row}
use Rattle.loop_bounds.proofs.nexts.start_alone.Goals as goal

pub returns-clause-start : goal.returns-clause-start
returns-clause-start c d m are follow method =
    let row = some_row c.args.methods.now c.in-Some.i c.args.number c.in-Some.ensures.within c.in-Some.ensures.number in
    let at : slice_get d.methods row.0.number ≡ Some m = ap (slice_get d.methods) row.2 ∙ method in
    let one = c.in_ok-start.ensures.start d row.0 m are follow row.1 at in
    let items = c.in_ok-push.ensures.items ∙ ap (λ (l : List plain.Point). l ++ c.in_ok-start.start ∷ []) c.new-to.ensures.items in
    ap points_seen items ∙ ap (λ (k : Point). k ∷ []) (one ∙ ap (λ n. at_node n (entered (rules_of d n) m (operands_seen c.args.arguments.now))) row.2)
