use Rattle.std.proofs.Common.{◌≡◌, [], ◌∷◌, List, refl, ap, sym, ◌∙◌, subst}
use Rattle.unrolled.specs.Known.{Known}
use Rattle.unrolled.specs.Graph.{entered, process_arguments}
use Rattle.unrolled.specs.Rules.{rules_of}
use Rattle.search.specs.declared.known.Known.TheVariants as variant
use Rattle.search.specs.declared.node.Following.{Following}
use Rattle.search.specs.Followed.{AreFollowings}
use Rattle.search.specs.Seen.{operands_seen}
use Rattle.loop_bounds.specs.Nexts.{at_node}
use Rattle.loop_bounds.proofs.listing.list_nodes.Goals as goal

-- the arguments of `process` as the code has them, the last one last
arguments_seen : operands_seen (variant.Narrow ∷ variant.Narrow ∷ variant.Arguments ∷ []) ≡ process_arguments
unfolding operands_seen
arguments_seen = refl

pub returns : goal.returns
returns c d row m are at method =
    let rows = c.args.methods.now in
    let first : AreFollowings rows c.deref.result.now = subst (λ (l : List Following). AreFollowings rows l) (sym c.deref.ensures.value) c.in_ok-fs.ensures in
    let second : AreFollowings rows c.deref-2.result.now = subst (λ (l : List Following). AreFollowings rows l) (sym c.deref-2.ensures.value) c.in_ok-fs.ensures in
    c.search_from.ensures d row.number m are second c.has_loops.ensures
    (c.in_ok-first.ensures.start d row m are first at method ∙ ap (λ (l : List Known). at_node row.number (entered (rules_of d row.number) m l)) arguments_seen)
