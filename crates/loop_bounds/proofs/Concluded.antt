-- What the search answers about a class.
use Rattle.std.proofs.Common.{◌≡◌, ℕ, ◌<◌, Bool, true, List, length, reverse, Some, ◌⊎◌, inl, inr, sym, ◌∙◌, subst, arith}
use Rattle.std.specs.Prelude.{slice_get}
use Rattle.std.proofs.lemmas.List.{length-map}
use Rattle.std.proofs.lemmas.Option.{slice_get_within}
use Rattle.typecheck.specs.Typing.{Method, Class}
use Rattle.typecheck.specs.declared.typed.Typed.{Typed}
use Rattle.bounds.specs.Cells.{Cell, cell_at}
use Rattle.unrolled.specs.Graph.{Node}
use Rattle.unrolled.specs.Rules.{rules_of, has_loops}
use Rattle.unrolled.specs.Paths.{start_node}
use Rattle.unrolled.specs.Cover.{IsCover}
use Rattle.unrolled.specs.Tables.{Costs, IsTable}
use Rattle.unrolled.specs.Certificates.{Point, is_in, covers, rank_in}
use Rattle.unrolled.specs.Circles.{values_in}
use Rattle.unrolled.specs.Limits.{start_point, node_limit, value_limit, IsUnrolled, IsTooLarge, by_nodes, by_values}
use Rattle.unrolled.proofs.Greatest.{tables_are_bounds, each_has_table}
use Rattle.unrolled.proofs.Certificates.{certificates_cover}
use Rattle.search.specs.declared.node.Following.{Following}
use Rattle.search.specs.declared.point.Point as plain
use Rattle.search.specs.Points.{point_seen}
use Rattle.search.specs.Followed.{AreFollowings, have_loops}
use Rattle.search.specs.Orders.{Links, IsAmong, AreBelow, links_at}
use Rattle.loop_bounds.specs.declared.listing.Answer.{Answer}
use Rattle.loop_bounds.specs.declared.listing.Answer.TheVariants as answer
use Rattle.loop_bounds.specs.Methods.{AreMethodsOf}
use Rattle.loop_bounds.specs.Found.{points_seen}
use Rattle.loop_bounds.specs.Graphs.{IsExpanded, IsGraph, IsWhole, ReachesMore}
use Rattle.loop_bounds.specs.Tables.{AreCosts}
use Rattle.loop_bounds.specs.Listings.{listed, HasCost, IsOrdered, IsConclusion, IsAnswer}
use Rattle.loop_bounds.proofs.Certified.{covers_listed, in_listed, circle_of}
use Rattle.loop_bounds.proofs.Limits.{few_listed, few_values}

-- more than a limit is reached only where there are limits
pub too_large : (c : Class) (j : ℕ) (m : Method) (rows : List Typed) (limited : Bool) → AreMethodsOf c rows → limited ≡ have_loops rows → limited ≡ true → ReachesMore c (rules_of c) (start_point c j m) → IsTooLarge c j m
too_large c j m rows limited are e limits (xs, reached, over) = go over
  where
    loops : has_loops c.methods ≡ true
    loops = are.loops ∙ sym e ∙ limits

    go : (node_limit < length xs) ⊎ (value_limit < values_in xs) → IsTooLarge c j m
    go (inl l) = by_nodes xs loops reached l
    go (inr l) = by_values xs loops reached l

module _ (c : Class) (j : ℕ) (m : Method) (rows : List Typed) (fs : List Following) (limited : Bool) (are : AreMethodsOf c rows) (follow : AreFollowings rows fs) (same : limited ≡ have_loops rows)
    (points : List plain.Point) (g : Links) (all : IsWhole rows fs limited (start_point c j m) points g) where
  abbrev ps : List Point
  ps = points_seen points

  graph : IsGraph c (rules_of c) (start_point c j m) points g
  graph = all.graph c are follow

  size : length g ≡ length ps
  size = all.size ∙ sym (length-map points point_seen)

  module _ (order : List ℕ) (ordered : IsOrdered g order) where
    abbrev marks : List Point
    marks = listed ps (reverse order)

    passes : covers c (rules_of c) marks ≡ true
    passes = covers_listed c (rules_of c) ps g (reverse order) size graph.expanded (subst (λ n. AreBelow n (reverse order)) size ordered.below) ordered.rises

    starts : is_in (start_point c j m) marks ≡ true
    starts = in_listed ps (reverse order) 0 (start_point c j m) ordered.start all.first

    unrolled : IsUnrolled c j m marks
    unrolled = record {
      passes = passes;
      starts = starts;
      nodes = λ e.
          let few = few_listed ps (reverse order) ordered.distinct in
          let most = all.within.nodes (same ∙ sym are.loops ∙ e) in
          let count = length-map points point_seen in
          omega (arith, few, most, count);
      values = λ e.
          let few = few_values ps (reverse order) ordered.distinct in
          let most = all.within.values (same ∙ sym are.loops ∙ e) in
          omega (arith, few, most);
    }

    abbrev inside : ℕ → Node → Bool
    inside i x = is_in (record { method = i; node = x }) marks

    abbrev rank : ℕ → Node → ℕ
    rank i x = rank_in (record { method = i; node = x }) marks

    cover : IsCover c (rules_of c) inside rank
    cover = certificates_cover c (rules_of c) marks passes

    table : (t : Costs) × IsTable c (rules_of c) inside t
    table = each_has_table c (rules_of c) inside rank cover

    at_each : (n : ℕ) (k : Point) → IsAmong (reverse order) n → slice_get ps n ≡ Some k → (is_in k marks ≡ true) × IsExpanded c (rules_of c) ps k (links_at g n)
    at_each n k h e =
        let low : n < length ps = slice_get_within ps n k e in
        (in_listed ps (reverse order) n k h e, graph.expanded n k (omega (arith, low, size)) e)

    has_cost : (cells : List Cell) → AreCosts rows ps g (reverse order) cells → HasCost c j m (cell_at cells 0)
    has_cost cells costs = (
      table.0 j (start_node (rules_of c) j m),
      tables_are_bounds c (rules_of c) inside rank table.0 cover table.1 j (start_node (rules_of c) j m) starts,
      costs c marks table.0 are table.1 at_each 0 (start_point c j m) ordered.start all.first,
    )

  pub concluded : (a : Answer) → IsConclusion rows ps g a → IsAnswer c j m a
  concluded (answer.Listed l) (points_same, ordered, costs) =
      (subst (λ (qs : List Point). IsUnrolled c j m (listed qs (reverse l.order.items))) (sym points_same) (unrolled l.order.items ordered), has_cost l.order.items ordered l.costs.items costs)
  concluded answer.Circle r = circle_of c (rules_of c) ps g size graph.expanded (start_point c j m) all.first r
  concluded answer.TooLarge r = absurd r
  concluded answer.DeadEnd r = absurd r
