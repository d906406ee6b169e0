use Rattle.std.proofs.Common.{rules, ◌≡◌, ◌<◌, ℕ, List, length, get_or, take, reverse, Some, refl, sym, ◌∙◌, subst, arith, vec_len}
use Rattle.std.specs.Prelude.{slice_get, slice_set}
use Rattle.std.proofs.lemmas.List.{length-set}
use Rattle.std.proofs.lemmas.Option.{slice_get-get_or}
use Rattle.bounds.specs.Cells.{Cell}
use Rattle.search.specs.Orders.{items_of, links_at}
use Rattle.search.specs.Points.{point_seen}
use Rattle.search.proofs.Steps.{row_is}
use Rattle.loop_bounds.specs.Found.{points_seen}
use Rattle.loop_bounds.specs.Tables.{IsCellOf, AreCosts}
use Rattle.loop_bounds.proofs.Lists.{read_is, mapped_at, taken_whole}
use Rattle.loop_bounds.proofs.Filled.{next_done, links_done, is_below, costs_more}
use Rattle.loop_bounds.proofs.costs.costs_of.Goals as goal

pub offset_bounds-points-n : goal.offset_bounds-points-n
offset_bounds-points-n c =
    let at = slice_get-get_or c.args.order.now c.loop-i.i 0 c.loop-i-test.true in
    let h = is_below (length c.args.points.now) c.args.order.now c.loop-i.i (get_or c.args.order.now c.loop-i.i 0) at c.requires.below in
    search (rules, h)

pub bounds-points-n : goal.bounds-points-n
bounds-points-n c =
    let at = slice_get-get_or c.args.order.now c.loop-i.i 0 c.loop-i-test.true in
    is_below (length c.args.points.now) c.args.order.now c.loop-i.i (get_or c.args.order.now c.loop-i.i 0) at c.requires.below

pub offset_bounds-links-n : goal.offset_bounds-links-n
offset_bounds-links-n c =
    let at = slice_get-get_or c.args.order.now c.loop-i.i 0 c.loop-i-test.true in
    let low = is_below (length c.args.points.now) c.args.order.now c.loop-i.i (get_or c.args.order.now c.loop-i.i 0) at c.requires.below in
    let size = c.requires.size in
    let h : get_or c.args.order.now c.loop-i.i 0 < length c.args.links.now = omega (arith, low, size) in
    search (rules, h)

pub bounds-links-n : goal.bounds-links-n
bounds-links-n c =
    let at = slice_get-get_or c.args.order.now c.loop-i.i 0 c.loop-i-test.true in
    let low = is_below (length c.args.points.now) c.args.order.now c.loop-i.i (get_or c.args.order.now c.loop-i.i 0) at c.requires.below in
    let size = c.requires.size in
    omega (arith, low, size)

pub index_mut-requires : goal.index_mut-requires
index_mut-requires c =
    let at = slice_get-get_or c.args.order.now c.loop-i.i 0 c.loop-i-test.true in
    let low = is_below (length c.args.points.now) c.args.order.now c.loop-i.i (get_or c.args.order.now c.loop-i.i 0) at c.requires.below in
    let size = c.loop-i.invariant.size in
    let count : vec_len c.loop-i.costs ≡ length c.loop-i.costs.items = omega arith in
    omega (arith, low, size, count)

pub loop-i-preserved : goal.loop-i-preserved
loop-i-preserved c =
    let rows = c.args.methods.now in
    let points = c.args.points.now in
    let order = c.args.order.now in
    let cells = c.loop-i.costs.items in
    let n : ℕ = get_or order c.loop-i.i 0 in
    let g = items_of c.args.links.now in
    let at = slice_get-get_or order c.loop-i.i 0 c.loop-i-test.true in
    let low : n < length points = is_below (length points) order c.loop-i.i n at c.requires.below in
    let size = c.loop-i.invariant.size in
    let sizes = c.requires.size in
    let k = c.index-points-n.result in
    let seen : slice_get (points_seen points) n ≡ Some (point_seen k) = mapped_at point_seen points n k (read_is points n k low c.index-points-n.is) in
    let row : links_at g n ≡ c.index-links-n.result.items = row_is c.args.links.now n c.index-links-n.result (omega (arith, low, sizes)) c.index-links-n.is in
    let first : IsCellOf rows c.deref.result.now (point_seen k) c.deref-in-loop-i.result.now c.cost_of.result = c.cost_of.ensures (c.requires.methods n (point_seen k) seen) in
    let second : IsCellOf rows cells (point_seen k) c.deref-in-loop-i.result.now c.cost_of.result = subst (λ (l : List Cell). IsCellOf rows l (point_seen k) c.deref-in-loop-i.result.now c.cost_of.result) c.deref.ensures.value first in
    let cell : IsCellOf rows cells (point_seen k) (links_at g n) c.cost_of.result =
    subst (λ (l : List ℕ). IsCellOf rows cells (point_seen k) l c.cost_of.result) (c.deref-in-loop-i.ensures.value ∙ sym row) second in
    let next = slice_set cells n c.cost_of.result in
    record {
      size = length-set cells n c.cost_of.result ∙ size;
      costs = subst (λ (done : List ℕ). AreCosts rows (points_seen points) g done next) (sym (next_done order c.loop-i.i n at))
          (costs_more rows (points_seen points) g (reverse (take c.loop-i.i order)) n (point_seen k) cells next c.cost_of.result c.loop-i.invariant.costs cell seen (omega (arith, low, size)) (links_done g order c.loop-i.i n at c.requires.order) refl);
    }

pub returns : goal.returns
returns c =
    subst (λ (l : List ℕ). AreCosts c.args.methods.now (points_seen c.args.points.now) (items_of c.args.links.now) (reverse l) c.loop-i.costs.items) (taken_whole c.args.order.now c.loop-i.i c.loop-i-test.false)
    c.loop-i.invariant.costs
