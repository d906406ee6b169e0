use Rattle.std.proofs.Common.{List, length, sym, subst}
use Rattle.unrolled.specs.Certificates.{Point}
use Rattle.search.specs.Points.{point_seen}
use Rattle.loop_bounds.specs.Found.{points_seen}
use Rattle.loop_bounds.specs.Graphs.{AreLinked}
use Rattle.loop_bounds.proofs.Lists.{map_more, mapped_at, yielded_at, yielded_more}
use Rattle.loop_bounds.proofs.Growth.{grows_more, linked_more, below_more, below_length}
use Rattle.loop_bounds.proofs.found.note_all.Goals as goal

pub loop-k-preserved : goal.loop-k-preserved
loop-k-preserved c =
    let i = c.loop-k.invariant in
    let k = c.in-Some.k in
    let steps = c.in-Some.ensures.steps.0 in
    let first = c.in_ok-n.ensures.grows in
    let number = c.in_ok-n.ensures.number in
    let new = c.note.new.found.points.items in
    record {
      rest = yielded_more c.loop-k.yielded _ _ c.args.ks.items k i.rest steps;
      found = c.in_ok-n.ensures.found;
      grows = grows_more _ _ _ (points_seen c.args.ks.items) (length c.loop-k.yielded) (point_seen k) i.grows (mapped_at point_seen c.args.ks.items (length c.loop-k.yielded) k (yielded_at c.loop-k.yielded _ _ c.args.ks.items k i.rest steps)) first;
      linked = subst (λ (ys : List Point). AreLinked (points_seen new) c.push.new.self.items ys) (sym (map_more point_seen c.loop-k.yielded k))
          (linked_more _ (points_seen new) c.loop-k.numbers.items _ (points_seen c.loop-k.yielded) c.in_ok-n.n (point_seen k) first.kept i.linked number c.in_ok-push.ensures.items);
      below = below_more (length c.loop-k.found.points.items) (length new) c.loop-k.numbers.items _ c.in_ok-n.n first.longer i.below (below_length new c.in_ok-n.n (point_seen k) number) c.in_ok-push.ensures.items;
    }
