use Rattle.std.proofs.Common.{◌≡◌, length, Option, Some, ap, ◌∙◌, subst}
use Rattle.std.specs.Prelude.{slice_get, MatchOption, Vec}
use Rattle.std.specs.declared.alloc.Global.{Global}
use Rattle.unrolled.specs.Rules.{rules_of}
use Rattle.search.specs.declared.point.Point as plain
use Rattle.search.specs.Points.{point_seen}
use Rattle.loop_bounds.specs.Nexts.{AreNexts, IsDeadEnd}
use Rattle.loop_bounds.specs.Found.{points_seen, EachHasMethod}
use Rattle.loop_bounds.proofs.Lists.{read_is}
use Rattle.loop_bounds.proofs.Exploring.{dead, grown}
use Rattle.loop_bounds.proofs.explore.expand.Goals as goal

abbrev Nexts : Type 0
Nexts = Option (Vec plain.Point Global)

pub returns-in-None-clause-dead : goal.returns-in-None-clause-dead
returns-in-None-clause-dead c start g size is =
    let points = c.args.found.now.points.items in
    let k = c.index.result.now in
    let at : slice_get points (length g) ≡ Some k = ap (slice_get points) size ∙ read_is points c.args.i k c.requires.more c.index.ensures in
    dead c.args.methods.now c.args.fs.now start c.args.found.now g k is at
    (λ d are follow has. subst (λ (o : Nexts). MatchOption o (IsDeadEnd d (rules_of d) (point_seen k)) (λ ys. AreNexts d (rules_of d) (point_seen k) (points_seen ys.items))) c.in-None.is
    (c.in_ok-nexts.ensures.answer d are follow has))

pub returns-in_ok-row-in-Some-clause-grown : goal.returns-in_ok-row-in-Some-clause-grown
returns-in_ok-row-in-Some-clause-grown c start g size is =
    let rows = c.args.methods.now in
    let points = c.args.found.now.points.items in
    let k = c.index.result.now in
    let at : slice_get points (length g) ≡ Some k = ap (slice_get points) size ∙ read_is points c.args.i k c.requires.more c.index.ensures in
    grown rows c.args.fs.now start c.args.found.now c.note_all.new.found g k (points_seen c.in-Some.ys.items) c.in_ok-row-in-Some.row.items is at
    (λ d are follow has. subst (λ (o : Nexts). MatchOption o (IsDeadEnd d (rules_of d) (point_seen k)) (λ ys. AreNexts d (rules_of d) (point_seen k) (points_seen ys.items))) c.in-Some.is
    (c.in_ok-nexts.ensures.answer d are follow has))
    (subst (λ (o : Nexts). MatchOption o (Unit {0}) (λ ys. EachHasMethod rows (points_seen ys.items))) c.in-Some.is c.in_ok-nexts.ensures.methods)
    c.in_ok-row-in-Some.ensures.found c.in_ok-row-in-Some.ensures.grows c.in_ok-row-in-Some.ensures.linked c.in_ok-row-in-Some.ensures.below
