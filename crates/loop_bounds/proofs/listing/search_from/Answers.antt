use Rattle.std.proofs.Common.{sym, ◌∙◌, subst}
use Rattle.unrolled.specs.Certificates.{Point}
use Rattle.unrolled.specs.Limits.{start_point}
use Rattle.unrolled.specs.Rules.{rules_of}
use Rattle.search.specs.Orders.{items_of}
use Rattle.search.specs.Points.{point_seen}
use Rattle.search.proofs.Steps.{length-items_of}
use Rattle.loop_bounds.specs.declared.explore.Explored.{Explored}
use Rattle.loop_bounds.specs.Nexts.{ReachesDeadEnd}
use Rattle.loop_bounds.specs.Found.{points_seen}
use Rattle.loop_bounds.specs.Graphs.{IsExplored, IsWhole, ReachesMore}
use Rattle.loop_bounds.specs.Listings.{IsConclusion, IsAnswer}
use Rattle.loop_bounds.proofs.Lists.{if_ok}
use Rattle.loop_bounds.proofs.Growth.{below_length}
use Rattle.loop_bounds.proofs.Concluded.{too_large, concluded}
use Rattle.loop_bounds.proofs.listing.search_from.Goals as goal

pub returns-in-DeadEnd : goal.returns-in-DeadEnd
returns-in-DeadEnd c d j m are follow same e =
    let found = subst (λ (x : Explored). IsExplored c.args.methods.now c.args.fs.now c.args.limited (point_seen c.args.start) x) c.in-DeadEnd.is c.in_ok-explore.ensures in
    subst (λ (k : Point). ReachesDeadEnd d (rules_of d) k) e (found d are follow)

pub returns-in-TooLarge : goal.returns-in-TooLarge
returns-in-TooLarge c d j m are follow same e =
    let found = subst (λ (x : Explored). IsExplored c.args.methods.now c.args.fs.now c.args.limited (point_seen c.args.start) x) c.in-TooLarge.is c.in_ok-explore.ensures in
    too_large d j m c.args.methods.now c.args.limited are same found.0 (subst (λ (k : Point). ReachesMore d (rules_of d) k) e (found.1 d are follow))

pub conclude-requires-clause-size : goal.conclude-requires-clause-size
conclude-requires-clause-size c =
    let found : IsWhole c.args.methods.now c.args.fs.now c.args.limited (point_seen c.args.start) c.in-Whole.points.items (items_of c.in-Whole.links.items) =
    subst (λ (x : Explored). IsExplored c.args.methods.now c.args.fs.now c.args.limited (point_seen c.args.start) x) c.in-Whole.is c.in_ok-explore.ensures in
    sym (length-items_of c.in-Whole.links.items) ∙ found.size

pub conclude-requires-clause-links : goal.conclude-requires-clause-links
conclude-requires-clause-links c =
    let found : IsWhole c.args.methods.now c.args.fs.now c.args.limited (point_seen c.args.start) c.in-Whole.points.items (items_of c.in-Whole.links.items) =
    subst (λ (x : Explored). IsExplored c.args.methods.now c.args.fs.now c.args.limited (point_seen c.args.start) x) c.in-Whole.is c.in_ok-explore.ensures in
    found.links

pub conclude-requires-clause-some : goal.conclude-requires-clause-some
conclude-requires-clause-some c =
    let found : IsWhole c.args.methods.now c.args.fs.now c.args.limited (point_seen c.args.start) c.in-Whole.points.items (items_of c.in-Whole.links.items) =
    subst (λ (x : Explored). IsExplored c.args.methods.now c.args.fs.now c.args.limited (point_seen c.args.start) x) c.in-Whole.is c.in_ok-explore.ensures in
    below_length c.in-Whole.points.items 0 (point_seen c.args.start) found.first

pub conclude-requires-clause-methods : goal.conclude-requires-clause-methods
conclude-requires-clause-methods c =
    let found : IsWhole c.args.methods.now c.args.fs.now c.args.limited (point_seen c.args.start) c.in-Whole.points.items (items_of c.in-Whole.links.items) =
    subst (λ (x : Explored). IsExplored c.args.methods.now c.args.fs.now c.args.limited (point_seen c.args.start) x) c.in-Whole.is c.in_ok-explore.ensures in
    found.methods

pub returns-in-Whole : goal.returns-in-Whole
returns-in-Whole c d j m are follow same e =
    let rows = c.args.methods.now in
    let points = c.in-Whole.points.items in
    let g = items_of c.in-Whole.links.items in
    let found : IsWhole rows c.args.fs.now c.args.limited (point_seen c.args.start) points g =
    subst (λ (x : Explored). IsExplored rows c.args.fs.now c.args.limited (point_seen c.args.start) x) c.in-Whole.is c.in_ok-explore.ensures in
    let from : IsWhole rows c.args.fs.now c.args.limited (start_point d j m) points g = subst (λ (k : Point). IsWhole rows c.args.fs.now c.args.limited k points g) e found in
    if_ok (λ a. IsConclusion rows (points_seen points) g a) (λ a. IsAnswer d j m a) c.conclude.result (concluded d j m rows c.args.fs.now c.args.limited are follow same points g from) c.conclude.ensures
