use Rattle.std.proofs.Common.{◌≡◌, ◌++◌, ◌∷◌, [], ℕ, List, length, Option, sym, ◌∙◌, subst, arith, vec_len}
use Rattle.std.specs.Prelude.{MatchOption, Vec}
use Rattle.std.specs.declared.alloc.Global.{Global}
use Rattle.unrolled.specs.Certificates.{Point}
use Rattle.search.specs.Orders.{Links, items_of}
use Rattle.search.specs.Points.{point_seen}
use Rattle.search.proofs.Steps.{length-items_of}
use Rattle.loop_bounds.specs.Graphs.{IsExploring, ReachesDeadEndIn}
use Rattle.loop_bounds.proofs.Exploring.{begun, more, items_more}
use Rattle.loop_bounds.proofs.explore.explore.Goals as goal

pub loop-alloc-init : goal.loop-alloc-init
loop-alloc-init c =
    subst (λ (l : List (Vec ℕ Global)). IsExploring c.args.methods.now c.args.fs.now (point_seen c.args.start) c.in_ok-found.found (items_of l)) (sym c.new-links.ensures.items)
    (begun c.args.methods.now c.args.fs.now (point_seen c.args.start) c.in_ok-found.found c.in_ok-found.ensures.found c.in_ok-found.ensures.grows c.in_ok-found.ensures.start c.requires.start)

pub returns-then-exceeds : goal.returns-then-exceeds
returns-then-exceeds c =
    (c.exceeds.ensures.limited cc, more c.args.methods.now c.args.fs.now (point_seen c.args.start) c.loop-alloc.found (items_of c.loop-alloc.links.items) c.loop-alloc.invariant (c.exceeds.ensures.more cc))

pub loop-alloc-preserved : goal.loop-alloc-preserved
loop-alloc-preserved c =
    let links = c.loop-alloc.links.items in
    let count : vec_len c.loop-alloc.links ≡ length links = omega arith in
    let size : length (items_of links) ≡ c.len-i.result = length-items_of links ∙ sym (c.len-i.ensures ∙ count) in
    let start = point_seen c.args.start in
    let rows = c.args.methods.now in
    let fs = c.args.fs.now in
    let grown : IsExploring rows fs start c.expand.new.found (items_of links ++ c.in-Some.row.items ∷ []) =
    subst (λ (o : Option (Vec ℕ Global)). MatchOption o (Unit {0}) (λ row. (s : Point) (g : Links) → length g ≡ c.len-i.result → IsExploring rows fs s c.loop-alloc.found g → IsExploring rows fs s c.expand.new.found (g ++ row.items ∷ []))) c.in-Some.is
    c.in_ok-row.ensures.grown start (items_of links) size c.loop-alloc.invariant in
    subst (λ (l : List (Vec ℕ Global)). IsExploring rows fs start c.expand.new.found (items_of l)) (sym c.in_ok-push.ensures.items)
    (subst (λ (g : Links). IsExploring rows fs start c.expand.new.found g) (sym (items_more links c.in-Some.row)) grown)

pub returns-in_default : goal.returns-in_default
returns-in_default c =
    let links = c.loop-alloc.links.items in
    let count : vec_len c.loop-alloc.links ≡ length links = omega arith in
    let size : length (items_of links) ≡ c.len-i.result = length-items_of links ∙ sym (c.len-i.ensures ∙ count) in
    let rows = c.args.methods.now in
    let fs = c.args.fs.now in
    subst (λ (o : Option (Vec ℕ Global)). MatchOption o ((s : Point) (g : Links) → length g ≡ c.len-i.result → IsExploring rows fs s c.loop-alloc.found g → ReachesDeadEndIn rows fs s) (λ row. Unit {0})) c.in_default.is
    c.in_ok-row.ensures.dead (point_seen c.args.start) (items_of links) size c.loop-alloc.invariant

pub returns : goal.returns
returns c =
    let links : vec_len c.loop-alloc.links ≡ length c.loop-alloc.links.items = omega arith in
    let points : vec_len c.loop-alloc.found.points ≡ length c.loop-alloc.found.points.items = omega arith in
    let test = c.loop-alloc-test.false in
    let first = c.len.ensures in
    let second = c.len-in-loop-alloc.ensures in
    c.finish.ensures c.args.methods.now c.args.fs.now (point_seen c.args.start) c.loop-alloc.invariant (omega (arith, links, points, test, first, second))
