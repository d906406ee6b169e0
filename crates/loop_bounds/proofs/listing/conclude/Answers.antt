use Rattle.std.proofs.Common.{◌≡◌, ℕ, List, length, reverse, Option, refl, ap, sym, ◌∙◌, subst}
use Rattle.std.specs.Prelude.{MatchOption, Vec}
use Rattle.std.specs.declared.alloc.Global.{Global}
use Rattle.search.specs.declared.point.Point as plain
use Rattle.search.specs.Orders.{items_of, AreLinks, AreBelow, AreDistinct, IsAmong, IsOrder, IsCircleIn}
use Rattle.search.proofs.Steps.{length-items_of}
use Rattle.loop_bounds.specs.Found.{points_seen}
use Rattle.loop_bounds.specs.Tables.{AreCosts}
use Rattle.loop_bounds.specs.Listings.{IsOrdered}
use Rattle.loop_bounds.proofs.listing.conclude.Goals as goal

abbrev Order : Type 0
Order = Option (Vec ℕ Global)

pub ordered-requires-clause-links : goal.ordered-requires-clause-links
ordered-requires-clause-links c =
    subst (λ (l : List (Vec ℕ Global)). AreLinks (length l) (items_of l)) (sym c.deref.ensures.value) (subst (λ n. AreLinks n (items_of c.args.links.items)) (length-items_of c.args.links.items) c.requires.links)

pub costs_of-requires-clause-below : goal.costs_of-requires-clause-below
costs_of-requires-clause-below c =
    let g = items_of c.deref.result.now in
    let below : AreBelow (length g) (reverse c.in-Some.order.items) = subst (λ (o : Order). MatchOption o (Unit {0}) (λ q. AreBelow (length g) (reverse q.items))) c.in-Some.is c.in_ok-ordered.ensures.below in
    let size : length g ≡ length c.deref-in-Some.result.now = length-items_of c.deref.result.now ∙ ap length c.deref.ensures.value ∙ c.requires.size ∙ sym (ap length c.deref-in-Some.ensures.value) in
    subst (λ (l : List ℕ). AreBelow (length c.deref-in-Some.result.now) (reverse l)) (sym c.deref-in-Some-3.ensures.value) (subst (λ n. AreBelow n (reverse c.in-Some.order.items)) size below)

pub returns-in_ok-costs-in-Some : goal.returns-in_ok-costs-in-Some
returns-in_ok-costs-in-Some c =
    let g = items_of c.deref.result.now in
    let order = c.in-Some.order.items in
    let found = c.in_ok-ordered.ensures in
    let ordered : IsOrdered g order = record {
      rises = subst (λ (o : Order). MatchOption o (IsCircleIn g 0) (λ q. IsOrder g (reverse q.items))) c.in-Some.is found.circle;
      below = subst (λ (o : Order). MatchOption o (Unit {0}) (λ q. AreBelow (length g) (reverse q.items))) c.in-Some.is found.below;
      start = subst (λ (o : Order). MatchOption o (Unit {0}) (λ q. IsAmong (reverse q.items) 0)) c.in-Some.is found.start;
      distinct = subst (λ (o : Order). MatchOption o (Unit {0}) (λ q. AreDistinct (reverse q.items))) c.in-Some.is found.distinct;
    } in
    let costs : AreCosts c.args.methods.now (points_seen c.deref-in-Some.result.now) (items_of c.deref-in-Some-2.result.now) (reverse c.deref-in-Some-3.result.now) c.in_ok-costs-in-Some.costs.items = c.in_ok-costs-in-Some.ensures in
    let cells = c.in_ok-costs-in-Some.costs.items in
    let rows = c.args.methods.now in (
      refl,
      subst (λ (l : List (Vec ℕ Global)). IsOrdered (items_of l) order) c.deref.ensures.value ordered,
      subst (λ (l : List ℕ). AreCosts rows (points_seen c.args.points.items) (items_of c.args.links.items) (reverse l) cells) c.deref-in-Some-3.ensures.value
          (subst (λ (l : List (Vec ℕ Global)). AreCosts rows (points_seen c.args.points.items) (items_of l) (reverse c.deref-in-Some-3.result.now) cells) c.deref-in-Some-2.ensures.value
          (subst (λ (l : List plain.Point). AreCosts rows (points_seen l) (items_of c.deref-in-Some-2.result.now) (reverse c.deref-in-Some-3.result.now) cells) c.deref-in-Some.ensures.value costs)),
    )
