use Rattle.std.proofs.Common.{reverse, replicate, ◌∷◌, ◌≡◌, ◌<◌, ◌∙◌, ap, [], List, ℕ, length, subst, sym}
use Rattle.std.specs.Prelude.{slice_set}
use Rattle.search.specs.declared.order.Frame.{Frame}
use Rattle.search.specs.declared.order.State.{State}
use Rattle.search.specs.declared.order.State.TheVariants.{New, Open}
use Rattle.search.specs.Orders.{items_of, links_at}
use Rattle.search.specs.Passes.{IsPass}
use Rattle.search.proofs.Steps.{begun, length-items_of}
use Rattle.search.proofs.order.ordered.Goals as goal

pub loop-top-init : goal.loop-top-init
loop-top-init c =
    let some : 0 < length (items_of c.args.links.now) = subst (λ n. 0 < n) (sym (length-items_of c.args.links.now)) c.requires.some in
    let way : reverse c.push.new.path.items ≡ record { number = 0; left = length (links_at (items_of c.args.links.now) 0) } ∷ [] =
    c.in_ok-push.ensures ∙ ap (λ (s : List Frame). record { number = 0; left = c.count_of.result } ∷ reverse s) c.new-path.ensures.items
    ∙ ap (λ n. record { number = 0; left = n } ∷ []) c.count_of.ensures in
    let states : c.in_ok-states.states.items ≡ replicate (length (items_of c.args.links.now)) New =
    c.in_ok-states.ensures.items_if_clones_equal (λ y e. e) ∙ ap (λ n. replicate n New) (sym (length-items_of c.args.links.now)) in
    subst (λ (done : List ℕ). IsPass (items_of c.args.links.now) (slice_set c.in_ok-states.states.items 0 Open) (reverse c.push.new.path.items) (reverse done)) (sym c.new-order.ensures.items)
    (subst (λ (s : List Frame). IsPass (items_of c.args.links.now) (slice_set c.in_ok-states.states.items 0 Open) s []) (sym way)
    (subst (λ (ss : List State). IsPass (items_of c.args.links.now) (slice_set ss 0 Open) (record { number = 0; left = length (links_at (items_of c.args.links.now) 0) } ∷ []) []) (sym states)
    (begun (items_of c.args.links.now) some)))
