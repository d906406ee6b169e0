use Rattle.std.proofs.Common.{reverse, ◌∷◌, ◌≡◌, ◌<◌, ◌-◌, suc, List, ℕ, subst, sym, arith, ap, ◌∙◌, length}
use Rattle.std.specs.Prelude.{slice_set, Option, Some}
use Rattle.search.specs.declared.order.Frame.{Frame}
use Rattle.search.specs.declared.order.State.TheVariants.{Open}
use Rattle.search.specs.Orders.{items_of, links_at}
use Rattle.search.specs.Passes.{IsPass, work}
use Rattle.search.proofs.Steps.{length-items_of, link_below, opened, opened_less, passed, circled}
use Rattle.search.proofs.order.follow.Goals as goal

pub link_of-q-requires-clause-number : goal.link_of-q-requires-clause-number
link_of-q-requires-clause-number c =
    let within : c.args.top.number < length (items_of c.args.links.now) = c.requires.pass.opens.0.within in
    let size : length (items_of c.args.links.now) ≡ length c.args.links.now = length-items_of c.args.links.now in
    omega arith

pub state_of-requires : goal.state_of-requires
state_of-requires c =
    let below : c.link_of-q.result < length c.args.links.now = link_below _ (items_of c.args.links.now) c.args.top.number _ _ c.requires.links c.link_of-q.ensures in
    let size : length (items_of c.args.links.now) ≡ length c.args.links.now = length-items_of c.args.links.now in
    let states : length c.args.states.now ≡ length (items_of c.args.links.now) = c.requires.pass.size in
    omega arith

pub count_of-requires : goal.count_of-requires
count_of-requires c = link_below _ (items_of c.args.links.now) c.args.top.number _ _ c.requires.links c.link_of-q.ensures

pub bounds-states-q : goal.bounds-states-q
bounds-states-q c =
    let below : c.link_of-q.result < length c.args.links.now = link_below _ (items_of c.args.links.now) c.args.top.number _ _ c.requires.links c.link_of-q.ensures in
    let size : length (items_of c.args.links.now) ≡ length c.args.links.now = length-items_of c.args.links.now in
    let states : length c.args.states.now ≡ length (items_of c.args.links.now) = c.requires.pass.size in
    omega arith

pub returns-in_ok-push-in-New-clause-pass : goal.returns-in_ok-push-in-New-clause-pass
returns-in_ok-push-in-New-clause-pass c _ =
    let q : ℕ = c.link_of-q.result in
    let left : c.args.top.left ≡ suc (c.args.top.left - 1) = omega arith in
    let below : q < length (items_of c.args.links.now) =
    subst (λ n. q < n) (sym (length-items_of c.args.links.now)) (link_below _ (items_of c.args.links.now) c.args.top.number _ _ c.requires.links c.link_of-q.ensures) in
    let way : reverse c.push-in-New.new.path.items ≡ record { number = q; left = length (links_at (items_of c.args.links.now) q) } ∷ record { number = c.args.top.number; left = c.args.top.left - 1 } ∷ reverse c.args.path.now.items =
    c.in_ok-push-in-New.ensures ∙ ap (λ (s : List Frame). record { number = q; left = c.count_of.result } ∷ s) c.in_ok-push.ensures
    ∙ ap (λ n. record { number = q; left = n } ∷ record { number = c.args.top.number; left = c.args.top.left - 1 } ∷ reverse c.args.path.now.items) c.count_of.ensures in
    subst (λ (s : List Frame). IsPass (items_of c.args.links.now) (slice_set c.args.states.now q Open) s (reverse c.args.order.now)) (sym way)
    (opened _ _ c.args.top _ _ _ q c.requires.pass left c.link_of-q.ensures c.in-New.ensures below)

pub returns-in_ok-push-in-New-clause-work : goal.returns-in_ok-push-in-New-clause-work
returns-in_ok-push-in-New-clause-work c _ =
    let q : ℕ = c.link_of-q.result in
    let left : c.args.top.left ≡ suc (c.args.top.left - 1) = omega arith in
    let below : q < length (items_of c.args.links.now) =
    subst (λ n. q < n) (sym (length-items_of c.args.links.now)) (link_below _ (items_of c.args.links.now) c.args.top.number _ _ c.requires.links c.link_of-q.ensures) in
    let way : reverse c.push-in-New.new.path.items ≡ record { number = q; left = length (links_at (items_of c.args.links.now) q) } ∷ record { number = c.args.top.number; left = c.args.top.left - 1 } ∷ reverse c.args.path.now.items =
    c.in_ok-push-in-New.ensures ∙ ap (λ (s : List Frame). record { number = q; left = c.count_of.result } ∷ s) c.in_ok-push.ensures
    ∙ ap (λ n. record { number = q; left = n } ∷ record { number = c.args.top.number; left = c.args.top.left - 1 } ∷ reverse c.args.path.now.items) c.count_of.ensures in
    subst (λ (s : List Frame). work (items_of c.args.links.now) (slice_set c.args.states.now q Open) s < work (items_of c.args.links.now) c.args.states.now (c.args.top ∷ reverse c.args.path.now.items)) (sym way)
    (opened_less _ _ c.args.top _ _ q left c.in-New.ensures below)

pub returns-in-Open-clause-circle : goal.returns-in-Open-clause-circle
returns-in-Open-clause-circle c _ = circled _ _ c.args.top _ _ _ c.link_of-q.result c.requires.pass c.link_of-q.ensures c.in-Open.ensures

pub returns-in-Done-clause-pass : goal.returns-in-Done-clause-pass
returns-in-Done-clause-pass c _ =
    let left : c.args.top.left ≡ suc (c.args.top.left - 1) = omega arith in
    subst (λ (s : List Frame). IsPass (items_of c.args.links.now) c.args.states.now s (reverse c.args.order.now)) (sym c.in_ok-push.ensures)
    (passed _ _ c.args.top _ _ _ c.link_of-q.result c.requires.pass left c.link_of-q.ensures c.in-Done.ensures)
