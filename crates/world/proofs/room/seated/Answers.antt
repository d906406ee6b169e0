use Rattle.std.proofs.Common.{arith, ◌≡◌, ◌++◌, ◌∷◌, [], length, None, sym, ap, ◌∙◌, append_assoc}
use Rattle.std.proofs.lemmas.List.{length-append, map-append}
use Rattle.std.proofs.lemmas.List.Elements.{All-rest}
use Rattle.stripe.specs.Kept.{Kept}
use Rattle.world.specs.Seated.{Seated, idle_seat}
use Rattle.world.proofs.room.seated.Goals as goal

pub loop-stripe-preserved : goal.loop-stripe-preserved
loop-stripe-preserved c =
    let i = c.loop-stripe.invariant in
    let stripe = c.in-Some.stripe in
    let rest = c.next.new.self.rest.items in
    let steps = c.in-Some.ensures.steps.0 in
    let one : ◌≡◌ {A = Seated} c.new.result (idle_seat stripe) = λ k. record { stripe = c.new.ensures.stripe k; running = c.new.ensures.idle k } in (
      append_assoc c.loop-stripe.yielded (stripe ∷ []) rest ∙ ap (λ ms. c.loop-stripe.yielded ++ ms) (sym steps) ∙ i.0,
      All-rest (λ (s : Kept). s.running ≡ None) stripe rest c.loop-stripe.stripe-iterator.rest.items steps i.1,
      omega (arith, ap length c.in-Some-pop.ensures.items, length-append c.pop.new.self.items (c.in-Some-pop.workspace ∷ []), i.2, ap length steps),
      c.push_reserved.ensures.items ∙ (λ k. i.3 k ++ one k ∷ []) ∙ sym (map-append idle_seat c.loop-stripe.yielded (stripe ∷ [])),
      omega (arith, i.4, c.push_reserved.ensures.capacity),
    )
