use Rattle.std.proofs.Common.{◌≡◌, ◌++◌, ◌∷◌, ℕ, length, List, Some, slice_get, sym, ap, ◌∙◌}
use Rattle.std.proofs.lemmas.List.{length-map}
use Rattle.stripe.specs.Kept.{Kept}
use Rattle.stripe.specs.Tables.{Back}
use Rattle.world.specs.Seated.{Seated}
use Rattle.world.specs.Room.{IsReturning, stored_on}
use Rattle.world.proofs.Opening.{get_middle}
use Rattle.world.proofs.room.give_back.Goals as goal

-- The next seat is the one at index `length yielded`.
next_at : (n : ℕ) (all yielded rest next : List Seated) (x : Seated) → yielded ++ rest ≡ all → rest ≡ x ∷ next → ((i : ℕ) (y : Seated) → slice_get all i ≡ Some y → IsReturning n i y) → IsReturning n (length yielded) x
next_at n all yielded rest next x is steps are =
    are (length yielded) x (ap (λ ys. slice_get ys (length yielded)) (sym is ∙ ap (λ ys. yielded ++ ys) steps) ∙ get_middle yielded x next)

pub add-requires-clause-next : goal.add-requires-clause-next
add-requires-clause-next c =
    let i = c.loop-seat.invariant in
    let r = next_at _ _ _ _ _ _ i.0 c.in-Some.ensures.steps.0 i.2 in
    record {
      stripes = ap (λ (s : Kept). s.stripes) c.into_stripe.ensures.stripe ∙ r.stripes ∙ sym (ap (λ (b : Back). b.stripes) i.1);
      place = ap (λ (s : Kept). s.place) c.into_stripe.ensures.stripe ∙ r.place ∙ sym (ap (λ (b : Back). length b.tables) i.1 ∙ length-map c.loop-seat.yielded stored_on);
    }

pub add-requires-clause-idle : goal.add-requires-clause-idle
add-requires-clause-idle c =
    let i = c.loop-seat.invariant in
    let r = next_at _ _ _ _ _ _ i.0 c.in-Some.ensures.steps.0 i.2 in
    c.into_stripe.ensures.idle r.idle
