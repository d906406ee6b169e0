use Rattle.std.proofs.Common.{◌≡◌, ◌≤◌, ◌++◌, length, map, vec_capacity, All, None}
use Rattle.stripe.specs.Kept.{Kept}
use Rattle.world.specs.Seated.{idle_seat}
use Rattle.world.proofs.room.seated.Given as goal

abbrev pub invariant-loop-stripe : goal.invariant-loop-stripe
invariant-loop-stripe l =
    (l.yielded ++ l.stripe-iterator.rest.items ≡ l.fn.stripes.items) × All (λ (s : Kept). s.running ≡ None) l.stripe-iterator.rest.items × (length l.workspaces.items ≡ length l.stripe-iterator.rest.items)
    × (l.seats.items ≡ map idle_seat l.yielded) × (length l.fn.stripes.items ≤ vec_capacity l.seats)
