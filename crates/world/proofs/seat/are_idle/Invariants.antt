use Rattle.std.proofs.Common.{◌≡◌, ℕ, ◌<◌, Some, None, slice_get}
use Rattle.world.specs.Seated.{Seated}
use Rattle.world.proofs.seat.are_idle.Given as goal

abbrev pub invariant-loop-seat : goal.invariant-loop-seat
invariant-loop-seat l = (i : ℕ) (x : Seated) → i < l.seat-index → slice_get l.seats i ≡ Some x → x.running ≡ None
