use Rattle.std.proofs.Common.{ℕ, ◌<◌, get_or}
use Rattle.decode.specs.declared.instruction.Placed.{Placed}
use Rattle.search.specs.After.{HasPlaces}
use Rattle.loop_bounds.proofs.places.all_have_places.Given as goal

abbrev pub invariant-loop-p : goal.invariant-loop-p
invariant-loop-p l = (i : ℕ) (d : Placed) → i < l.p-index → HasPlaces (get_or l.code i d).instruction
