use Rattle.std.proofs.Common.{◌≡◌, ℕ, ◌<◌, Some}
use Rattle.std.specs.Prelude.{slice_get}
use Rattle.decode.specs.declared.instruction.Placed.{Placed}
use Rattle.decode.specs.Places.{at_place}
use Rattle.typecheck.specs.declared.typed.Typed.{Typed}
use Rattle.search.specs.After.{HasPlaces}
use Rattle.loop_bounds.proofs.places.have_places.Given as goal

abbrev pub invariant-loop-m : goal.invariant-loop-m
invariant-loop-m l = (i : ℕ) (row : Typed) → i < l.m-index → slice_get l.methods i ≡ Some row → (place : ℕ) (p : Placed) → at_place row.code place ≡ Some p → HasPlaces p.instruction
