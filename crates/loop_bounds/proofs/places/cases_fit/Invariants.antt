use Rattle.std.proofs.Common.{◌≡◌, ℕ, ◌<◌, ℤ, Some}
use Rattle.std.specs.Prelude.{slice_get}
use Rattle.decode.specs.Places.{cases_of}
use Rattle.search.specs.After.{IsPlace}
use Rattle.loop_bounds.proofs.places.cases_fit.Given as goal

abbrev pub invariant-loop-i : goal.invariant-loop-i
invariant-loop-i l = (j : ℕ) (z : ℤ) → j < l.i → slice_get (cases_of l.instruction) j ≡ Some z → IsPlace z
