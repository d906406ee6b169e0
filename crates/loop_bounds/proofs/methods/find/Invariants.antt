use Rattle.std.proofs.Common.{◌≡◌, ℕ, ◌<◌, get_or}
use Rattle.typecheck.specs.declared.typed.Typed.{Typed}
use Rattle.loop_bounds.proofs.methods.find.Given as goal

abbrev pub invariant-loop-i : goal.invariant-loop-i
invariant-loop-i l = (j : ℕ) (d : Typed) → j < l.i → (get_or l.methods j d).number ≡ l.number → ⊥
