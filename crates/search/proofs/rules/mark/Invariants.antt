use Rattle.std.proofs.Common.{◌≡◌, ◌+◌, ◌-◌, ℕ, get_or, false, vec_len}
use Rattle.search.proofs.rules.mark.Given as goal

abbrev pub invariant-loop-ints : goal.invariant-loop-ints
invariant-loop-ints l = (q : ℕ) → get_or l.ints.items q false ≡ get_or l.initial.ints.items q false

abbrev pub decreases-loop-ints : goal.decreases-loop-ints
decreases-loop-ints l = l.n + 1 - vec_len l.ints
