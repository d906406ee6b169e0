use Rattle.std.proofs.Common.{◌≡◌}
use Rattle.search.specs.Seen.{locals_seen, following_seen}
use Rattle.search.proofs.Entering.{kept_over}
use Rattle.search.proofs.starts.keep.Given as goal

abbrev pub invariant-loop-n : goal.invariant-loop-n
invariant-loop-n l = locals_seen l.locals ≡ kept_over (following_seen l.f).ints 0 l.n (locals_seen l.initial.locals)
