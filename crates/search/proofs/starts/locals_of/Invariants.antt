use Rattle.std.proofs.Common.{◌≡◌, ◌++◌, drop}
use Rattle.jtypes.specs.Types.{as_locals}
use Rattle.search.specs.declared.known.Known.TheVariants.{Narrow}
use Rattle.search.specs.Starts.{wide_in_code}
use Rattle.search.proofs.starts.locals_of.Given as goal

abbrev pub invariant-loop-k : goal.invariant-loop-k
invariant-loop-k l = l.locals.items ++ as_locals wide_in_code (λ k. k) Narrow (drop l.k-index l.arguments) ≡ as_locals wide_in_code (λ k. k) Narrow l.arguments
