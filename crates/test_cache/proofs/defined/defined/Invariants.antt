use Rattle.std.proofs.Common.{All}
use Rattle.registry.specs.Ids.{IsOf}
use Rattle.test_cache.proofs.defined.defined.Given as goal

abbrev pub invariant-loop : goal.invariant-loop
invariant-loop g l = All (λ id. IsOf l.registry id) l.ids.items
