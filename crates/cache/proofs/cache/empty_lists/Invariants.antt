use Rattle.std.proofs.Common.{◌≡◌, length}
use Rattle.std.specs.List.{All}
use Rattle.cache.specs.Ends.{IsEmptyList}
use Rattle.cache.proofs.cache.empty_lists.Given as goal

abbrev pub invariant-loop : goal.invariant-loop
invariant-loop l = (length l.lists.items ≡ l.counter) × All (IsEmptyList l.calls) l.lists.items
