use Rattle.std.proofs.Common.{◌≡◌, ◌++◌, length}
use Rattle.std.specs.Vec.Iter.{into_iter_items}
use Rattle.cache.specs.Ends.{back_of}
use Rattle.cache.proofs.ends.rejoined.Given as goal

abbrev pub invariant-loop-stripe : goal.invariant-loop-stripe
invariant-loop-stripe l = (l.yielded ++ into_iter_items l.stripe-iterator ≡ into_iter_items l.initial.stripe-iterator) × (l.rest ≡ back_of (length l.fn.stripes.items) l.yielded)
