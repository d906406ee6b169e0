use Rattle.std.proofs.Common.{ℕ, ◌+◌, ap}
use Rattle.workers.proofs.cost_model.cost_of.Goals as goal

pub returns : goal.returns
returns c = let b = c.bounds.ensures in record { limits = c.bounds.result; within = b.limits; bounds = b.bounds; cost_is = ap (λ (n : ℕ). 192 + n) c.from.ensures }
