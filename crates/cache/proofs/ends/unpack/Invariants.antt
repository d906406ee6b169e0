use Rattle.std.proofs.Common.{◌≡◌, ◌≤◌, ◌<◌, ℕ, true, false, take, get_or}
use Rattle.cache.specs.Ends.{back_of}
use Rattle.cache.proofs.ends.unpack.Given as goal

abbrev pub invariant-loop-i : goal.invariant-loop-i
invariant-loop-i g l =
    ((k : ℕ) → l.i ≤ k → k < l.closed.slots.len → get_or l.closed.slots.filled k false ≡ true) × ((k : ℕ) → k < l.i → get_or l.closed.slots.filled k false ≡ false) × (l.closed.slots.items ≡ l.initial.closed.slots.items)
    × (l.closed.slots.len ≡ l.initial.closed.slots.len) × (l.rest ≡ back_of l.fn.table.shared.table_id.slots (take l.i l.closed.slots.items))
