use Rattle.std.proofs.Common.{◌≡◌, ◌≤◌, length, vec_capacity}
use Rattle.world.proofs.room.workspaces.Given as goal

abbrev pub invariant-loop : goal.invariant-loop
invariant-loop l = (length l.made.items ≡ l.counter) × (l.stripes ≤ vec_capacity l.made)
