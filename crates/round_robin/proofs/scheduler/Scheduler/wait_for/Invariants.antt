use Rattle.std.proofs.Common.{◌≡◌, ◌<◌, ◌≤◌, ℕ, length}
use Rattle.world.specs.Forward.{turns_left}
use Rattle.round_robin.specs.Scheduling.{stage, IsGoing, IsAsBefore}
use Rattle.round_robin.proofs.scheduler.Scheduler.wait_for.Given as goal

abbrev pub invariant-turns : goal.invariant-turns
invariant-turns g l = record {
  loader : l.self.world.loader ≡ l.initial.self.world.loader;
  going : IsGoing (stage l.self);
  same : IsAsBefore (stage l.initial.self) (stage l.self);
  nearer : (i : ℕ) → i < length l.initial.self.world.world.opening → turns_left l.self.world.world i ≤ turns_left l.initial.self.world.world i;
}

abbrev pub decreases-turns : goal.decreases-turns
decreases-turns g l = turns_left l.self.world.world l.stripe
