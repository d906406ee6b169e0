use Rattle.std.proofs.Common.{◌≡◌, ◌-◌, ◌<◌, ◌≤◌, ℕ}
use Rattle.world.specs.Forward.{turns_left}
use Rattle.round_robin.specs.Scheduling.{stage, IsGoing, IsAsBefore}
use Rattle.round_robin.proofs.scheduler.Scheduler.turn.Given as goal

abbrev pub invariant-loop-stripe : goal.invariant-loop-stripe
invariant-loop-stripe g l = record {
  loader : l.self.world.loader ≡ l.initial.self.world.loader;
  going : IsGoing (stage l.self);
  same : IsAsBefore (stage l.initial.self) (stage l.self);
  turned : (i : ℕ) → i < l.stripe → turns_left l.self.world.world i ≤ turns_left l.initial.self.world.world i - 1;
  waiting : (i : ℕ) → l.stripe ≤ i → turns_left l.self.world.world i ≡ turns_left l.initial.self.world.world i;
}
