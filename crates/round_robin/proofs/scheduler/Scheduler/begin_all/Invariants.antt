use Rattle.std.proofs.Common.{◌≡◌, ◌-◌, ◌≤◌, length}
use Rattle.round_robin.specs.Scheduling.{stage, IsGoing}
use Rattle.round_robin.proofs.scheduler.Scheduler.begin_all.Given as goal

abbrev pub invariant-calls : goal.invariant-calls
invariant-calls g l = record {
  loader : l.self.world.loader ≡ l.initial.self.world.loader;
  going : IsGoing (stage l.self);
  calls : (stage l.self).calls ≡ (stage l.initial.self).calls;
  opening : l.self.world.world.opening ≡ l.initial.self.world.world.opening;
  few : l.self.begun ≤ length l.self.calls.now;
}

abbrev pub decreases-calls : goal.decreases-calls
decreases-calls g l = length l.self.calls.now - l.self.begun
