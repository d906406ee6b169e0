use Rattle.std.proofs.Common.{◌≡◌}
use Rattle.round_robin.specs.Scheduling.{stage, IsGoing, IsAsBefore, AreIdleBefore}
use Rattle.round_robin.proofs.scheduler.Scheduler.wait_for_all.Given as goal

abbrev pub invariant-loop-stripe : goal.invariant-loop-stripe
invariant-loop-stripe g l = record {
  loader : l.self.world.loader ≡ l.initial.self.world.loader;
  going : IsGoing (stage l.self);
  same : IsAsBefore (stage l.initial.self) (stage l.self);
  idle : AreIdleBefore l.stripe (stage l.self);
}
