use Rattle.std.proofs.Common.{◌≡◌, ℕ, ◌-◌, ◌<◌, length, get_or, true, false}
use Rattle.invokeall.specs.declared.worker.Worker.{Worker}
use Rattle.invokeall.specs.Jobs.{all_seen}
use Rattle.invokeall.proofs.PutOff.{IsOnItsWay}
use Rattle.invokeall.proofs.worker.work.Given as goal

abbrev pub invariant-loop-group : goal.invariant-loop-group
invariant-loop-group g l = IsOnItsWay g.L.Loader.ASKS l.task.cache.now l.task.counter.now l.task.groups.now (all_seen l.task.calls.now) l.initial.worker l.worker l.later

abbrev pub decreases-loop-group : goal.decreases-loop-group
decreases-loop-group g l = l.task.counter.now.jobs - length l.worker.claimer.drawn

abbrev pub invariant-loop : goal.invariant-loop
invariant-loop g l = record {
  way : (v : Worker) → IsOnItsWay g.L.Loader.ASKS l.task.cache.now l.task.counter.now l.task.groups.now (all_seen l.task.calls.now) v l.initial.worker l.initial.later → IsOnItsWay g.L.Loader.ASKS l.task.cache.now l.task.counter.now l.task.groups.now (all_seen l.task.calls.now) v l.worker l.later;
  done : l.worker.claimer.done ≡ true;
}

abbrev pub invariant-loop-put_off : goal.invariant-loop-put_off
invariant-loop-put_off g l = record {
  way : (v : Worker) → IsOnItsWay g.L.Loader.ASKS l.task.cache.now l.task.counter.now l.task.groups.now (all_seen l.task.calls.now) v l.initial.worker l.initial.later → IsOnItsWay g.L.Loader.ASKS l.task.cache.now l.task.counter.now l.task.groups.now (all_seen l.task.calls.now) v l.worker l.later;
  done : l.worker.claimer.done ≡ true;
  none : l.is_done ≡ true → (x : ℕ) → x < l.put_off → get_or l.later x false ≡ false;
}
