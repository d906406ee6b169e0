use Rattle.std.proofs.Common.{◌≡◌, ℕ, ◌-◌, ◌<◌, ◌≤◌, ◌++◌, List, length, get_or, vec_capacity}
use Rattle.invokeall.specs.declared.worker.Worker.{Worker}
use Rattle.invokeall.specs.Jobs.{all_seen}
use Rattle.invokeall.specs.Groups.{groups_in, members}
use Rattle.invokeall.specs.Workers.{numbers, HasAnswered}
use Rattle.invokeall.proofs.worker.work_on.Given as goal

abbrev pub invariant-loop-number : goal.invariant-loop-number
invariant-loop-number g l = record {
  home : l.worker.seat.table ≡ l.task.cache.now.table;
  claimer : l.worker.claimer ≡ l.initial.worker.claimer;
  few : l.number ≤ length l.task.calls.now;
  same : length (all_seen l.task.calls.now) ≡ length l.task.calls.now;
  here : l.number < length l.task.calls.now → get_or (groups_in l.task.groups.now (all_seen l.task.calls.now)) l.number 0 ≡ l.group;
  numbers_are : numbers l.worker.answers.items ≡ numbers l.initial.worker.answers.items ++ members (groups_in l.task.groups.now (all_seen l.task.calls.now)) l.group l.number;
  room : vec_capacity l.initial.worker.answers ≤ vec_capacity l.worker.answers;
  answered : (v : Worker) (before : List ℕ) → HasAnswered g.L.Loader.ASKS l.task.cache.now (all_seen l.task.calls.now) v l.initial.worker before → HasAnswered g.L.Loader.ASKS l.task.cache.now (all_seen l.task.calls.now) v l.worker (before ++ members (groups_in l.task.groups.now (all_seen l.task.calls.now)) l.group l.number);
}

abbrev pub decreases-loop-number : goal.decreases-loop-number
decreases-loop-number g l = length l.task.calls.now - l.number
