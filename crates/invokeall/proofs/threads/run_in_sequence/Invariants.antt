use Rattle.std.proofs.Common.{◌≡◌, ℕ, ◌<◌, ◌≤◌, get_or}
use Rattle.invokeall.proofs.threads.run_in_sequence.Given as goal

abbrev pub invariant-loop-i : goal.invariant-loop-i
invariant-loop-i g l = record {
  others : (j : ℕ) (d : g.row.W.Denot) → l.i ≤ j → get_or l.workers j d ≡ get_or l.initial.workers j d;
  served : (j : ℕ) (d : g.row.W.Denot) → j < l.i → g.S.WorkerTask.leaves l.task (get_or l.initial.workers j d) (get_or l.workers j d);
}
