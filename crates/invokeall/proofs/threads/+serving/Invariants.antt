use Rattle.std.proofs.Common.{◌+◌, ◌*◌}
use Rattle.invokeall.proofs.threads.+serving.Given as goal

abbrev pub decreases-run_on_thread : goal.decreases-run_on_thread
decreases-run_on_thread g l = 4 * l.threads

abbrev pub decreases-spawn_first : goal.decreases-spawn_first
decreases-spawn_first g l = 4 * l.threads + 2

abbrev pub decreases-spawn_first-rest : goal.decreases-spawn_first-rest
decreases-spawn_first-rest g l = 4 * l.threads + 1
