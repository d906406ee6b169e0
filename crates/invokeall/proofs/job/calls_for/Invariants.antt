use Rattle.std.proofs.Common.{◌≡◌, ◌≤◌, ◌+◌, ◌++◌, drop, length, vec_capacity}
use Rattle.invokeall.specs.Jobs.{all_seen, calls_of}
use Rattle.invokeall.proofs.job.calls_for.Given as goal

abbrev pub invariant-loop-job : goal.invariant-loop-job
invariant-loop-job l = record {
  calls : all_seen l.calls.items ++ calls_of (drop l.job-index l.jobs) ≡ calls_of l.jobs;
  many : length l.calls.items + length (drop l.job-index l.jobs) ≡ length l.jobs;
  room : length l.calls.items + length (drop l.job-index l.jobs) ≤ vec_capacity l.calls;
}
