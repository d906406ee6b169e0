-- The total so far and the length of the remaining jobs' texts add up to the whole length.
use Rattle.std.proofs.Common.{◌≡◌, ◌+◌, ◌*◌, ◌≤◌, length, drop}
use Rattle.wire.specs.Frames.{texts, job_text}
use Rattle.wire.proofs.writing.length_of.Given as goal

abbrev pub invariant-loop-job : goal.invariant-loop-job
invariant-loop-job l = record {
  whole : l.total + length (texts job_text (drop l.job-index l.jobs)) ≡ length (texts job_text l.jobs);
  small : l.total ≤ 18 * l.job-index;
}
