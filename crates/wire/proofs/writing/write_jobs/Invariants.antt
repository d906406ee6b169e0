-- The texts of the jobs so far are written.
use Rattle.std.proofs.Common.{take}
use Rattle.wire.specs.Frames.{texts, job_text}
use Rattle.wire.specs.Streams.{Wrote}
use Rattle.wire.proofs.writing.write_jobs.Given as goal

abbrev pub invariant-loop-job : goal.invariant-loop-job
invariant-loop-job g l = Wrote g.W.Write.contents l.initial.writer l.writer (texts job_text (take l.job-index l.jobs))
