use Rattle.std.proofs.Common.{◌≡◌, ◌+◌, ◌∙◌, ℤ, pos, take, drop, get_or}
use Rattle.jtypes.specs.declared.types.Arg.TheVariants.{Null}
use Rattle.jtypes.specs.declared.types.Outcome.TheVariants.{Returned}
use Rattle.wire.specs.declared.reply.JobOutcome.{JobOutcome}
use Rattle.wire.specs.declared.reply.JobOutcome.TheVariants.{Ended}
use Rattle.wire.specs.Frames.{texts, job_text}
use Rattle.wire.proofs.Streams.{wrote_both, wrote_first, wrote_some, on_err_always}
use Rattle.wire.proofs.Texts.{texts_next, texts_around}
use Rattle.wire.proofs.writing.write_jobs.Goals as goal

no_job : ℤ × JobOutcome
no_job = (pos 0, Ended (Returned Null))

pub returns-in_err-write_bytes-clause-err : goal.returns-in_err-write_bytes-clause-err
unfolding no_job
returns-in_err-write_bytes-clause-err g c =
    let jobs = c.args.jobs.now in
    let i = c.loop-job.job-index in
    let text : c.as_slice.result.now ≡ job_text (get_or jobs i no_job) = c.as_slice.ensures.bytes ∙ c.job_text-text.ensures in
    let part = rw text at c.in_err-write_bytes.ensures.err in
    let so_far = wrote_some g.W.Write.contents _ _ _ (texts job_text (take i jobs)) (job_text (get_or jobs i no_job)) c.loop-job.invariant part in
    on_err_always _ (rw (texts_around job_text jobs i no_job c.loop-job-test.true) at (wrote_first g.W.Write.contents _ _ _ (texts job_text (drop (i + 1) jobs)) so_far))

pub loop-job-preserved : goal.loop-job-preserved
unfolding no_job
loop-job-preserved g c =
    let jobs = c.args.jobs.now in
    let i = c.loop-job.job-index in
    let text : c.as_slice.result.now ≡ job_text (get_or jobs i no_job) = c.as_slice.ensures.bytes ∙ c.job_text-text.ensures in
    let one = rw text at c.in_ok-write_bytes.ensures.ok in
    rw (texts_next job_text jobs i no_job c.loop-job-test.true) (wrote_both g.W.Write.contents _ _ _ (texts job_text (take i jobs)) (job_text (get_or jobs i no_job)) c.loop-job.invariant one)
