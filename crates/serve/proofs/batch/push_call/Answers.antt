use Rattle.std.proofs.Common.{arith}
use Rattle.stripe.specs.Seen.{call_of as seen_call}
use Rattle.serve.proofs.Plans.{grows_one, denies_one}
use Rattle.serve.proofs.batch.push_call.Goals as goal

pub returns-then-at-ge-MOST_JOBS : goal.returns-then-at-ge-MOST_JOBS
returns-then-at-ge-MOST_JOBS c =
    let old = c.args.plan.now in
    denies_one c.tell.result old c.tell.new.plan (seen_call c.args.call) (omega (arith, c.if-at-ge-MOST_JOBS.true, c.len-at.ensures, old.calls.ok.0)) c.tell.ensures.works c.tell.ensures.calls

pub returns : goal.returns
returns c =
    let old = c.args.plan.now in
    grows_one c.add_job.result old c.add_job.new.plan (seen_call c.args.call) (omega (arith, c.if-at-ge-MOST_JOBS.false, c.len-at.ensures, old.calls.ok.0)) c.add_job.ensures
