use Rattle.std.proofs.Common.{◌≡◌, List, map, length, ap, ◌∙◌, subst, arith}
use Rattle.stripe.specs.History.{Call}
use Rattle.stripe.specs.Stored.{entry_among}
use Rattle.stripe.specs.declared.call.Call.{Call as CallTaken}
use Rattle.round_outcome.specs.Outcome.{IsDone}
use Rattle.invokeall.specs.Jobs.{all_seen}
use Rattle.invokeall.specs.Rounds.{Answer, reply_of}
use Rattle.serve.specs.declared.batch.Work.{Work}
use Rattle.serve.specs.Rounds.{work_reply}
use Rattle.serve.specs.Served.{replies_text, all_told}
use Rattle.serve.specs.Kept.{work_of, calls_of, works_of}
use Rattle.serve.proofs.round.run_round.Goals as goal

pub run_jobs-requires-clause-jobs : goal.run_jobs-requires-clause-jobs
run_jobs-requires-clause-jobs g c = λ lifetimes lives.
    let there : length c.as_slice.result.now ≡ length c.args.plan.calls.items = ap (λ (l : List CallTaken). length l) c.as_slice.ensures.value in
    omega (arith, c.requires.few, there)

pub returns : goal.returns
returns g c =
    let same : all_seen c.as_slice.result.now ≡ calls_of c.args.plan = ap all_seen c.as_slice.ensures.value in
    record {
      answers = map reply_of c.in-Ok.left.answers.items;
      done = subst (λ (l : List Call). IsDone g.L.Loader.ASKS (g.L.Loader.gives c.args.server.now.loader.now) (entry_among c.args.tables) l (map reply_of c.in-Ok.left.answers.items) (entry_among c.in-Ok.left.tables)) same c.in-Ok.ensures.done;
      text_is = c.in_ok-text.ensures ∙ ap (λ (l : List Work). replies_text (all_told (map (work_reply (map reply_of c.as_slice-3.result.now)) (map work_of l)))) c.as_slice-2.ensures.value ∙ ap (λ (l : List Answer). replies_text (all_told (map (work_reply (map reply_of l)) (works_of c.args.plan)))) c.as_slice-3.ensures.value;
    }
