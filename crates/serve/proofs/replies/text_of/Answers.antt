use Rattle.std.proofs.Common.{List, [], ◌∷◌, ◌++◌, map, take, take_all, refl, sym, ap, ◌∙◌}
use Rattle.std.proofs.lemmas.List.{take_more}
use Rattle.wire.specs.declared.reply.Reply.{Reply}
use Rattle.serve.specs.declared.batch.Work.{Work}
use Rattle.invokeall.specs.Rounds.{reply_of}
use Rattle.serve.specs.Rounds.{work_reply}
use Rattle.serve.specs.Served.{replies_text}
use Rattle.serve.specs.Kept.{work_of}
use Rattle.serve.proofs.Rounds.{told_more, all_texts}
use Rattle.serve.proofs.replies.text_of.Goals as goal

pub loop-work-preserved : goal.loop-work-preserved
loop-work-preserved c =
    let f = work_reply (map reply_of c.args.answers.now) in
    let works : List Work = c.args.works.now in
    let i = c.loop-work.work-index in
    let w : Work = c.work-item.result in
    told_more f (take i works) w c.loop-work.text.items c.tell.new.text.items (f (work_of w)) c.loop-work.invariant c.in_ok-tell.ensures refl
    ∙ ap (λ (l : List Work). replies_text (map f (map work_of l))) (sym (take_more works i w c.loop-work-test.true ∙ ap (λ x. take i works ++ x ∷ []) (sym c.work-item.is)))

pub returns : goal.returns
returns c =
    let f = work_reply (map reply_of c.args.answers.now) in
    let works : List Work = c.args.works.now in
    let replies : List Reply = map f (map work_of works) in
    let all = ap (λ (l : List Work). replies_text (map f (map work_of l))) (take_all c.loop-work.work-index works c.loop-work-test.false) in
    all_texts replies c.loop-work.text.items c.add_reply.new.text.items (c.loop-work.invariant ∙ all) c.in_ok-add_reply.ensures
