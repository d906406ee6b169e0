use Rattle.std.proofs.Common.{◌-◌, ℕ, List, length, map, drop, sym, ap, ◌∙◌, arith, take_all}
use Rattle.std.proofs.lemmas.List.{drop-map, length-drop}
use Rattle.invokeall.specs.Rounds.{Answer, reply_of}
use Rattle.serve.proofs.replies.answers_from.Goals as goal

pub returns-then-at-answers-clause-answers : goal.returns-then-at-answers-clause-answers
returns-then-at-answers-clause-answers c =
    let xs : List Answer = c.args.answers.now in
    let at : ℕ = c.args.at in
    ap (λ (l : List Answer). map reply_of l) (take_all (length xs - at) (drop at xs) (omega (arith, length-drop at xs))) ∙ sym (drop-map reply_of at xs)
