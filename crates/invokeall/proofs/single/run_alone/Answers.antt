use Rattle.std.proofs.Common.{◌≡◌, ℕ, suc, ◌+◌, ◌++◌, ◌∷◌, [], List, length, take, map, arith, sym, ap, ◌∙◌, subst, append_assoc, length-append, take_all}
use Rattle.std.proofs.lemmas.List.{length-map}
use Rattle.stripe.specs.declared.call.Reply.{Reply}
use Rattle.stripe.specs.History.{Call}
use Rattle.stripe.specs.Seen.{call_of}
use Rattle.cache.specs.Opened.{Opened, Sitting}
use Rattle.round_outcome.specs.Outcome.{answered}
use Rattle.round_outcome.specs.Closed.{calls_told}
use Rattle.invokeall.specs.Jobs.{all_seen}
use Rattle.invokeall.specs.Rounds.{Answer, reply_of, IsRound, NeedMemory}
use Rattle.invokeall.specs.Workers.{told_answer}
use Rattle.invokeall.proofs.OneSeat.{answered_more, shown_more, need_memory_more, alone_round}
use Rattle.invokeall.proofs.Turns.{one_call, later_seat}
use Rattle.invokeall.proofs.single.run_alone.Goals as goal

pub loop-number-preserved : goal.loop-number-preserved
loop-number-preserved g c =
    let i = c.loop-number.invariant in
    let d : Opened _ = c.args.round.now.cache.now in
    let calls : List Call = all_seen c.args.round.now.calls.now in
    let n : ℕ = c.loop-number.number in
    let a : Sitting = c.args.seat.now in
    let s : Sitting = c.loop-number.seat in
    let t : Sitting = c.call_at-answer.new.seat in
    let xs : List Answer = c.loop-number.answers.items in
    let x : Answer = c.call_at-answer.result in
    let call : Call = call_of c.call_numbered-call.result in
    let at = c.call_numbered-call.ensures in
    let one = one_call g.L.Loader.ASKS d call s t x c.call_at-answer.ensures.ok c.call_at-answer.ensures.err c.call_at-answer.ensures.memory in
    let items : c.push_reserved.new.self.items ≡ xs ++ x ∷ [] = c.push_reserved.ensures.items in
    let next : suc n ≡ n + 1 = omega arith in
    let long : length c.push_reserved.new.self.items ≡ length xs + 1 = ap (λ (l : List Answer). length l) items ∙ length-append xs (x ∷ []) in
    let told : List (Call × Reply) = answered (take n calls) (map reply_of xs) in
    let more : told ++ told_answer call x ≡ answered (take (n + 1) calls) (map reply_of c.push_reserved.new.self.items) =
    sym (answered_more calls xs n call x i.count at) ∙ ap (λ (m : ℕ). answered (take m calls) (map reply_of (xs ++ x ∷ []))) next ∙ ap (λ (l : List Answer). answered (take (n + 1) calls) (map reply_of l)) (sym items) in
    record {
      home = one.later.table ∙ i.home;
      later = later_seat a s t i.later one.later;
      count = omega (arith, long, i.count);
      receipts = one.receipts ∙ ap (λ l. l ++ told_answer call x) i.receipts ∙ append_assoc (calls_told a.receipts) told (told_answer call x) ∙ ap (λ l. calls_told a.receipts ++ l) more;
      filed = λ h. one.filed (i.filed h);
      full = subst (λ (l : List Answer). Rattle.invokeall.proofs.OneSeat.IsShown d calls t l) (sym items) (shown_more g.L.Loader.ASKS d calls s t xs n call x i.count at one i.full);
      room = omega (arith, i.room, c.push_reserved.ensures.capacity);
      left = let used = one.room in let kept = i.left in omega (arith, used, kept);
      memory = λ enough. subst (NeedMemory g.L.Loader.ASKS calls) (sym items) (need_memory_more g.L.Loader.ASKS calls xs n call x i.count at (λ e. one.memory e (let kept = i.left in omega (arith, kept, enough, c.loop-number-test.true, length-map c.args.round.now.calls.now call_of))) (i.memory enough));
    }

pub returns-clause-round : goal.returns-clause-round
returns-clause-round g c =
    let i = c.loop-number.invariant in
    let d : Opened _ = c.args.round.now.cache.now in
    let calls : List Call = all_seen c.args.round.now.calls.now in
    let xs : List Answer = c.loop-number.answers.items in
    let many = length-map c.args.round.now.calls.now call_of in
    let all : c.loop-number.number ≡ length calls = omega (arith, many, i.count, c.loop-number-test.false, c.loop-number.auto.number-end) in
    let whole : take c.loop-number.number calls ≡ calls = take_all c.loop-number.number calls (omega (arith, all)) in
    let a : Sitting = c.args.seat.now in
    subst (λ (x : Sitting). IsRound d calls (a ∷ []) (x ∷ []) xs) (sym c.leave.ensures)
    (alone_round d calls a c.loop-number.seat xs (i.count ∙ all) i.later (i.receipts ∙ ap (λ (l : List Call). calls_told a.receipts ++ answered l (map reply_of xs)) whole) i.filed i.full)
