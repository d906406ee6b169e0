use Rattle.std.proofs.Common.{◌≡◌, ℕ, ◌+◌, ◌<◌, ◌++◌, ◌∷◌, [], List, length, get_or, arith, refl, sym, ap, ◌∙◌, subst, append_assoc}
use Rattle.std.proofs.lemmas.List.{append-nil, length-map}
use Rattle.stripe.specs.History.{Call}
use Rattle.stripe.specs.Seen.{call_of}
use Rattle.cache.specs.Opened.{Sitting}
use Rattle.invokeall.specs.declared.worker.Worker.{Worker}
use Rattle.invokeall.specs.Jobs.{all_seen}
use Rattle.invokeall.specs.Groups.{group_of, groups_in, members, IsFirst}
use Rattle.invokeall.specs.Rounds.{Answer}
use Rattle.invokeall.specs.Workers.{numbers, HasAnswered}
use Rattle.invokeall.proofs.Members.{members_first, members_next, room_more}
use Rattle.invokeall.proofs.Turns.{one_call, numbers_more, numbers_long, one_answered}
use Rattle.invokeall.proofs.worker.work_on.Goals as goal

pub loop-number-init : goal.loop-number-init
loop-number-init g c =
    let calls : List Call = all_seen c.args.task.now.calls.now in
    let of : List ℕ = groups_in c.args.task.now.groups.now calls in
    let group : ℕ = c.args.group in
    let r : ℕ = c.first-number.result in
    let long : length of ≡ length calls = length-map calls (group_of (length c.args.task.now.groups.now.firsts.items)) in
    let first : IsFirst of group 0 r = subst (IsFirst of group 0) (sym c.first-number.ensures) (c.requires.groups.first group c.requires.group) in
    let none : members of group r ≡ [] = members_first of group r first in
    let most = first.most in
    let worker : Worker = c.args.worker.now in
    record {
      home = c.requires.home;
      claimer = refl;
      few = omega (arith, length-map c.args.task.now.calls.now call_of);
      same = length-map c.args.task.now.calls.now call_of;
      here = λ below. first.here (omega (arith, length-map c.args.task.now.calls.now call_of));
      numbers_are = sym (ap (λ (l : List ℕ). numbers worker.answers.items ++ l) none ∙ append-nil (numbers worker.answers.items));
      room = omega arith;
      answered = λ v before h. subst (HasAnswered g.L.Loader.ASKS c.args.task.now.cache.now calls v worker) (sym (ap (λ (l : List ℕ). before ++ l) none ∙ append-nil before)) h;
    }

pub push_reserved-requires : goal.push_reserved-requires
push_reserved-requires g c =
    let i = c.loop-number.invariant in
    let calls : List Call = all_seen c.args.task.now.calls.now in
    let of : List ℕ = groups_in c.args.task.now.groups.now calls in
    let n : ℕ = c.loop-number.number in
    let before : List ℕ = numbers c.args.worker.now.answers.items in
    let below : n < length calls = omega (arith, c.loop-number-test.true, length-map c.args.task.now.calls.now call_of) in
    let long = numbers_long c.loop-number.worker.answers.items in
    let same = ap (λ (l : List ℕ). length l) i.numbers_are in
    let few = room_more of before c.args.group (length calls) n c.requires.free below (i.here c.loop-number-test.true) in
    omega (arith, i.room, c.requires.room)

pub next-number-requires : goal.next-number-requires
next-number-requires g c =
    let calls : List Call = all_seen c.args.task.now.calls.now in
    let long = length-map calls (group_of (length c.args.task.now.groups.now.firsts.items)) in
    let all = c.requires.groups.calls_are in
    let below : c.loop-number.number < length calls = omega (arith, c.loop-number-test.true, length-map c.args.task.now.calls.now call_of) in omega arith

pub loop-number-preserved : goal.loop-number-preserved
loop-number-preserved g c =
    let i = c.loop-number.invariant in
    let calls : List Call = all_seen c.args.task.now.calls.now in
    let of : List ℕ = groups_in c.args.task.now.groups.now calls in
    let group : ℕ = c.args.group in
    let n : ℕ = c.loop-number.number in
    let r : ℕ = c.next-number.result in
    let below : n < length calls = omega (arith, c.loop-number-test.true, length-map c.args.task.now.calls.now call_of) in
    let long : length of ≡ length calls = length-map calls (group_of (length c.args.task.now.groups.now.firsts.items)) in
    let is : get_or of n 0 ≡ group = i.here c.loop-number-test.true in
    let next : IsFirst of (get_or of n 0) (n + 1) r = subst (IsFirst of (get_or of n 0) (n + 1)) (sym c.next-number.ensures) (c.requires.groups.next n (omega arith) (omega arith)) in
    let more : members of group r ≡ members of group n ++ n ∷ [] = members_next of group n r is next in
    let most = next.most in
    let before : Sitting = c.loop-number.worker.seat in
    let after : Sitting = c.call_at-answer.new.seat in
    let xs : List (ℕ × Answer) = c.loop-number.worker.answers.items in
    let first : List ℕ = numbers c.args.worker.now.answers.items in
    let x : Answer = c.call_at-answer.result in
    let worker : Worker = record { before = c.loop-number.worker.before; seat = after; workspace = c.call_at-answer.new.workspace; claimer = c.loop-number.worker.claimer; answers = c.push_reserved.new.self; behind = c.loop-number.worker.behind } in
    let one = one_call g.L.Loader.ASKS c.args.task.now.cache.now (call_of c.call_numbered-call.result) before after x c.call_at-answer.ensures.ok c.call_at-answer.ensures.err c.call_at-answer.ensures.memory in
    let many = numbers_long xs in
    let told = ap (λ (l : List ℕ). length l) i.numbers_are in
    let few = room_more of first group (length calls) n c.requires.free below is in
    let fewer : length xs < length calls = omega (arith, many, told, few) in
    let items : c.push_reserved.new.self.items ≡ xs ++ (n, x) ∷ [] = c.push_reserved.ensures.items in
    record {
      home = one.later.table ∙ i.home;
      claimer = i.claimer;
      few = omega (arith, length-map c.args.task.now.calls.now call_of);
      same = length-map c.args.task.now.calls.now call_of;
      here = λ h. next.here (omega (arith, length-map c.args.task.now.calls.now call_of)) ∙ is;
      numbers_are = ap numbers items ∙ numbers_more xs n x ∙ ap (λ (l : List ℕ). l ++ n ∷ []) i.numbers_are ∙ append_assoc first (members of group n) (n ∷ []) ∙ ap (λ (l : List ℕ). first ++ l) (sym more);
      room = omega (arith, c.push_reserved.ensures.capacity, i.room);
      answered = λ v ns h. subst (HasAnswered g.L.Loader.ASKS c.args.task.now.cache.now calls v worker) (append_assoc ns (members of group n) (n ∷ []) ∙ ap (λ (l : List ℕ). ns ++ l) (sym more))
          (one_answered g.L.Loader.ASKS c.args.task.now.cache.now calls v c.loop-number.worker worker (ns ++ members of group n) n (call_of c.call_numbered-call.result) x c.call_numbered-call.ensures one fewer items (omega (arith, c.push_reserved.ensures.capacity)) (i.answered v ns h));
    }

pub loop-number-smaller : goal.loop-number-smaller
loop-number-smaller g c =
    let calls : List Call = all_seen c.args.task.now.calls.now in
    let of : List ℕ = groups_in c.args.task.now.groups.now calls in
    let n : ℕ = c.loop-number.number in
    let below : n < length calls = omega (arith, c.loop-number-test.true, length-map c.args.task.now.calls.now call_of) in
    let long : length of ≡ length calls = length-map calls (group_of (length c.args.task.now.groups.now.firsts.items)) in
    let next = c.requires.groups.next n (omega arith) (omega arith) in
    let from = next.from in omega (arith, c.next-number.ensures)

pub returns-clause-answered : goal.returns-clause-answered
returns-clause-answered g c =
    let i = c.loop-number.invariant in
    let calls : List Call = all_seen c.args.task.now.calls.now in
    let of : List ℕ = groups_in c.args.task.now.groups.now calls in
    let all : c.loop-number.number ≡ length calls = omega (arith, i.few, c.loop-number-test.false, length-map c.args.task.now.calls.now call_of) in
    let w : Worker = c.loop-number.worker in
    λ v before h. subst (λ (s : Sitting). HasAnswered g.L.Loader.ASKS c.args.task.now.cache.now calls v (record w { seat = s }) (before ++ members of c.args.group (length calls))) (sym c.leave.ensures)
    (subst (λ (k : ℕ). HasAnswered g.L.Loader.ASKS c.args.task.now.cache.now calls v w (before ++ members of c.args.group k)) all (i.answered v before h))
