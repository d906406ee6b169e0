use Rattle.std.proofs.Common.{◌≡◌, ℕ, ◌+◌, ◌<◌, List, length, Bool, true, false, not, set, get_or, arith, sym, ap, ◌∙◌, subst}
use Rattle.stripe.specs.History.{Call}
use Rattle.cache.specs.Opened.{Opened}
use Rattle.claims.specs.Counters.{Numbering, Share}
use Rattle.invokeall.specs.declared.groups.Groups.{Groups}
use Rattle.invokeall.specs.declared.worker.Worker.{Worker}
use Rattle.invokeall.specs.Jobs.{all_seen}
use Rattle.invokeall.specs.Groups.{groups_in, members_of_all}
use Rattle.invokeall.proofs.Turns.{same_answered}
use Rattle.invokeall.proofs.PutOff.{IsOnItsWay, at_start, free_group, new_claimed, on_claim, new_caught, on_return, told_end, none_left, earlier_marks, one_place_more, unmarked_by}
use Rattle.invokeall.proofs.worker.work.Goals.{then-later-put_off+then-is_done, then-later-put_off+else-is_done, else-later-put_off}
use Rattle.invokeall.proofs.worker.work.Goals as goal

pub loop-group-init : goal.loop-group-init
loop-group-init g c = at_start g.L.Loader.ASKS c.args.task.now.cache.now c.args.task.now.counter.now c.args.task.now.groups.now (all_seen c.args.task.now.calls.now) c.args.worker.now c.requires.ready

pub work_within-requires-clause-free : goal.work_within-requires-clause-free
work_within-requires-clause-free g c =
    let i = c.loop-group.invariant in
    let calls : List Call = all_seen c.args.task.now.calls.now in
    let fresh = new_claimed g.L.Loader.ASKS c.args.task.now.cache.now c.args.task.now.counter.now c.args.task.now.groups.now calls c.args.worker.now c.loop-group.worker c.loop-group.later i c.in-Some.group c.in-Some.ensures.rising in
    free_group g.L.Loader.ASKS c.args.task.now.cache.now c.args.task.now.counter.now c.args.task.now.groups.now calls c.args.worker.now c.loop-group.worker c.loop-group.later i c.in-Some.group fresh

pub loop-group-preserved : goal.loop-group-preserved
loop-group-preserved g c =
    let i = c.loop-group.invariant in
    let d : Opened _ = c.args.task.now.cache.now in
    let calls : List Call = all_seen c.args.task.now.calls.now in
    let first : Worker = c.args.worker.now in
    let w : Worker = c.loop-group.worker in
    let made : List ℕ = members_of_all (groups_in c.args.task.now.groups.now calls) (length calls) i.put_off.order in
    let old = same_answered g.L.Loader.ASKS d calls first w c.claim.new.self made i.put_off.answered in
    on_claim g.L.Loader.ASKS d c.args.task.now.counter.now c.args.task.now.groups.now calls first w c.loop-group.later i c.in-Some.group c.in-Some.ensures.rising c.work_within.new.worker c.work_within.result c.in-Some.ensures.job c.requires.few
    (c.work_within.ensures.claimer ∙ c.in-Some.ensures.some.1) (λ e. c.work_within.ensures.made e first made old) (λ e. c.work_within.ensures.put_off e first made old)

pub loop-init : goal.loop-init
loop-init g c = record { way = λ v h. h; done = ap (λ (s : Share). s.done) c.in_default.ensures.none }

pub loop-put_off-init : goal.loop-put_off-init
loop-put_off-init g c = record { way = λ v h. h; done = c.loop.invariant.done; none = λ _ x below. absurd (omega arith) }

pub work_within-requires-then-later-put_off-clause-free : goal.work_within-requires-then-later-put_off-clause-free
work_within-requires-then-later-put_off-clause-free g c =
    let d : Opened _ = c.args.task.now.cache.now in
    let counter : Numbering = c.args.task.now.counter.now in
    let groups : Groups = c.args.task.now.groups.now in
    let calls : List Call = all_seen c.args.task.now.calls.now in
    let first : Worker = c.args.worker.now in
    let w : Worker = c.loop-put_off.worker in
    let later : List Bool = c.loop-put_off.later in
    let group : ℕ = c.loop-put_off.put_off in
    let end = told_end g.L.Loader.ASKS d counter groups calls first c.loop-group.worker c.loop-group.later c.loop-group.invariant c.claim.new.self c.in_default.ensures.none in
    let i = c.loop-put_off.invariant.way first (c.loop.invariant.way first end) in
    free_group g.L.Loader.ASKS d counter groups calls first w later i group (new_caught g.L.Loader.ASKS d counter groups calls first w later i group c.if-later-put_off.true)

pub work_within-requires-then-later-put_off-clause-home : goal.work_within-requires-then-later-put_off-clause-home
work_within-requires-then-later-put_off-clause-home g c =
    let end = told_end g.L.Loader.ASKS c.args.task.now.cache.now c.args.task.now.counter.now c.args.task.now.groups.now (all_seen c.args.task.now.calls.now) c.args.worker.now c.loop-group.worker c.loop-group.later c.loop-group.invariant c.claim.new.self c.in_default.ensures.none in
    let i = c.loop-put_off.invariant.way c.args.worker.now (c.loop.invariant.way c.args.worker.now end) in
    i.put_off.answered.seat.table ∙ c.requires.ready.home

pub work_within-requires-then-later-put_off-clause-room : goal.work_within-requires-then-later-put_off-clause-room
work_within-requires-then-later-put_off-clause-room g c =
    let end = told_end g.L.Loader.ASKS c.args.task.now.cache.now c.args.task.now.counter.now c.args.task.now.groups.now (all_seen c.args.task.now.calls.now) c.args.worker.now c.loop-group.worker c.loop-group.later c.loop-group.invariant c.claim.new.self c.in_default.ensures.none in
    let i = c.loop-put_off.invariant.way c.args.worker.now (c.loop.invariant.way c.args.worker.now end) in
    omega (arith, i.put_off.answered.room, c.requires.ready.room)

pub loop-put_off-preserved : goal.loop-put_off-preserved
loop-put_off-preserved g c =
    let d : Opened _ = c.args.task.now.cache.now in
    let counter : Numbering = c.args.task.now.counter.now in
    let groups : Groups = c.args.task.now.groups.now in
    let calls : List Call = all_seen c.args.task.now.calls.now in
    let before : Worker = c.loop.worker in
    let w : Worker = c.loop-put_off.worker in
    let later : List Bool = c.loop-put_off.later in
    let n : ℕ = c.loop-put_off.put_off in
    let Way : Worker → List Bool → Type 0 = λ x marks. (v : Worker) → IsOnItsWay g.L.Loader.ASKS d counter groups calls v before c.loop.later → IsOnItsWay g.L.Loader.ASKS d counter groups calls v x marks in
    let marks : List Bool = c.if-later-put_off.later in
    let i = c.loop-put_off.invariant in
    let one : Way c.if-later-put_off.worker c.if-later-put_off.later × (c.if-later-put_off.worker.claimer.done ≡ true) × (c.if-later-put_off.is_done ≡ true → (x : ℕ) → x < n + 1 → get_or c.if-later-put_off.later x false ≡ false) = elim c.if-later-put_off.branch [
      | then-later-put_off+then-is_done b ↦ (
        (λ v h.
            let way = i.way v h in
            let made : List ℕ = members_of_all (groups_in groups calls) (length calls) way.put_off.order in
            let did = b.work_within-then-later-put_off in
            subst (λ (x : Worker × List Bool). IsOnItsWay g.L.Loader.ASKS d counter groups calls v x.0 x.1) (λ k. (sym b.worker-is k, sym b.later-is k))
            (on_return g.L.Loader.ASKS d counter groups calls v w later way n b.if-later-put_off.true did.new.worker did.result (omega (arith, c.loop-put_off-test.true, c.requires.counter)) c.requires.few did.ensures.claimer
            (λ e. did.ensures.made e v made way.put_off.answered) (λ e. did.ensures.put_off e v made way.put_off.answered))),
        ap (λ (x : Worker). x.claimer.done) b.worker-is ∙ ap (λ (s : Share). s.done) b.work_within-then-later-put_off.ensures.claimer ∙ i.done,
        (λ e. one_place_more marks n (λ x below. ap (λ (l : List Bool). get_or l x false) b.later-is ∙ earlier_marks later n x (not b.work_within-then-later-put_off.result) below ∙ i.none b.if-is_done.true x below)
            (ap (λ (l : List Bool). get_or l n false) b.later-is ∙ unmarked_by (get_or (set later n (not b.work_within-then-later-put_off.result)) n false) (sym b.is_done-is ∙ e))),
      )
      | then-later-put_off+else-is_done b ↦ (
        (λ v h.
            let way = i.way v h in
            let made : List ℕ = members_of_all (groups_in groups calls) (length calls) way.put_off.order in
            let did = b.work_within-then-later-put_off in
            subst (λ (x : Worker × List Bool). IsOnItsWay g.L.Loader.ASKS d counter groups calls v x.0 x.1) (λ k. (sym b.worker-is k, sym b.later-is k))
            (on_return g.L.Loader.ASKS d counter groups calls v w later way n b.if-later-put_off.true did.new.worker did.result (omega (arith, c.loop-put_off-test.true, c.requires.counter)) c.requires.few did.ensures.claimer
            (λ e. did.ensures.made e v made way.put_off.answered) (λ e. did.ensures.put_off e v made way.put_off.answered))),
        ap (λ (x : Worker). x.claimer.done) b.worker-is ∙ ap (λ (s : Share). s.done) b.work_within-then-later-put_off.ensures.claimer ∙ i.done,
        (λ e x below. absurd (let f = b.is_done-is in let h = b.if-is_done.false in cc)),
      )
      | else-later-put_off b ↦ (
        (λ v h. subst (λ (x : Worker × List Bool). IsOnItsWay g.L.Loader.ASKS d counter groups calls v x.0 x.1) (λ k. (sym b.worker-is k, sym b.later-is k)) (i.way v h)),
        ap (λ (x : Worker). x.claimer.done) b.worker-is ∙ i.done,
        (λ e. one_place_more marks n (λ x below. ap (λ (l : List Bool). get_or l x false) b.later-is ∙ i.none (sym b.is_done-is ∙ e) x below) (ap (λ (l : List Bool). get_or l n false) b.later-is ∙ b.if-later-put_off.false)),
      )
    ] in
    record { way = one.0; done = one.1; none = one.2 }

pub returns-then-is_done-2 : goal.returns-then-is_done-2
returns-then-is_done-2 g c =
    let d : Opened _ = c.args.task.now.cache.now in
    let counter : Numbering = c.args.task.now.counter.now in
    let groups : Groups = c.args.task.now.groups.now in
    let calls : List Call = all_seen c.args.task.now.calls.now in
    let first : Worker = c.args.worker.now in
    let w : Worker = c.loop-put_off.worker in
    let later : List Bool = c.loop-put_off.later in
    let end = told_end g.L.Loader.ASKS d counter groups calls first c.loop-group.worker c.loop-group.later c.loop-group.invariant c.claim.new.self c.in_default.ensures.none in
    let i = c.loop-put_off.invariant.way first (c.loop.invariant.way first end) in
    record {
      at = i.at;
      done = c.loop-put_off.invariant.done;
      order = i.put_off.order;
      claimed = none_left g.L.Loader.ASKS d counter groups calls first w later i (λ x below. c.loop-put_off.invariant.none c.if-is_done-2.true x (omega (arith, c.loop-put_off-test.false, c.requires.counter)));
      answered = i.put_off.answered;
    }

pub loop-preserved : goal.loop-preserved
loop-preserved g c = record { way = λ v h. c.loop-put_off.invariant.way v (c.loop.invariant.way v h); done = c.loop-put_off.invariant.done }
