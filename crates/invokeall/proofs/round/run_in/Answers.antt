use Rattle.std.proofs.Common.{◌≡◌, ℕ, ◌<◌, List, ◌++◌, Some, length, map, take, drop, get_or, arith, sym, ap, ◌∙◌, subst, take_all}
use Rattle.std.proofs.lemmas.List.{length-replicate}
use Rattle.std.proofs.lemmas.List.Elements.{All-same}
use lib.Seq.{take-append-le}
use Rattle.stripe.specs.History.{Call}
use Rattle.cache.specs.Opened.{Opened, Sitting}
use Rattle.claims.specs.Counters.{Numbering, AreAll}
use Rattle.invokeall.specs.declared.groups.Groups.{Groups}
use Rattle.invokeall.specs.declared.worker.Worker.{Worker}
use Rattle.invokeall.specs.Jobs.{all_seen}
use Rattle.invokeall.specs.Workers.{IsReady, HasWorked}
use Rattle.invokeall.specs.Rounds.{Answer}
use Rattle.invokeall.specs.Buffers.{seats_of, claimers_of, rows_of, entries_of, blanks, placed, put_all}
use Rattle.invokeall.proofs.Worked.{all_worked, all_ready, all_claimers, are_filled, is_round, need_by_all, each_once, length_seats}
use Rattle.invokeall.proofs.Rows.{put_shown, shown_blanks, shown_there}
use Rattle.invokeall.proofs.round.run_in.Goals as goal

-- The items of a vector after a write of its whole slice.
written : {A : Type 0} (len : ℕ) (new items rest : List A) → len ≡ length items → length new ≡ length items → take len (new ++ rest) ≡ new
written len new items rest a b = take-append-le len new rest (omega arith) ∙ take_all len new (omega arith)

pub run_all-requires-clause-ready : goal.run_all-requires-clause-ready
run_all-requires-clause-ready g c =
    let vs : List Worker = c.make_workers.new.workers.items in
    let before : seats_of vs ≡ c.args.seats.now.items = c.make_workers.ensures.seats ∙ ap (λ v. v.items) c.replace-old.ensures.value in
    let buffers = c.requires.buffers in
    let groups : Groups = c.of-groups.result in
    let all = all_ready g.L.Loader.ASKS c.args.round.now.cache.now c.args.buffers.counter groups (all_seen c.args.round.now.calls.now) vs c.args.seats.now.items c.args.buffers.claimers.items c.args.buffers.lists.items before c.make_workers.ensures.claimers c.make_workers.ensures.lists c.requires.home buffers.claimers.each buffers.lists.1 in
    let is : c.as_mut_slice.result.now ≡ vs = c.as_mut_slice.ensures.value in
    λ lifetimes lives. All-same (IsReady c.args.round.now.cache.now c.args.buffers.counter (length (all_seen c.args.round.now.calls.now))) c.as_mut_slice.result.now vs is all

pub close-requires : goal.close-requires
close-requires g c =
    let d : Opened _ = c.args.round.now.cache.now in
    let counter : Numbering = c.args.buffers.counter in
    let groups : Groups = c.of-groups.result in
    let calls : List Call = all_seen c.args.round.now.calls.now in
    let vs : List Worker = c.make_workers.new.workers.items in
    let ws : List Worker = c.run_all.new.workers in
    let before : seats_of vs ≡ c.args.seats.now.items = c.make_workers.ensures.seats ∙ ap (λ v. v.items) c.replace-old.ensures.value in
    let long : length c.as_mut_slice.result.now ≡ length vs = ap (λ (l : List Worker). length l) c.as_mut_slice.ensures.value in
    let same : length ws ≡ length vs = omega (arith, c.run_all.auto.workers) in
    let seats : length vs ≡ length c.args.seats.now.items = sym (length_seats vs) ∙ ap (λ (l : List Sitting). length l) before in
    let whole = written c.make_workers.new.workers.len ws vs (drop (length ws) vs) (omega (arith, c.make_workers.new.workers.ok.0)) same in
    let worked = all_worked g.L.Loader.ASKS d counter groups calls vs ws same (λ i e below. subst (λ (l : List Worker). HasWorked g.L.Loader.ASKS d counter groups calls (get_or l i e) (get_or ws i e)) c.as_mut_slice.ensures.value (c.run_all.ensures i e (omega arith))) in
    let shares : c.into_parts.new.claimers.items ≡ claimers_of ws = c.into_parts.ensures.claimers ∙ ap claimers_of whole in
    subst (AreAll counter) (sym shares) (all_claimers g.L.Loader.ASKS d counter groups calls vs ws worked (same ∙ seats ∙ sym c.requires.buffers.workers_are))

pub returns-clause-round : goal.returns-clause-round
returns-clause-round g c =
    let d : Opened _ = c.args.round.now.cache.now in
    let counter : Numbering = c.args.buffers.counter in
    let groups : Groups = c.of-groups.result in
    let calls : List Call = all_seen c.args.round.now.calls.now in
    let vs : List Worker = c.make_workers.new.workers.items in
    let ws : List Worker = c.run_all.new.workers in
    let before : seats_of vs ≡ c.args.seats.now.items = c.make_workers.ensures.seats ∙ ap (λ v. v.items) c.replace-old.ensures.value in
    let long : length c.as_mut_slice.result.now ≡ length vs = ap (λ (l : List Worker). length l) c.as_mut_slice.ensures.value in
    let same : length ws ≡ length vs = omega (arith, c.run_all.auto.workers) in
    let seats : length vs ≡ length c.args.seats.now.items = sym (length_seats vs) ∙ ap (λ (l : List Sitting). length l) before in
    let whole = written c.make_workers.new.workers.len ws vs (drop (length ws) vs) (omega (arith, c.make_workers.new.workers.ok.0)) same in
    let worked = all_worked g.L.Loader.ASKS d counter groups calls vs ws same (λ i e below. subst (λ (l : List Worker). HasWorked g.L.Loader.ASKS d counter groups calls (get_or l i e) (get_or ws i e)) c.as_mut_slice.ensures.value (c.run_all.ensures i e (omega arith))) in
    let shares : c.into_parts.new.claimers.items ≡ claimers_of ws = c.into_parts.ensures.claimers ∙ ap claimers_of whole in
    let some_worker : 0 < length vs = omega (arith, c.requires.some_seat) in
    let each = each_once g.L.Loader.ASKS d counter groups calls vs ws c.into_parts.new.claimers.items worked some_worker shares c.close.ensures.once c.close.ensures.done in
    let counted : counter.jobs ≡ length groups.firsts.items = sym (c.of-groups.ensures.groups ∙ ap (λ (l : List ℕ). length l) c.requires.buffers.blank.0 ∙ length-replicate _ _) in
    let n : ℕ = length calls in
    let es : List (ℕ × Answer) = entries_of (rows_of ws) in
    let begun : List Answer = c.args.buffers.answers.items in
    let start : c.as_mut_slice-2.result.now ≡ begun = c.as_mut_slice-2.ensures.value in
    let covered : length c.collect.new.answers ≡ length begun = c.collect.auto.answers ∙ ap (λ (l : List Answer). length l) start in
    let rows : entries_of c.into_parts.new.rows.items ≡ es = ap entries_of c.into_parts.ensures.rows ∙ ap (λ (l : List Worker). entries_of (rows_of l)) whole in
    let answers = written c.args.buffers.answers.len c.collect.new.answers begun (drop (length c.collect.new.answers) begun) (omega (arith, c.args.buffers.answers.ok.0)) covered
    ∙ c.collect.ensures ∙ (λ k. put_all ((start ∙ c.requires.buffers.answers ∙ shown_blanks n) k) (rows k)) ∙ put_shown (blanks n) es in
    let there = are_filled g.L.Loader.ASKS d counter groups calls vs ws worked each c.of-groups.ensures.calls counted in
    is_round g.L.Loader.ASKS d counter groups calls vs ws c.args.seats.now.items c.into_parts.new.seats.items _ worked (sym before) (c.into_parts.ensures.seats ∙ ap seats_of whole) (ap (λ (l : List Answer). map Some l) answers ∙ shown_there (placed (blanks n) es) there) each

pub returns-clause-memory : goal.returns-clause-memory
returns-clause-memory g c = λ room.
    let d : Opened _ = c.args.round.now.cache.now in
    let counter : Numbering = c.args.buffers.counter in
    let groups : Groups = c.of-groups.result in
    let calls : List Call = all_seen c.args.round.now.calls.now in
    let vs : List Worker = c.make_workers.new.workers.items in
    let ws : List Worker = c.run_all.new.workers in
    let before : seats_of vs ≡ c.args.seats.now.items = c.make_workers.ensures.seats ∙ ap (λ v. v.items) c.replace-old.ensures.value in
    let long : length c.as_mut_slice.result.now ≡ length vs = ap (λ (l : List Worker). length l) c.as_mut_slice.ensures.value in
    let same : length ws ≡ length vs = omega (arith, c.run_all.auto.workers) in
    let seats : length vs ≡ length c.args.seats.now.items = sym (length_seats vs) ∙ ap (λ (l : List Sitting). length l) before in
    let whole = written c.make_workers.new.workers.len ws vs (drop (length ws) vs) (omega (arith, c.make_workers.new.workers.ok.0)) same in
    let worked = all_worked g.L.Loader.ASKS d counter groups calls vs ws same (λ i e below. subst (λ (l : List Worker). HasWorked g.L.Loader.ASKS d counter groups calls (get_or l i e) (get_or ws i e)) c.as_mut_slice.ensures.value (c.run_all.ensures i e (omega arith))) in
    let shares : c.into_parts.new.claimers.items ≡ claimers_of ws = c.into_parts.ensures.claimers ∙ ap claimers_of whole in
    let some_worker : 0 < length vs = omega (arith, c.requires.some_seat) in
    let each = each_once g.L.Loader.ASKS d counter groups calls vs ws c.into_parts.new.claimers.items worked some_worker shares c.close.ensures.once c.close.ensures.done in
    let counted : counter.jobs ≡ length groups.firsts.items = sym (c.of-groups.ensures.groups ∙ ap (λ (l : List ℕ). length l) c.requires.buffers.blank.0 ∙ length-replicate _ _) in
    let n : ℕ = length calls in
    let es : List (ℕ × Answer) = entries_of (rows_of ws) in
    let begun : List Answer = c.args.buffers.answers.items in
    let start : c.as_mut_slice-2.result.now ≡ begun = c.as_mut_slice-2.ensures.value in
    let covered : length c.collect.new.answers ≡ length begun = c.collect.auto.answers ∙ ap (λ (l : List Answer). length l) start in
    let rows : entries_of c.into_parts.new.rows.items ≡ es = ap entries_of c.into_parts.ensures.rows ∙ ap (λ (l : List Worker). entries_of (rows_of l)) whole in
    let answers = written c.args.buffers.answers.len c.collect.new.answers begun (drop (length c.collect.new.answers) begun) (omega (arith, c.args.buffers.answers.ok.0)) covered
    ∙ c.collect.ensures ∙ (λ k. put_all ((start ∙ c.requires.buffers.answers ∙ shown_blanks n) k) (rows k)) ∙ put_shown (blanks n) es in
    let there = are_filled g.L.Loader.ASKS d counter groups calls vs ws worked each c.of-groups.ensures.calls counted in
    need_by_all g.L.Loader.ASKS d counter groups calls vs ws c.args.seats.now.items _ worked (sym before) (ap (λ (l : List Answer). map Some l) answers ∙ shown_there (placed (blanks n) es) there) room
