use Rattle.std.proofs.Common.{◌≡◌, ◌≤◌, List, [], ◌∷◌, length, get_or, set, refl, sym, ap, ◌∙◌, subst, arith}
use mathlib.Core.Option.{some}
use lib.ListN.{get_elem?}
use Rattle.stripe.specs.History.{Call}
use Rattle.cache.specs.Opened.{Opened, Sitting}
use Rattle.invokeall.specs.Jobs.{all_seen}
use Rattle.invokeall.specs.Rounds.{Answer, IsRound}
use Rattle.invokeall.proofs.Homes.{fresh_seats, seats_home, still_seats}
use Rattle.workers.proofs.Done.{round_done}
use Rattle.workers.proofs.Journals.{all_have_places, all_refused}
use Rattle.workers.proofs.single.run_at_one.Goals as goal

only : (l : List Sitting) (d : Sitting) → length l ≡ 1 → get_or l 0 d ∷ [] ≡ l
only [] d e = absurd (omega (arith, e))
only (x ∷ []) d e = refl
only (x ∷ y ∷ l) d e = absurd (omega (arith, e))

set_only : (l : List Sitting) (x : Sitting) → length l ≡ 1 → x ∷ [] ≡ set l 0 x
set_only [] x e = absurd (omega (arith, e))
set_only (y ∷ []) x e = refl
set_only (y ∷ z ∷ l) x e = absurd (omega (arith, e))

-- A round at the only seat is a round at all seats.
all_seats : {L : Type 0} (d : Opened L) (calls : List Call) (seats : List Sitting) (first new : Sitting) (answers : List Answer) → length seats ≡ 1 → first ≡ get_or seats 0 first → IsRound d calls (first ∷ []) (new ∷ []) answers
    → IsRound d calls seats (set seats 0 new) answers
all_seats d calls seats first new answers one is round =
    subst (λ (l : List Sitting). IsRound d calls l (set seats 0 new) answers) (ap (λ (s : Sitting). s ∷ []) is ∙ only seats first one)
    (subst (λ (l : List Sitting). IsRound d calls (first ∷ []) l answers) (set_only seats new one) round)

first_at : (l : List Sitting) (d : Sitting) → length l ≡ 1 → get_elem? l 0 ≡ some (get_or l 0 d)
first_at [] d e = absurd (omega (arith, e))
first_at (x ∷ l) d e = refl

pub run_alone-requires-clause-home : goal.run_alone-requires-clause-home
run_alone-requires-clause-home g c =
    let d : Opened _ = c.args.cache in
    let seats : List Sitting = c.args.seats.items in
    let first : Sitting = c.index_mut.result.now in
    let home = seats_home d seats (fresh_seats d d.seats seats refl c.requires.seats) in
    ap (λ (s : Sitting). s.table) c.index_mut.ensures.value ∙ home 0 first (omega (arith, c.requires.seats.count, c.requires.count))

pub close-tables-requires : goal.close-tables-requires
close-tables-requires g c =
    let d : Opened _ = c.args.cache in
    let calls : List Call = all_seen c.args.round.now.calls.now in
    let seats : List Sitting = c.args.seats.items in
    let new : Sitting = c.run_alone.new.seat in
    let round = all_seats d calls seats c.index_mut.result.now new c.run_alone.new.answers.items (c.requires.seats.count ∙ c.requires.count) c.index_mut.ensures.value c.run_alone.ensures.round in
    still_seats d calls seats (set seats 0 new) c.run_alone.new.answers.items (fresh_seats d d.seats seats refl c.requires.seats) round

pub returns-clause-placed : goal.returns-clause-placed
returns-clause-placed g c =
    let d : Opened _ = c.args.cache in
    let calls : List Call = all_seen c.args.round.now.calls.now in
    let seats : List Sitting = c.args.seats.items in
    let new : Sitting = c.run_alone.new.seat in
    let round = all_seats d calls seats c.index_mut.result.now new c.run_alone.new.answers.items (c.requires.seats.count ∙ c.requires.count) c.index_mut.ensures.value c.run_alone.ensures.round in
    all_have_places g.L.Loader.ASKS (g.L.Loader.gives d.loader) d d.seats seats (set seats 0 new) calls c.run_alone.new.answers.items c.close-tables.result.tables _ c.requires.journal c.requires.seats round c.close-tables.ensures.settled

pub returns-clause-done : goal.returns-clause-done
returns-clause-done g c =
    let d : Opened _ = c.args.cache in
    let calls : List Call = all_seen c.args.round.now.calls.now in
    let seats : List Sitting = c.args.seats.items in
    let first : Sitting = c.index_mut.result.now in
    let new : Sitting = c.run_alone.new.seat in
    let round = all_seats d calls seats c.index_mut.result.now new c.run_alone.new.answers.items (c.requires.seats.count ∙ c.requires.count) c.index_mut.ensures.value c.run_alone.ensures.round in
    round_done g.L.Loader.ASKS (g.L.Loader.gives d.loader) d d.seats seats (set seats 0 new) calls c.run_alone.new.answers.items c.requires.seats round c.close-tables.result.tables _ c.close-tables.ensures.settled
    (all_refused g.L.Loader.ASKS (g.L.Loader.gives d.loader) d d.seats seats (set seats 0 new) calls c.run_alone.new.answers.items c.close-tables.result.tables _ c.requires.journal c.requires.seats round c.close-tables.ensures.settled
    (c.run_alone.ensures.memory (subst (λ (s : Sitting). length calls ≤ s.room) (sym c.index_mut.ensures.value) (c.requires.receipts 0 (get_or seats 0 first) (first_at seats first (c.requires.seats.count ∙ c.requires.count))))))
