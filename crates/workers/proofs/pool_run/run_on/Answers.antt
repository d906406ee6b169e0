use Rattle.std.proofs.Common.{List, refl}
use Rattle.cache.specs.Opened.{Opened, Sitting}
use Rattle.invokeall.specs.Jobs.{all_seen}
use Rattle.invokeall.proofs.Homes.{fresh_seats, seats_home, still_seats}
use Rattle.workers.proofs.Done.{round_done}
use Rattle.workers.proofs.Journals.{all_have_places, all_refused}
use Rattle.workers.proofs.pool_run.run_on.Goals as goal

pub run_in-answers-requires-clause-home : goal.run_in-answers-requires-clause-home
run_in-answers-requires-clause-home g c =
    let d : Opened _ = c.args.cache in
    let seats : List Sitting = c.args.seats.items in
    λ lifetimes lives. seats_home d seats (fresh_seats d d.seats seats refl c.requires.seats)

pub close-tables-requires : goal.close-tables-requires
close-tables-requires g c =
    let d : Opened _ = c.args.cache in
    let seats : List Sitting = c.args.seats.items in
    still_seats d _ seats c.run_in-answers.new.seats.items _ (fresh_seats d d.seats seats refl c.requires.seats) c.run_in-answers.ensures.round

pub returns-clause-placed : goal.returns-clause-placed
returns-clause-placed g c =
    let d : Opened _ = c.args.cache in
    all_have_places g.L.Loader.ASKS (g.L.Loader.gives d.loader) d d.seats c.args.seats.items c.run_in-answers.new.seats.items (all_seen c.args.round.now.calls.now) c.run_in-answers.result.items c.close-tables.result.tables _ c.requires.journal c.requires.seats c.run_in-answers.ensures.round c.close-tables.ensures.settled

pub returns-clause-done : goal.returns-clause-done
returns-clause-done g c =
    let d : Opened _ = c.args.cache in
    round_done g.L.Loader.ASKS (g.L.Loader.gives d.loader) d d.seats c.args.seats.items c.run_in-answers.new.seats.items (all_seen c.args.round.now.calls.now) c.run_in-answers.result.items c.requires.seats c.run_in-answers.ensures.round c.close-tables.result.tables _ c.close-tables.ensures.settled
    (all_refused g.L.Loader.ASKS (g.L.Loader.gives d.loader) d d.seats c.args.seats.items c.run_in-answers.new.seats.items (all_seen c.args.round.now.calls.now) c.run_in-answers.result.items c.close-tables.result.tables _ c.requires.journal c.requires.seats c.run_in-answers.ensures.round c.close-tables.ensures.settled
    (c.run_in-answers.ensures.memory c.requires.receipts))
