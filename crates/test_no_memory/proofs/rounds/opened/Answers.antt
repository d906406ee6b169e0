use Rattle.invokeall.proofs.Homes.{fresh_seats, seats_home}
use Rattle.test_no_memory.proofs.rounds.opened.Goals as goal

pub returns-in-Ok-clause-home : goal.returns-in-Ok-clause-home
returns-in-Ok-clause-home c =
    let d = c.in-Ok.opened.0 in
    let seats = c.in-Ok.opened.1.items in
    seats_home d seats (fresh_seats d c.args.seats seats c.in-Ok.ensures.cache.seats_are c.in-Ok.ensures.seats)
