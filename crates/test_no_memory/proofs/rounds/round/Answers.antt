use Rattle.invokeall.proofs.Homes.{still_seats}
use Rattle.test_no_memory.proofs.rounds.round.Goals as goal

pub close-requires-in-Ok-run_round : goal.close-requires-in-Ok-run_round
close-requires-in-Ok-run_round g c = still_seats c.in-Ok.opened.0 _ c.in-Ok.opened.1.items c.run_round.new.seats.items _ c.in-Ok.ensures.seats c.in-Ok-run_round.ensures.ok
