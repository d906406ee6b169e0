use Rattle.invokeall.proofs.Homes.{still_seats}
use Rattle.test_rounds.proofs.jobs.ran.Goals as goal

pub close-requires : goal.close-requires
close-requires g c = still_seats c.in_ok-cache.cache _ c.in_ok-cache.seats.items c.run_round.new.seats.items _ c.in_ok-cache.ensures.seats c.in-Ok-run_round.ensures.ok
