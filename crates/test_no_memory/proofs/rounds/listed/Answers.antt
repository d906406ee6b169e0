use Rattle.invokeall.proofs.Homes.{still_seats}
use Rattle.test_no_memory.proofs.rounds.listed.Goals as goal

pub returns-in-Ok-invoke_all : goal.returns-in-Ok-invoke_all
returns-in-Ok-invoke_all g c = still_seats c.args.cache.now _ c.args.seats.now.items c.invoke_all.new.seats.items _ c.requires.seats c.in-Ok-invoke_all.ensures.ok.round
