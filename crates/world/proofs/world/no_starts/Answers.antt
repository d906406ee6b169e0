use Rattle.world.proofs.Places.{zeros}
use Rattle.world.proofs.world.no_starts.Goals as goal

pub returns-clause-none : goal.returns-clause-none
returns-clause-none c caller = zeros 256 caller
