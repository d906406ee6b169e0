use Rattle.embedded_history.proofs.Runs as proved
use Rattle.embedded_history.proofs.laws.answers_are_determined.Goals as goal

pub returns : goal.returns
returns c = proved.answers_are_determined
