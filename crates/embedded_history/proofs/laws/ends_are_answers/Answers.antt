use Rattle.embedded_history.proofs.Records as proved
use Rattle.embedded_history.proofs.laws.ends_are_answers.Goals as goal

pub returns : goal.returns
returns c = proved.ends_are_answers
