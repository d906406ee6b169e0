use Rattle.embedded_history.proofs.ThreeTurns.{are_a_conversation}
use Rattle.embedded_history.proofs.laws.three_calls.Goals as goal

pub returns : goal.returns
returns c = are_a_conversation
