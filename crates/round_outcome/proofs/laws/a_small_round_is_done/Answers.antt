use Rattle.round_outcome.proofs.SmallRound.{round_is_done, no_value_from_nowhere}
use Rattle.round_outcome.proofs.laws.a_small_round_is_done.Goals as goal

pub returns-clause-done : goal.returns-clause-done
returns-clause-done c = round_is_done

pub returns-clause-nowhere : goal.returns-clause-nowhere
returns-clause-nowhere c = no_value_from_nowhere
