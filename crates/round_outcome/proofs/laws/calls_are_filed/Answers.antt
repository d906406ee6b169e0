use Rattle.round_outcome.proofs.Handed.{none_is_filed, filed_by_calls, filed_by_refusals}
use Rattle.round_outcome.proofs.laws.calls_are_filed.Goals as goal

pub returns-clause-none : goal.returns-clause-none
returns-clause-none g c = none_is_filed

pub returns-clause-more : goal.returns-clause-more
returns-clause-more g c = filed_by_calls _

pub returns-clause-refused : goal.returns-clause-refused
returns-clause-refused g c = filed_by_refusals _
