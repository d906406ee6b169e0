use Rattle.spec_examples.proofs.laws.small_classes_are_judged.Goals as goal
use Rattle.spec_examples.proofs.Judged.{small_is_judged, hidden_is_judged, flag_is_judged, switch_is_judged}

pub returns-clause-accepted : goal.returns-clause-accepted
returns-clause-accepted c = small_is_judged

pub returns-clause-hidden : goal.returns-clause-hidden
returns-clause-hidden c = hidden_is_judged

pub returns-clause-flag : goal.returns-clause-flag
returns-clause-flag c = flag_is_judged

pub returns-clause-switch : goal.returns-clause-switch
returns-clause-switch c = switch_is_judged
