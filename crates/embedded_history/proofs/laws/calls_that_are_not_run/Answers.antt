use Rattle.embedded_history.proofs.Runs as proved
use Rattle.embedded_history.proofs.laws.calls_that_are_not_run.Goals as goal

pub returns-clause-not_run : goal.returns-clause-not_run
returns-clause-not_run c = proved.calls_that_are_not_run

pub returns-clause-run : goal.returns-clause-run
returns-clause-run c = proved.calls_that_are_run
