use Rattle.embedded_history.proofs.Records.{conversations_have_records, conversations_are_legal, records_are_determined}
use Rattle.embedded_history.proofs.laws.conversations_are_legal_histories.Goals as goal

pub returns-clause-records : goal.returns-clause-records
returns-clause-records c = conversations_have_records

pub returns-clause-legal : goal.returns-clause-legal
returns-clause-legal c = conversations_are_legal

pub returns-clause-determined : goal.returns-clause-determined
returns-clause-determined c = records_are_determined
