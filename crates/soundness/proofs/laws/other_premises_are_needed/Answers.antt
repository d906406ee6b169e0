use Rattle.soundness.proofs.NotTyped.{types_are_needed}
use Rattle.soundness.proofs.OtherSignature.{signatures_are_needed}
use Rattle.soundness.proofs.TopOperand.{operands_are_needed}
use Rattle.soundness.proofs.MeasuredLength.{lengths_are_needed}
use Rattle.soundness.proofs.Loop.{direction_is_needed}
use Rattle.soundness.proofs.OwnCall.{ranks_are_needed}
use Rattle.soundness.proofs.MissingMethod.{count_is_needed}
use Rattle.soundness.proofs.OtherBounds.{bounds_are_needed, process_is_needed}
use Rattle.soundness.proofs.laws.other_premises_are_needed.Goals as goal

pub returns-clause-types : goal.returns-clause-types
returns-clause-types c = types_are_needed

pub returns-clause-signatures : goal.returns-clause-signatures
returns-clause-signatures c = signatures_are_needed

pub returns-clause-operands : goal.returns-clause-operands
returns-clause-operands c = operands_are_needed

pub returns-clause-lengths : goal.returns-clause-lengths
returns-clause-lengths c = lengths_are_needed

pub returns-clause-direction : goal.returns-clause-direction
returns-clause-direction c = direction_is_needed

pub returns-clause-ranks : goal.returns-clause-ranks
returns-clause-ranks c = ranks_are_needed

pub returns-clause-count : goal.returns-clause-count
returns-clause-count c = count_is_needed

pub returns-clause-bounds : goal.returns-clause-bounds
returns-clause-bounds c = bounds_are_needed

pub returns-clause-process : goal.returns-clause-process
returns-clause-process c = process_is_needed
