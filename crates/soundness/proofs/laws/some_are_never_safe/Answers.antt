use Rattle.soundness.proofs.NotTyped.{never_safe as types}
use Rattle.soundness.proofs.OtherSignature.{never_safe as signatures}
use Rattle.soundness.proofs.TopOperand.{never_safe as operands}
use Rattle.soundness.proofs.MeasuredLength.{never_safe as lengths}
use Rattle.soundness.proofs.Loop.{never_safe as direction}
use Rattle.soundness.proofs.OwnCall.{never_safe as ranks}
use Rattle.soundness.proofs.MissingMethod.{never_safe as count}
use Rattle.soundness.proofs.laws.some_are_never_safe.Goals as goal

pub returns-clause-types : goal.returns-clause-types
returns-clause-types c = types

pub returns-clause-signatures : goal.returns-clause-signatures
returns-clause-signatures c = signatures

pub returns-clause-operands : goal.returns-clause-operands
returns-clause-operands c = operands

pub returns-clause-lengths : goal.returns-clause-lengths
returns-clause-lengths c = lengths

pub returns-clause-direction : goal.returns-clause-direction
returns-clause-direction c = direction

pub returns-clause-ranks : goal.returns-clause-ranks
returns-clause-ranks c = ranks

pub returns-clause-count : goal.returns-clause-count
returns-clause-count c = count
