use Rattle.soundness.specs.Accepted.{small_bytes, small_class}
use Rattle.soundness.specs.Example.{limits}
use Rattle.soundness.proofs.TypedMethods.{accepted_is_safe}
use Rattle.soundness.proofs.SmallVerdict.{is_accepted, class_is, process_is, are_bounds}
use Rattle.soundness.proofs.laws.example_is_accepted.Goals as goal

pub returns-clause-accepted : goal.returns-clause-accepted
returns-clause-accepted c = is_accepted

pub returns-clause-class : goal.returns-clause-class
returns-clause-class c = class_is

pub returns-clause-process : goal.returns-clause-process
returns-clause-process c = process_is

pub returns-clause-bounds : goal.returns-clause-bounds
returns-clause-bounds c = are_bounds

pub returns-clause-safe : goal.returns-clause-safe
returns-clause-safe c = accepted_is_safe small_bytes small_class 1 limits is_accepted class_is process_is are_bounds
