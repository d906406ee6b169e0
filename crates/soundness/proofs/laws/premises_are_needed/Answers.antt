use Rattle.soundness.proofs.ReservedName.{name_is_needed}
use Rattle.soundness.proofs.StaticProcess.{instance_is_needed}
use Rattle.soundness.proofs.ScatteredPlaces.{places_are_needed}
use Rattle.soundness.proofs.laws.premises_are_needed.Goals as goal

pub returns-clause-name : goal.returns-clause-name
returns-clause-name c = name_is_needed

pub returns-clause-instance : goal.returns-clause-instance
returns-clause-instance c = instance_is_needed

pub returns-clause-places : goal.returns-clause-places
returns-clause-places c = places_are_needed
