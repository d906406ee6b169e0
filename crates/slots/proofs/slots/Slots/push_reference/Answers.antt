use Rattle.slots.proofs.Kept.{pushed_reference}
use Rattle.slots.proofs.slots.Slots.push_reference.Goals as goal

pub returns-clause-reads : goal.returns-clause-reads
returns-clause-reads c arrays ls v vs below is r =
    let parts = c.parts_of-kind.ensures arrays v is in
    pushed_reference arrays _ _ _ _ _ ls vs below v _ _ c.requires.room parts.1 parts.0 r
