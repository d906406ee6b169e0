use Rattle.soundness.proofs.BoundsExist.{accepted_has_bounds, checked_leads_on}
use Rattle.soundness.proofs.laws.accepted_has_bounds.Goals as goal

pub returns-clause-bounds : goal.returns-clause-bounds
returns-clause-bounds c = accepted_has_bounds

pub returns-clause-leads : goal.returns-clause-leads
returns-clause-leads c = checked_leads_on
