use Rattle.unrolled.proofs.Unrolled.{unrolled_has_bounds, unrolled_excludes, loop_is_unrolled}
use Rattle.unrolled.proofs.laws.unrolled_has_bounds.Goals as goal

pub returns-clause-bounds : goal.returns-clause-bounds
returns-clause-bounds c = unrolled_has_bounds

pub returns-clause-excludes : goal.returns-clause-excludes
returns-clause-excludes c = unrolled_excludes

pub returns-clause-example : goal.returns-clause-example
returns-clause-example c = loop_is_unrolled
