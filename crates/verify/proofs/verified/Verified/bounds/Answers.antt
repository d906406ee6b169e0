use Rattle.std.proofs.Common.{subst}
use Rattle.typecheck.specs.Typing.{Class}
use Rattle.bounds.specs.Rows.{bounds_in}
use Rattle.verdict.specs.Sound.{IsSafe}
use Rattle.verify.proofs.verified.Verified.bounds.Goals as goal

pub returns-clause-safe : goal.returns-clause-safe
returns-clause-safe c =
    let h = c.self.invariant in
    let k : Class = c.self.inside.class.0 in
    let b = bounds_in c.self.inside.bounds in
    let found = c.accepted_has_bounds.ensures.bounds h.bytes k h.accepted h.class in
    let safe = c.type_soundness.ensures.bytes h.bytes k found.0 b h.accepted h.class found.2 (h.bounds found.0 found.2) in
    subst (λ (k : Class). IsSafe k b) c.self.view_is safe
