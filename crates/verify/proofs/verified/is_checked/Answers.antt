use Rattle.std.proofs.Common.{subst}
use Rattle.typecheck.specs.Typing.{Class}
use Rattle.verdict.specs.Checked.{IsChecked}
use Rattle.verify.proofs.verified.is_checked.Goals as goal

pub returns : goal.returns
returns c =
    let h = c.class.invariant in
    let k : Class = c.class.inside.class.0 in
    let ranks = c.accepted_is_ordered.ensures h.bytes k h.accepted h.class in
    subst IsChecked c.class.view_is (c.accepted_is_checked.ensures h.bytes k ranks.0 h.accepted h.class ranks.1)
