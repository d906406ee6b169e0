use Rattle.std.proofs.Common.{length, ap, ◌∙◌, arith}
use Rattle.wire.proofs.Lists.{between, length_between}
use Rattle.wire.proofs.text.Text.as_slice.Goals as goal

pub returns-clause-bytes : goal.returns-clause-bytes
returns-clause-bytes c = between 4 c.self.inside.end c.self.inside.bytes c.self.invariant.0 ∙ c.self.view_is

pub returns-clause-small : goal.returns-clause-small
returns-clause-small c =
    let long = length_between 4 c.self.inside.end c.self.inside.bytes c.self.invariant.0 (omega (arith, c.self.invariant.1, c.self.told)) in
    omega (arith, c.self.invariant.1, long, ap length c.self.view_is)
