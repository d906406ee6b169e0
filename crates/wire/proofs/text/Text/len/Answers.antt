use Rattle.std.proofs.Common.{length, sym, ap, ◌∙◌, arith}
use Rattle.wire.proofs.Lists.{length_between}
use Rattle.wire.proofs.text.Text.len.Goals as goal

pub returns-clause-len : goal.returns-clause-len
returns-clause-len c =
    let long = length_between 4 c.self.inside.end c.self.inside.bytes c.self.invariant.0 (omega (arith, c.self.invariant.1, c.self.told)) in
    sym long ∙ ap length c.self.view_is
