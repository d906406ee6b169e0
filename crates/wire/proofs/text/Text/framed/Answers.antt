use Rattle.std.proofs.Common.{List, ℕ, ◌++◌, take, ap, ◌∙◌}
use Rattle.byteorder.specs.Endian.{big_bytes}
use Rattle.wire.proofs.Lists.{headed}
use Rattle.wire.proofs.text.Text.framed.Goals as goal

pub returns : goal.returns
returns c =
    let head : List ℕ = big_bytes 4 c.len-length.result in
    let row : List ℕ = c.self.inside.bytes in
    ap (λ l. take c.self.inside.end l) c.write_u32.ensures ∙ headed head row c.self.inside.end c.self.invariant.0 ∙ ap (λ l. head ++ l) c.self.view_is ∙ ap (λ n. big_bytes 4 n ++ c.args.self) c.len-length.ensures.len
