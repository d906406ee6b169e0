use Rattle.wire.proofs.Numbers.{bytes_from}
use Rattle.wire.proofs.parsing.are_bytes.Goals as goal

pub returns : goal.returns
returns c = bytes_from c.args.bytes.now (λ k. (c.type_inv.bytes k).fits)
