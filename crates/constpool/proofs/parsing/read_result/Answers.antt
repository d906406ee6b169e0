use Rattle.std.proofs.Common.{ap, sym}
use Rattle.constpool.specs.Parsing.{parsed}
use Rattle.constpool.proofs.Params.{void_trails, not_empty}
use Rattle.constpool.proofs.parsing.read_result.Goals as goal

pub returns-else-is_empty : goal.returns-else-is_empty
returns-else-is_empty c =
    ap parsed (void_trails c.args.bytes.now c.in-Some.rest.now (sym c.in-Some.ensures) (not_empty c.in-Some.rest.now c.is_empty.result c.is_empty.ensures c.if-is_empty.false))
