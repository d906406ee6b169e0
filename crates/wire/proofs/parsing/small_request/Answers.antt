use Rattle.wire.specs.Requests.{with_args}
use Rattle.wire.proofs.Numbers.{bytes_from}
use Rattle.wire.proofs.Parsed.{small_ok, small_fails}
use Rattle.wire.proofs.parsing.small_request.Goals as goal

pub returns-in-Ok : goal.returns-in-Ok
returns-in-Ok c = small_ok c.args.kind c.args.body.now (with_args c.all_small.new.args.items c.in-Ok.request) (bytes_from c.args.body.now (λ k. (c.type_inv.body k).fits)) c.in-Ok.ensures

pub returns-in-Err : goal.returns-in-Err
returns-in-Err c = small_fails c.args.kind c.args.body.now c.in-Err.e c.fault_of.result c.requires.other.0 c.requires.other.1 c.fault_of.ensures c.in-Err.ensures
