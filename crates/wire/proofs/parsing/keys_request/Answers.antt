use Rattle.std.proofs.Common.{arith}
use Rattle.wire.specs.Requests.{with_args}
use Rattle.wire.proofs.Numbers.{bytes_from}
use Rattle.wire.proofs.Parsed.{keys_ok, keys_fail}
use Rattle.wire.proofs.parsing.keys_request.Goals as goal

pub returns-in-Ok : goal.returns-in-Ok
returns-in-Ok c = keys_ok c.args.class c.args.count c.args.rest.now (with_args c.all_keys.new.args.items c.in-Ok.request) (omega (arith, c.ranges.class)) (omega (arith, c.ranges.count)) (bytes_from c.args.rest.now (λ k. (c.type_inv.rest k).fits)) c.in-Ok.ensures

pub returns-in-Err : goal.returns-in-Err
returns-in-Err c = keys_fail c.args.class c.args.count c.args.rest.now c.in-Err.e c.fault_of.result (omega (arith, c.ranges.class)) (omega (arith, c.ranges.count)) c.fault_of.ensures c.in-Err.ensures
