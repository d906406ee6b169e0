use Rattle.std.proofs.Common.{arith}
use Rattle.loop_bounds.proofs.Lists.{none_has}
use Rattle.loop_bounds.proofs.methods.find.Goals as goal

pub returns-clause-within : goal.returns-clause-within
returns-clause-within c = none_has c.args.methods.now c.args.number c.loop-i.i (omega arith) c.loop-i.invariant
