use Rattle.std.proofs.Common.{length, ◌-◌}
use Rattle.constpool.specs.Descriptor.{read_params}
use Rattle.constpool.specs.Parsing.{parsed}
use Rattle.constpool.proofs.Params.{Reads}
use Rattle.constpool.proofs.parsing.read_params.Given as goal

abbrev pub invariant-loop-rest : goal.invariant-loop-rest
invariant-loop-rest l = Reads l.params.items (length l.bytes - length l.params.items) l.rest (parsed (read_params (length l.bytes) l.bytes))

abbrev pub decreases-loop-rest : goal.decreases-loop-rest
decreases-loop-rest l = length l.rest
