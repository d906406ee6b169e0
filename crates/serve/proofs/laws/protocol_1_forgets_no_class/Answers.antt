use Rattle.serve.proofs.First.{rounds_keep}
use Rattle.serve.proofs.laws.protocol_1_forgets_no_class.Goals as goal

pub returns : goal.returns
returns g c input output s v = rounds_keep v.answers v.each
