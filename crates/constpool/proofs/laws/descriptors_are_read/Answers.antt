use Rattle.constpool.proofs.Grammar.{sig_again, sig_found}
use Rattle.constpool.proofs.laws.descriptors_are_read.Goals as goal

pub returns : goal.returns
returns c = (sig_again, sig_found)
