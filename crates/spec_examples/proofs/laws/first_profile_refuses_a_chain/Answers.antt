use Rattle.spec_examples.proofs.laws.first_profile_refuses_a_chain.Goals as goal
use Rattle.spec_examples.proofs.Chain.{has_bounds}
use Rattle.spec_examples.proofs.ChainFile.{is_chain}
use Rattle.spec_examples.proofs.ChainVerdict.{refuses_chain, accepts_chain}

pub returns-clause-class : goal.returns-clause-class
returns-clause-class c = is_chain

pub returns-clause-bounds : goal.returns-clause-bounds
returns-clause-bounds c = has_bounds

pub returns-clause-first : goal.returns-clause-first
returns-clause-first c = refuses_chain

pub returns-clause-second : goal.returns-clause-second
returns-clause-second c = accepts_chain
