use Rattle.spec_examples.proofs.laws.two_instructions.Goals as goal
use Rattle.spec_examples.proofs.Small.{gives_entry}

pub returns : goal.returns
returns c = gives_entry
