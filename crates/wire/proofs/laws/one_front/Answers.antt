use Rattle.wire.proofs.Once as lemma
use Rattle.wire.proofs.laws.one_front.Goals as goal

pub returns : goal.returns
returns c = record { once = lemma.one_front }
