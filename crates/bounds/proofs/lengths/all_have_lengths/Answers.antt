use Rattle.bounds.proofs.LengthsFound.{lacks_somewhere}
use Rattle.bounds.proofs.lengths.all_have_lengths.Goals as goal

pub returns-in-Some-clause-lack : goal.returns-in-Some-clause-lack
returns-in-Some-clause-lack c = λ f. lacks_somewhere c.args.methods.now _ _ c.in-Some.ensures.some
