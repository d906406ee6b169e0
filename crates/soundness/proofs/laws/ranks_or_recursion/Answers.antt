use Rattle.bounds.proofs.Ranks.{not_recursive_has_ranks, ranked_is_not_recursive}
use Rattle.soundness.proofs.laws.ranks_or_recursion.Goals as goal

pub returns-clause-ranks : goal.returns-clause-ranks
returns-clause-ranks c = not_recursive_has_ranks

pub returns-clause-lasting : goal.returns-clause-lasting
returns-clause-lasting c = ranked_is_not_recursive
