use Rattle.std.proofs.Common.{length}
use Rattle.search.proofs.stack_forms.+push_picked.Given as goal

abbrev pub decreases-push_picked : goal.decreases-push_picked
decreases-push_picked l = length l.picks.now
