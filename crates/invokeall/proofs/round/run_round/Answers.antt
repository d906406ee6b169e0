use Rattle.std.proofs.Common.{List, length, ap, subst, ◌∙◌}
use Rattle.stripe.specs.History.{Call}
use Rattle.cache.specs.Opened.{HaveRoom}
use Rattle.invokeall.specs.Jobs.{all_seen}
use Rattle.invokeall.specs.Rounds.{NeedMemory}
use Rattle.invokeall.proofs.round.run_round.Goals as goal

pub returns-clause-memory : goal.returns-clause-memory
returns-clause-memory g c =
    subst (λ (l : List Call). HaveRoom (length l) c.args.seats.now.items → NeedMemory g.L.Loader.ASKS l c.run_in.result.items) (ap all_seen c.deref.ensures.value ∙ c.in_ok-calls.ensures.calls) c.run_in.ensures.memory
