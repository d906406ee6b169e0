use Rattle.std.proofs.Common.{sym, subst, Option}
use Rattle.jtypes.specs.declared.loader.LoadAnswer.{LoadAnswer}
use Rattle.ended.specs.declared.done.Done.{Done}
use Rattle.stripe.specs.Seen.{call_of}
use Rattle.cache.specs.Steps.{EndsSo}
use Rattle.cache.proofs.Moves.{plain_ends}
use Rattle.cache.proofs.cache.Cache.plain.Goals as goal

pub locked-requires-clause-ends : goal.locked-requires-clause-ends
locked-requires-clause-ends g c = λ before ended h.
    subst (λ (e : Option Done × Option LoadAnswer). EndsSo g.L.Loader.ASKS (g.L.Loader.gives c.args.self.now.loader) before (call_of c.args.call) e) (sym h.1)
    (plain_ends g.L.Loader.ASKS (g.L.Loader.gives c.args.self.now.loader) before (call_of c.args.call) c.requires.plain)
