use Rattle.std.proofs.Common.{rules, ◌∙◌, ◌∷◌, ap, subst, ◌<◌, ℕ}
use Rattle.std.proofs.lemmas.Bool.{eqb-true}
use Rattle.cache.specs.Plays.{Sat, IsFree, with_held}
use Rattle.cache.proofs.Moves.{may_take_as}
use Rattle.cache.proofs.steps.try_take.Goals as goal

pub swap-requires : goal.swap-requires
swap-requires g c =
    let idle = c.requires.idle in
    let board = c.requires.board in (
      c.requires.table,
      search rules,
      may_take_as g.L.Loader.ASKS (g.L.Loader.gives c.args.board.now.key.loader.value) c.args.board.now.key c.args.board.now.table_id.slots c.args.pass.now.id c.args.index idle.made idle.part (λ _. c.args.mark) c.args.mark 0 (λ _. c.requires.some) c.args.pass.now.me idle.is board.slots board.count board.journal (subst (λ (n : ℕ). c.args.index < n) board.words c.requires.index),
    )

pub returns-clause-taken : goal.returns-clause-taken
returns-clause-taken g c = λ free made p is.
    let t = c.swap.ensures.2.0 (eqb-true c.swap.result 0 free) in
    record {
      stripe = t.0;
      is = t.1 ∙ ap (λ (m : Sat). (with_held m.0 c.args.index t.0, (c.args.index, t.0) ∷ m.1)) is;
      free = subst (λ (m : Sat). IsFree c.args.board.now.table_id.slots c.args.index m.0.parts t.0) is t.2;
    }
