use Rattle.std.proofs.Common.{rules, ◌∙◌, ◌∷◌, ap, subst, ◌<◌, ◌==◌, ◌≡◌, ℕ, Bool, true, false, refl, arith}
use Rattle.std.proofs.lemmas.Bool.Decides.{nat_tests}
use prog.Atomic.{either}
use Rattle.std.proofs.lemmas.Bool.{eqb-true}
use Rattle.cache.specs.Plays.{Sat, IsFree, with_held}
use Rattle.cache.proofs.Moves.{may_take_as}
use Rattle.cache.proofs.steps.take_free.Goals as goal

-- The word is nonzero afterwards: 0 becomes 1, and a nonzero word is unchanged.
stays_taken : (n : ℕ) → 0 < either (n == 0) 1 n
stays_taken n = go (n == 0) refl
  where
    go : (b : Bool) → (n == 0) ≡ b → 0 < either b 1 n
    go true e = omega arith
    go false e = grind (arith, nat_tests)

pub compare_exchange-requires : goal.compare_exchange-requires
compare_exchange-requires g c =
    let idle = c.requires.idle in
    let board = c.requires.board in (
      c.requires.table,
      search rules,
      may_take_as g.L.Loader.ASKS (g.L.Loader.gives c.args.board.now.key.loader.value) c.args.board.now.key c.args.board.now.table_id.slots c.args.pass.now.id c.args.index idle.made idle.part (λ n. either (n == 0) 1 n) 0 1 stays_taken c.args.pass.now.me idle.is board.slots board.count board.journal (subst (λ (n : ℕ). c.args.index < n) board.words c.requires.index),
    )

pub returns-clause-taken : goal.returns-clause-taken
returns-clause-taken g c = λ free made p is.
    let t = c.compare_exchange.ensures.2.0 (eqb-true c.compare_exchange.result 0 free) in
    record {
      stripe = t.0;
      is = t.1 ∙ ap (λ (m : Sat). (with_held m.0 c.args.index t.0, (c.args.index, t.0) ∷ m.1)) is;
      free = subst (λ (m : Sat). IsFree c.args.board.now.table_id.slots c.args.index m.0.parts t.0) is t.2;
    }
