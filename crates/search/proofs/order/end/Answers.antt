use Rattle.std.proofs.Common.{reverse, ◌∷◌, List, ℕ, subst, sym}
use Rattle.search.specs.Orders.{items_of}
use Rattle.search.specs.Passes.{IsPass}
use Rattle.search.specs.declared.order.State.TheVariants.{Done}
use Rattle.std.specs.Prelude.{slice_set}
use Rattle.search.proofs.Steps.{ended, ended_less}
use Rattle.search.proofs.order.end.Goals as goal

pub returns-clause-pass : goal.returns-clause-pass
returns-clause-pass c =
    subst (λ (done : List ℕ). IsPass (items_of c.args.links.now) (slice_set c.args.states.now c.args.top.number Done) (reverse c.args.path.now) done) (sym c.in_ok-append.ensures)
    (ended _ _ c.args.top _ _ c.requires.pass c.requires.left)

pub returns-clause-work : goal.returns-clause-work
returns-clause-work c = ended_less _ _ c.args.top _
