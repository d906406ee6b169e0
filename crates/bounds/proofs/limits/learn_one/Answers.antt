use Rattle.std.proofs.Common.{◌≡◌, rules, true, false, refl, sym, ap, ◌∙◌}
use Rattle.std.specs.Prelude.{is_some}
use Rattle.bounds.specs.Rows.{are_known}
use Rattle.bounds.proofs.KnownCosts.{learns}
use Rattle.bounds.proofs.Circles.{fewer, none_is}
use Rattle.bounds.proofs.Grounded.{stays_grounded}
use Rattle.bounds.proofs.limits.learn_one.Goals.{then-is_some-via-then-is_some, then-is_some-via-else-is_some+then-not-is_ready}
use Rattle.bounds.proofs.limits.learn_one.Goals as goal

pub returns-then-is_some-clause-ok : goal.returns-then-is_some-clause-ok
returns-then-is_some-clause-ok c = (
  refl,
  elim c.then-is_some.branch [
    | then-is_some-via-then-is_some w ↦ λ none. let e : true ≡ false = sym w.if-is_some.true ∙ c.is_some.ensures ∙ ap is_some (c.known_at.ensures ∙ none) in cc
    | then-is_some-via-else-is_some+then-not-is_ready w ↦ λ none. cc
  ],
)

pub returns-clause-table : goal.returns-clause-table
returns-clause-table c =
    let ready : are_known c.args.known.now c.args.method.now.calls.items ≡ true = search rules in
    learns c.args.method.now c.args.known.now _ c.in_ok-cost.cost c.in_ok-cost.ensures ready c.requires refl

pub returns-clause-ok : goal.returns-clause-ok
returns-clause-ok c = fewer c.args.known.now c.args.method.now.number c.in_ok-cost.cost c.requires (sym c.known_at.ensures ∙ none_is c.known_at.result (sym c.is_some.ensures ∙ c.if-is_some.false))

pub returns-clause-grounded : goal.returns-clause-grounded
returns-clause-grounded c =
    let ready : are_known c.args.known.now c.args.method.now.calls.items ≡ true = search rules in
    stays_grounded c.args.method.now c.args.known.now _ c.in_ok-cost.cost ready refl
