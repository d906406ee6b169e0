use Rattle.std.proofs.Common.{arith, ◌≡◌, length, [], ◌∷◌, ◌++◌, All, sym, ap, subst, ◌∙◌}
use Rattle.std.proofs.lemmas.Grind.{common_steps}
use Rattle.std.proofs.lemmas.List.{replicate-append-replicate, length-replicate}
use Rattle.std.specs.Prelude.{replicate}
use Rattle.std.specs.FinMap as map
use Rattle.std.proofs.lemmas.List.Elements.{All-replicate}
use Rattle.stripe.specs.Stored.{Stored, HasValues}
use Rattle.stripe.specs.Tables.{IsCount}
use Rattle.stripe.proofs.Fresh.{no_values}
use Rattle.stripe.proofs.tables.empty_tables.Goals as goal

pub loop-init : goal.loop-init
loop-init c = (c.in_ok-tables.ensures.items, omega (arith, c.in_ok-tables.ensures.capacity))

pub push_reserved-requires : goal.push_reserved-requires
push_reserved-requires c =
    let i = c.loop.invariant in
    let n : length c.loop.tables.items ≡ c.loop.counter = ap length i.0 ∙ length-replicate c.loop.counter map.empty in
    let room = i.1 in
    grind (arith, common_steps)

pub loop-preserved : goal.loop-preserved
loop-preserved c =
    let i = c.loop.invariant in
    let empty : Stored = map.empty in
    (c.push_reserved.ensures.items ∙ (λ k. i.0 k ++ c.new.ensures k ∷ []) ∙ replicate-append-replicate c.loop.counter 1 empty, omega (arith, i.1, c.push_reserved.ensures.capacity))

pub returns-clause-ok : goal.returns-clause-ok
returns-clause-ok c = c.loop.invariant.0 ∙ ap (λ n. replicate n map.empty) (omega (arith, c.loop-test.false, c.loop.auto.counter-end))

pub returns-clause-are : goal.returns-clause-are
returns-clause-are c =
    let empty : Stored = map.empty in
    let n : length c.loop.tables.items ≡ c.args.stripes = ap length (returns-clause-ok c) ∙ length-replicate c.args.stripes empty in
    record {
      count = subst IsCount (sym n) c.requires;
      values = subst (All HasValues) (sym (returns-clause-ok c)) (All-replicate HasValues c.args.stripes empty no_values);
    }
