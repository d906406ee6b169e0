use Rattle.std.proofs.Common.{refl, subst, ◌∙◌, arith}
use Rattle.std.proofs.lemmas.List.{get_or_default}
use Rattle.std.proofs.lemmas.List.Elements.{AllWithin-more}
use Rattle.typecheck.specs.DeclaredPlaces.{ArePlacesRising}
use Rattle.typecheck.specs.declared.typed.Typed.{Typed}
use Rattle.bounds.specs.Lengths.{HasLengths}
use Rattle.bounds.proofs.lengths.lacking_length.Goals as goal

pub returns-in-Some-clause-some : goal.returns-in-Some-clause-some
returns-in-Some-clause-some c =
    (c.loop-method.method-index, c.method-item.result, c.loop-method-test.true, c.method-item.is, refl, c.in-Some.ensures.some)

pub loop-method-preserved : goal.loop-method-preserved
loop-method-preserved c =
    let rows = c.args.methods.now in
    let i = c.loop-method.method-index in
    AllWithin-more (λ (row : Typed). ArePlacesRising row.declared.items → HasLengths row) rows 0 i c.loop-method.invariant
    (λ d. subst (λ (row : Typed). ArePlacesRising row.declared.items → HasLengths row) (c.method-item.is ∙ get_or_default rows i c.method-item.result d c.loop-method-test.true) c.in_default.ensures.none)

pub returns-clause-none : goal.returns-clause-none
returns-clause-none c = λ i d l. c.loop-method.invariant i d (omega arith) (omega (arith, l, c.loop-method-test.false))
