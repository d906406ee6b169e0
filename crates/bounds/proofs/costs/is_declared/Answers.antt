use Rattle.std.proofs.Common.{List, ℕ, sym, subst, ap, ◌∙◌}
use Rattle.typecheck.specs.DeclaredPlaces.{ArePlacesRising}
use Rattle.bounds.specs.Lengths.{is_among}
use Rattle.bounds.proofs.LengthsFound.{search_says}
use Rattle.bounds.proofs.costs.is_declared.Goals as goal

pub returns : goal.returns
returns c = λ rise.
    let value = c.deref.ensures.value in
    c.is_ok.ensures.value ∙ search_says c.deref.result.now c.args.place c.binary_search.result c.binary_search.ensures.position (subst ArePlacesRising (sym value) rise) ∙ ap (λ (l : List ℕ). is_among l c.args.place) value
