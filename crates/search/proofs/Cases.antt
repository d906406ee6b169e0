-- The cases of a switch, one by one.
use Rattle.std.proofs.Common.{◌≡◌, ℕ, ℤ, ◌+◌, Bool, ◌||◌, List, drop, Some, ap, sym, ◌∙◌}
use Rattle.std.specs.Prelude.{slice_get}
use Rattle.unrolled.specs.Rules.{is_back, any_back}
use Rattle.search.proofs.Sizes.{drop_found}

-- whether one from an index on leads back, by the one there and those behind it
pub back_step : (place : ℕ) (zs : List ℤ) (i : ℕ) (z : ℤ) (back : Bool) → slice_get zs i ≡ Some z → back ≡ is_back place z → any_back place (drop i zs) ≡ (back || any_back place (drop (i + 1) zs))
back_step place zs i z back e is = ap (any_back place) (drop_found zs i z e) ∙ ap (λ (b : Bool). b || any_back place (drop (i + 1) zs)) (sym is)
