-- Explanations of the verdict on a class file.
use Rattle.std.specs.Prelude.{ℕ, List}
use Rattle.jtypes.specs.declared.refusal.Refusal.TheVariants.{Recursive}
use Rattle.jtypes.specs.Profile.{Third}
use Rattle.typecheck.specs.Typing.{Class, IsProcessOf}
use Rattle.bounds.specs.Paths.{AreBounds}
use Rattle.bounds.specs.Rows.{bounds_in}
use Rattle.verdict.specs.Verdict.{IsAccepted, IsClassOf, IsRefused}
use Rattle.verdict.specs.Spots.{IsAtSpot}
use Rattle.explain.specs.declared.costs.MethodCost.{MethodCost}
use Rattle.explain.specs.declared.explained.Explained.{Explained}
use Rattle.explain.specs.declared.explained.Explained.TheVariants as told
use Rattle.explain.specs.Costs.{AreCostsOf}
use Rattle.explain.specs.Circles.{IsCircle}

-- `AreCostsIn` holds if these are the costs of the methods of the class in these bytes.
abbrev pub AreCostsIn : List ℕ → List MethodCost → Type 0
AreCostsIn bytes costs = (c : Class) → IsClassOf Third bytes c → AreCostsOf c costs

-- `IsExplanation` holds if the explanation is correct for the bytes.
abbrev pub IsExplanation : List ℕ → Explained → Type 0
IsExplanation bytes (told.Accepted bounds methods) =
    IsAccepted Third bytes × ((c : Class) (j : ℕ) → IsClassOf Third bytes c → IsProcessOf c j → AreBounds c j (bounds_in bounds)) × AreCostsIn bytes methods.items
IsExplanation bytes (told.Refused l) = IsRefused Third bytes l.refusal × IsAtSpot Third bytes l.refusal l.spot
IsExplanation bytes (told.Recursive calls) = IsRefused Third bytes Recursive × ((c : Class) → IsClassOf Third bytes c → IsCircle c calls.items)
IsExplanation bytes (told.PastLimit refusal methods) = IsRefused Third bytes refusal × AreCostsIn bytes methods.items
