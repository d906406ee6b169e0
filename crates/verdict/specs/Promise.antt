-- The guarantees for accepted bytes.
use Rattle.std.specs.Prelude.{ℕ, List}
use Rattle.typecheck.specs.Typing.{Class, IsProcessOf}
use Rattle.bounds.specs.Recursion.{IsOrdered}
use Rattle.bounds.specs.Paths.{Bounds, AreBounds}
use Rattle.verdict.specs.Verdict.{IsAccepted, IsClassOf}
use Rattle.verdict.specs.Checked.{IsChecked}
use Rattle.verdict.specs.Sound.{IsSafe}
use Rattle.jtypes.specs.Profile.{Third}

-- Each accepted class is safe within its bounds.
abbrev pub TypeSoundness : Type 0
TypeSoundness = (bytes : List ℕ) (c : Class) (j : ℕ) (b : Bounds) → IsAccepted Third bytes → IsClassOf Third bytes c → IsProcessOf c j → AreBounds c j b → IsSafe c b

-- The two steps from accepted to checked: an accepted class with ranks is checked, and an accepted class has ranks.
abbrev pub AcceptedIsChecked : Type 0
AcceptedIsChecked = (bytes : List ℕ) (c : Class) (rank : ℕ → ℕ) → IsAccepted Third bytes → IsClassOf Third bytes c → IsOrdered c rank → IsChecked c

abbrev pub AcceptedIsOrdered : Type 0
AcceptedIsOrdered = (bytes : List ℕ) (c : Class) → IsAccepted Third bytes → IsClassOf Third bytes c → (rank : ℕ → ℕ) × IsOrdered c rank
