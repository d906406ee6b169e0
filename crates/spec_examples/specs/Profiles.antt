-- Classes that the first profile accepts, and classes that it refuses.
use Rattle.std.specs.Prelude.{ℕ, ◌<◌}
use Rattle.jtypes.specs.Profile.{First}
use Rattle.jtypes.specs.declared.refusal.Refusal.TheVariants.{OutsideProfile, StepLimit}
use Rattle.typecheck.specs.Typing.{Class, IsProcessOf}
use Rattle.bounds.specs.Recursion.{IsRecursive}
use Rattle.bounds.specs.Paths.{Bounds, AreBounds, step_limit}
use Rattle.verdict.specs.Verdict.{ClassStands, IsAccepted, IsClassOf, IsRefused}
use Rattle.soundness.specs.Accepted.{small_bytes, small_class}
use Rattle.spec_examples.specs.SmallSwitch.{switch_bytes}

-- The first profile accepts the small class, so statements on the classes that it accepts are not vacuous.
abbrev pub AcceptsSmall : Type 0
AcceptsSmall = IsAccepted First small_bytes × IsClassOf First small_bytes small_class

-- The first profile refuses a `tableswitch`, which the second profile adds.
abbrev pub RefusesSwitch : Type 0
RefusesSwitch = IsRefused First switch_bytes (OutsideProfile 0xAA)

-- The first profile refuses each class without recursion whose step bound exceeds the profile's limit.
abbrev pub RefusesMoreSteps : Type 0
RefusesMoreSteps = (c : Class) (j : ℕ) (b : Bounds) → (IsRecursive c → ⊥) → IsProcessOf c j → AreBounds c j b → step_limit First < b.steps → ClassStands First c StepLimit
