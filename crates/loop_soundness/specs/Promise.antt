-- The guarantees for accepted bytes whose branches may lead back.
use Rattle.std.specs.Prelude.{◌≡◌, ◌↔◌, ◌≤◌, ℕ, false, List, Some, slice_get}
use Rattle.jtypes.specs.Profile.{Third}
use Rattle.constpool.specs.Lookup.{Slot}
use Rattle.classfile.specs.declared.class_file.Parts.{Parts}
use Rattle.typecheck.specs.Typing.{Method, Class, IsProcessOf}
use Rattle.bounds.specs.Paths.{Bounds, step_limit, word_limit, slot_limit, depth_limit}
use Rattle.bounds.specs.Paths as places
use Rattle.bounds.specs.Recursion.{IsRecursive}
use Rattle.verdict.specs.Verdict.{IsClassFile, HasShape, HasTypes, IsClassOfFile, IsAccepted, IsClassOf}
use Rattle.unrolled.specs.Rules.{has_loops, rules_of}
use Rattle.unrolled.specs.Paths.{start_node, AreBounds}
use Rattle.unrolled.specs.Certificates.{Point}
use Rattle.unrolled.specs.Limits.{IsUnrolled}
use Rattle.loop_soundness.specs.Checked.{IsCheckedWithLoops}
use Rattle.loop_soundness.specs.Sound.{IsSafeWithArguments}
use Rattle.loop_soundness.specs.Accepted.{HasInstructionsWithLoops, IsAcceptedWithLoops}

-- What the third profile accepts stays accepted.
abbrev pub AcceptedIsKept : Type 0
AcceptedIsKept = (bytes : List ℕ) → IsAccepted Third bytes → IsAcceptedWithLoops bytes

-- A class that the third profile accepts has over nodes the bounds that it has over pcs.
abbrev pub AcceptedKeepsBounds : Type 0
AcceptedKeepsBounds =
    (bytes : List ℕ) (c : Class) (j : ℕ) (m : Method) (b : Bounds) → IsAccepted Third bytes → IsClassOf Third bytes c → slice_get c.methods j ≡ Some m
    → AreBounds c (rules_of c) j (start_node (rules_of c) j m) b ↔ places.AreBounds c j b

-- `AreWithinLimits` holds if the bounds are within the limits of an invocation.
pub record AreWithinLimits (b : Bounds) : Type 0 where
  pub steps : b.steps ≤ step_limit Third
  pub words : b.words ≤ word_limit
  pub slots : b.slots ≤ slot_limit
  pub depth : b.depth ≤ depth_limit

-- `HasBoundsWithin` holds if the class has `process`, and its bounds over nodes are within the limits of an invocation.
pub record HasBoundsWithin (c : Class) : Type 0 where
  pub number : ℕ
  pub method : Method
  pub bounds : Bounds
  pub process : IsProcessOf c number
  pub known : slice_get c.methods number ≡ Some method
  pub are : AreBounds c (rules_of c) number (start_node (rules_of c) number method) bounds
  pub within : AreWithinLimits bounds

abbrev pub AcceptedHasBounds : Type 0
AcceptedHasBounds = (bytes : List ℕ) (c : Class) → IsAcceptedWithLoops bytes → IsClassOf Third bytes c → HasBoundsWithin c

-- `IsReadyForNodes` holds if the bytes are the class file of `c`, and no refusal applies before those of the nodes.
pub record IsReadyForNodes (bytes : List ℕ) (c : Class) : Type 0 where
  pub pool : List Slot
  pub parts : Parts
  pub file : IsClassFile bytes pool parts
  pub shape : HasShape pool parts
  pub instructions : HasInstructionsWithLoops pool parts
  pub types : HasTypes Third pool parts
  pub class : IsClassOfFile Third pool parts c
  pub not_recursive : IsRecursive c → ⊥

-- Such a class is accepted if its nodes have a list within the limits, and its bounds are within the limits.
abbrev pub ListedIsAccepted : Type 0
ListedIsAccepted =
    (bytes : List ℕ) (c : Class) (j : ℕ) (m : Method) (ks : List Point) (b : Bounds) → IsReadyForNodes bytes c → IsProcessOf c j → slice_get c.methods j ≡ Some m
    → IsUnrolled c j m ks → AreBounds c (rules_of c) j (start_node (rules_of c) j m) b → AreWithinLimits b → IsAcceptedWithLoops bytes

-- An accepted class is checked but for the direction of branches.
abbrev pub AcceptedIsChecked : Type 0
AcceptedIsChecked = (bytes : List ℕ) (c : Class) → IsAcceptedWithLoops bytes → IsClassOf Third bytes c → IsCheckedWithLoops c

-- Type soundness with bounds: each accepted class is safe within its bounds over nodes.
abbrev pub AcceptedIsSafe : Type 0
AcceptedIsSafe =
    (bytes : List ℕ) (c : Class) (j : ℕ) (m : Method) (b : Bounds) → IsAcceptedWithLoops bytes → IsClassOf Third bytes c → IsProcessOf c j → slice_get c.methods j ≡ Some m
    → AreBounds c (rules_of c) j (start_node (rules_of c) j m) b → IsSafeWithArguments c b

-- A class in which no branch leads back is accepted only if the third profile accepts it.
abbrev pub ForwardIsAccepted : Type 0
ForwardIsAccepted = (bytes : List ℕ) (c : Class) → IsAcceptedWithLoops bytes → IsClassOf Third bytes c → has_loops c.methods ≡ false → IsAccepted Third bytes
