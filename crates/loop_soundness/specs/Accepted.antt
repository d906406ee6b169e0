-- The verdict on classes whose branches may lead back: the refusals that apply to the bytes. The nodes of `process` take the place of its pcs.
use Rattle.std.specs.Prelude.{◌≡◌, ◌≢◌, ℕ, ◌<◌, true, List, Some, slice_get, ◌⊎◌}
use Rattle.jtypes.specs.Profile.{Third}
use Rattle.jtypes.specs.declared.refusal.Refusal.{Refusal}
use Rattle.jtypes.specs.declared.refusal.Refusal.TheVariants.{BackwardBranch, Recursive, StepLimit, WordLimit, FrameLimit}
use Rattle.constpool.specs.Lookup.{Slot}
use Rattle.classfile.specs.declared.class_file.Parts.{Parts}
use Rattle.typecheck.specs.Typing.{Method, Class, IsProcessOf}
use Rattle.bounds.specs.Paths.{Cost, step_limit, word_limit, slot_limit, depth_limit}
use Rattle.bounds.specs.Recursion.{IsRecursive}
use Rattle.verdict.specs.Verdict.{IsRefused, IsClassFile, HasShape, InstructionsStand, TypesStand, HasTypes, IsClassOfFile, IsClassOf}
use Rattle.unrolled.specs.Rules.{has_loops, rules_of}
use Rattle.unrolled.specs.Paths.{Path, start_node}
use Rattle.unrolled.specs.Certificates.{Point}
use Rattle.unrolled.specs.Circles.{IsCircle}
use Rattle.unrolled.specs.Limits.{start_point, IsUnrolled, IsTooLarge}

-- ---- the instructions

-- `HasInstructionsWithLoops` holds if no refusal of the instructions applies except that of branches that lead back.
pub record HasInstructionsWithLoops (pool : List Slot) (p : Parts) : Type 0 where
  pub none_else : (r : Refusal) → r ≢ BackwardBranch → InstructionsStand Third pool p r → ⊥

-- ---- recursion, nodes and bounds

-- `AreListed` holds if the nodes from the start of method `j` on, which is `m`, have a list within the limits. Only a class with loops needs it.
abbrev pub AreListed : Class → ℕ → Method → Type 0
AreListed c j m = has_loops c.methods ≡ true → (ks : List Point) × IsUnrolled c j m ks

-- `SomePathExceeds c j m measure limit` holds if some path over nodes from the start of method `j` exceeds the limit.
abbrev pub SomePathExceeds : Class → ℕ → Method → (Cost → ℕ) → ℕ → Type 0
SomePathExceeds c j m measure limit = (k : Cost) × Path c (rules_of c) j (start_node (rules_of c) j m) k × (limit < measure k)

-- The refusals of the nodes of method `j`. The limits of bounds apply only to listed nodes: a circle with a way out has paths of any cost.
abbrev pub NodesStand : Class → ℕ → Method → Refusal → Type 0
NodesStand c j m BackwardBranch = IsCircle c (rules_of c) (start_point c j m) ⊎ IsTooLarge c j m
NodesStand c j m StepLimit = AreListed c j m × SomePathExceeds c j m (λ k. k.steps) (step_limit Third)
NodesStand c j m WordLimit = AreListed c j m × SomePathExceeds c j m (λ k. k.words) word_limit
NodesStand c j m FrameLimit = AreListed c j m × (SomePathExceeds c j m (λ k. k.slots) slot_limit ⊎ SomePathExceeds c j m (λ k. k.depth) depth_limit)
NodesStand c j m _ = ⊥

abbrev pub ClassStandsWithLoops : Class → Refusal → Type 0
ClassStandsWithLoops c Recursive = IsRecursive c
ClassStandsWithLoops c r =
    (IsRecursive c → ⊥) × ((j : ℕ) × (m : Method) × IsProcessOf c j × (slice_get c.methods j ≡ Some m) × NodesStand c j m r)

-- ---- the verdict

-- `IsRefusedWithLoops` holds if the refusal applies at its level, and no refusal of an earlier level applies.
-- A refusal of the third profile stays one, except that of a branch that leads back.
pub data IsRefusedWithLoops (bytes : List ℕ) (r : Refusal) : Type 0 where
  as_before : IsRefused Third bytes r → r ≢ BackwardBranch → IsRefusedWithLoops bytes r
  by_types : (pool : List Slot) (p : Parts) → IsClassFile bytes pool p → HasShape pool p → HasInstructionsWithLoops pool p → TypesStand Third pool p r → IsRefusedWithLoops bytes r
  by_class : (pool : List Slot) (p : Parts) (c : Class) → IsClassFile bytes pool p → HasShape pool p → HasInstructionsWithLoops pool p → HasTypes Third pool p
      → IsClassOfFile Third pool p c → ClassStandsWithLoops c r → IsRefusedWithLoops bytes r

-- `IsAcceptedWithLoops` holds if no refusal applies to the bytes, and the nodes of `process` have a list if the class has loops.
pub record IsAcceptedWithLoops (bytes : List ℕ) : Type 0 where
  pub none_stands : (r : Refusal) → IsRefusedWithLoops bytes r → ⊥
  pub listed : (c : Class) (j : ℕ) (m : Method) → IsClassOf Third bytes c → IsProcessOf c j → slice_get c.methods j ≡ Some m → AreListed c j m
