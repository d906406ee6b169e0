-- Type soundness with bounds of classes with loops.
use Rattle.std.specs.Prelude.{◌≡◌, ℕ, ◌≤◌, Bool, true, List, length, Some, IsSome, slice_get}
use Rattle.jtypes.specs.declared.loader.LoadAnswer.{LoadAnswer}
use Rattle.typecheck.specs.Typing.{Method, Class, IsProcessOf, instruction_at}
use Rattle.bounds.specs.Paths.{Bounds, Cost, IsWithin}
use Rattle.bounds.specs.Paths as places
use Rattle.bounds.specs.Table.{LeadsOn}
use Rattle.verdict.specs.Machine.{Invocation, State, Next, step_with, start, Reaches}
use Rattle.verdict.specs.Sound.{StaysWithin, GoesAlone, Finishes}
use Rattle.unrolled.specs.Graph.{Node}
use Rattle.unrolled.specs.Rules.{Rules, rules_of}
use Rattle.unrolled.specs.Paths.{Path, start_node, AreBounds}
use Rattle.unrolled.specs.Cover.{IsCover}
use Rattle.unrolled.specs.Certificates.{Point}
use Rattle.unrolled.specs.Limits.{IsUnrolled}
use Rattle.loop_soundness.specs.Checked.{IsCheckedWithLoops}

-- `IsSafe` of invocations with at most eight arguments, as all have that the machine runs
pub record IsSafeWithArguments (c : Class) (b : Bounds) : Type 0 where
  pub never_stuck : (call : Invocation) (s t : State) → length call.args ≤ 8 → start c call ≡ Some s → Reaches c s t → (a : LoadAnswer) → (n : Next) × (step_with c a t ≡ Some n)
  pub alone : (call : Invocation) (s t : State) → length call.args ≤ 8 → start c call ≡ Some s → Reaches c s t → GoesAlone c t b
  pub stays : (call : Invocation) (s t : State) → length call.args ≤ 8 → start c call ≡ Some s → Reaches c s t → StaysWithin c t b
  pub finishes : (call : Invocation) (a : LoadAnswer) (s : State) → length call.args ≤ 8 → start c call ≡ Some s → Finishes c a s b

-- A class with a cover is safe within bounds that no path over nodes exceeds.
abbrev pub SoundnessWithLoops : Type 0
SoundnessWithLoops =
    (c : Class) (rules : Rules) (inside : ℕ → Node → Bool) (rank : ℕ → Node → ℕ) (j : ℕ) (m : Method) (b : Bounds)
    → IsCheckedWithLoops c → IsCover c rules inside rank → IsProcessOf c j → slice_get c.methods j ≡ Some m → inside j (start_node rules j m) ≡ true
    → ((k : Cost) → Path c rules j (start_node rules j m) k → IsWithin k b) → IsSafeWithArguments c b

-- A class whose nodes are listed is safe within its bounds.
abbrev pub SoundnessOfUnrolled : Type 0
SoundnessOfUnrolled =
    (c : Class) (j : ℕ) (m : Method) (ks : List Point) (b : Bounds) → IsCheckedWithLoops c → IsUnrolled c j m ks → IsProcessOf c j → slice_get c.methods j ≡ Some m
    → AreBounds c (rules_of c) j (start_node (rules_of c) j m) b → IsSafeWithArguments c b

-- Where branches lead forward, it is safe within bounds that no path over pcs exceeds.
abbrev pub SoundnessForward : Type 0
SoundnessForward =
    (c : Class) (set : ℕ → Bool) (j : ℕ) (m : Method) (b : Bounds)
    → IsCheckedWithLoops c → LeadsOn c set → set j ≡ true → IsProcessOf c j → slice_get c.methods j ≡ Some m → IsSome (instruction_at m 0)
    → ((k : Cost) → places.Path c j 0 k → IsWithin k b) → IsSafeWithArguments c b
