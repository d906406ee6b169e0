-- Runs of a class with a cover, without any typing: they stay within bounds that no path over nodes exceeds.
use Rattle.std.specs.Prelude.{◌≡◌, ℕ, ◌<◌, ◌≤◌, Bool, true, List, ◌∷◌, length, Some, slice_get, pos}
use Rattle.jtypes.specs.declared.types.JType.TheVariants.{Top}
use Rattle.jtypes.specs.declared.types.Value.{Value}
use Rattle.jtypes.specs.declared.types.Value.TheVariants.{Int}
use Rattle.jtypes.specs.declared.operations.ArrayKind.{ArrayKind}
use Rattle.jtypes.specs.declared.operations.Invoke.{Invoke}
use Rattle.decode.specs.declared.instruction.Instruction.TheVariants.{NewArray}
use Rattle.decode.specs.declared.instruction.Placed.{Placed}
use Rattle.decode.specs.Places.{pushed_before}
use Rattle.frames.specs.declared.members.Callee.{Callee}
use Rattle.frames.specs.Members.{callee_at}
use Rattle.frames.specs.declared.members.Reached.TheVariants.{Own}
use Rattle.typecheck.specs.Typing.{Method, Class, IsProcessOf}
use Rattle.bounds.specs.Paths.{Cost, Bounds, IsWithin, StandsAt}
use Rattle.verdict.specs.Machine.{Invocation, State, Activation, Goes, step, start, Reaches}
use Rattle.verdict.specs.Sound.{StaysWithin}
use Rattle.unrolled.specs.Graph.{Node}
use Rattle.unrolled.specs.Rules.{Rules}
use Rattle.unrolled.specs.Paths.{Path, start_node}
use Rattle.unrolled.specs.Cover.{IsCover}

-- `HasPlainCalls` holds if no call has a result `Top`, and own methods have the result of their calls.
pub record HasPlainCalls (c : Class) : Type 0 where
  pub plain : (kind : Invoke) (i : ℕ) (callee : Callee) → callee_at c.view kind i ≡ Some callee → callee.result ≡ Some Top → ⊥
  pub own : (kind : Invoke) (i k : ℕ) (callee : Callee) (m : Method) → callee_at c.view kind i ≡ Some callee → callee.reached ≡ Own k → slice_get c.methods k ≡ Some m
      → m.environment.signature.result ≡ callee.result

-- `IsCountedAt` holds if in this state the length of a new array is the constant before its instruction.
pub record IsCountedAt (c : Class) (s : State) : Type 0 where
  pub counted : (a : Activation) (below : List Activation) (m : Method) (p : Placed) (k : ArrayKind) → s.activations ≡ a ∷ below → StandsAt c a.method a.place m p → p.instruction ≡ NewArray k
      → (n : ℕ) × ((rest : List Value) × (a.operands ≡ Int (pos n) ∷ rest)) × (pushed_before m.code a.place ≡ Some (pos n))

-- Each state of a run is within the bounds, and has a step left; so is the next state where the loader isn't asked.
abbrev pub RunsStayWithin : Type 0
RunsStayWithin =
    (c : Class) (rules : Rules) (inside : ℕ → Node → Bool) (rank : ℕ → Node → ℕ) (j : ℕ) (m : Method) (b : Bounds) (call : Invocation) (s t : State)
    → IsCover c rules inside rank → HasPlainCalls c → IsProcessOf c j → slice_get c.methods j ≡ Some m → inside j (start_node rules j m) ≡ true
    → ((k : Cost) → Path c rules j (start_node rules j m) k → IsWithin k b)
    → length call.args ≤ 8 → start c call ≡ Some s → ((u : State) → Reaches c s u → IsCountedAt c u) → Reaches c s t
    → StaysWithin c t b × (t.steps < b.steps) × ((u : State) → step c t ≡ Some (Goes u) → StaysWithin c u b)
