-- The statement of the main theorem: type soundness with bounds for a class, independent of its bytes.
use Rattle.std.specs.Prelude.{◌≡◌, ℕ, ◌+◌, ◌≤◌, List, [], ◌∷◌, length, Option, Some, None, slice_get}
use Rattle.typecheck.specs.Typing.{Method, Class, IsProcessOf}
use Rattle.bounds.specs.Paths.{Bounds, Cost, Path, IsWithin, own_slots}
use Rattle.jtypes.specs.declared.loader.LoadAnswer.{LoadAnswer}
use Rattle.verdict.specs.Checked.{IsChecked}
use Rattle.verdict.specs.Machine.{Invocation, Activation, State, Final, Next, Goes, Ends, step, step_with, start, Reaches, ReachesBy}

abbrev pub slots_of_method : Option Method → ℕ
slots_of_method None = 0
slots_of_method (Some m) = own_slots m

-- The sum of the slots of the activations.
abbrev pub slots_of : Class → List Activation → ℕ
slots_of c [] = 0
slots_of c (a ∷ below) = slots_of_method (slice_get c.methods a.method) + slots_of c below

pub record StaysWithin (c : Class) (s : State) (b : Bounds) : Type 0 where
  pub steps : s.steps ≤ b.steps
  pub words : s.words ≤ b.words
  pub slots : slots_of c s.activations ≤ b.slots
  pub depth : length s.activations ≤ b.depth

-- `Finishes` holds if a final state is reached within these steps and words, with the answer `a` if the loader is asked.
pub record Finishes (c : Class) (a : LoadAnswer) (s : State) (b : Bounds) : Type 0 where
  pub last : State
  pub final : Final
  pub reached : ReachesBy c a s last
  pub ends : step_with c a last ≡ Some (Ends final)
  pub few_steps : final.steps ≤ b.steps
  pub few_words : final.words ≤ b.words

abbrev pub NextStaysWithin : Class → Next → Bounds → Type 0
NextStaysWithin c (Goes u) b = StaysWithin c u b
NextStaysWithin c (Ends f) b = Unit {0}

-- `GoesAlone` holds if a step in which the loader isn't asked isn't stuck, and stays within the bounds.
pub record GoesAlone (c : Class) (t : State) (b : Bounds) : Type 0 where
  pub next : Next
  pub is : step c t ≡ Some next
  pub stays : NextStaysWithin c next b

-- `IsSafe` holds if for each invocation and each answer of the loader the class never gets stuck, stays within the bounds, and ends.
pub record IsSafe (c : Class) (b : Bounds) : Type 0 where
  pub never_stuck : (call : Invocation) (s t : State) → start c call ≡ Some s → Reaches c s t → (a : LoadAnswer) → (n : Next) × (step_with c a t ≡ Some n)
  pub alone : (call : Invocation) (s t : State) → start c call ≡ Some s → Reaches c s t → GoesAlone c t b
  pub stays : (call : Invocation) (s t : State) → start c call ≡ Some s → Reaches c s t → StaysWithin c t b
  pub finishes : (call : Invocation) (a : LoadAnswer) (s : State) → start c call ≡ Some s → Finishes c a s b

-- Each checked class is safe within bounds that no path of `process` exceeds.
abbrev pub SoundnessOfClasses : Type 0
SoundnessOfClasses = (c : Class) (j : ℕ) (b : Bounds) → IsChecked c → IsProcessOf c j → ((k : Cost) → Path c j 0 k → IsWithin k b) → IsSafe c b
