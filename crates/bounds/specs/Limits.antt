-- The limits of an invocation.
use Rattle.std.specs.Prelude.{◌≡◌, ◌<◌, ◌≤◌, ◌⊎◌, Result, Ok, Err}
use Rattle.jtypes.specs.declared.refusal.Refusal.{Refusal}
use Rattle.jtypes.specs.declared.refusal.Refusal.TheVariants.{NoMemory, NoProcess, LengthNotConstant, Recursive, StepLimit, WordLimit, FrameLimit}
use Rattle.bounds.specs.declared.costs.Cost.{Cost}
use Rattle.bounds.specs.declared.limits.Bounds.{Bounds}
use Rattle.bounds.specs.Paths.{step_limit, word_limit, slot_limit, depth_limit}
use Rattle.jtypes.specs.Profile.{Profile, Third}

-- `IsWithinLimits profile b` holds if none of the four bounds exceeds its limit
pub record IsWithinLimits (profile : Profile) (b : Bounds) : Type 0 where
  pub steps : b.steps ≤ step_limit profile
  pub words : b.words ≤ word_limit
  pub slots : b.slots ≤ slot_limit
  pub depth : b.depth ≤ depth_limit

-- `Exceeds k r` holds if the cost exceeds the limit of the refusal
abbrev pub Exceeds : Cost → Refusal → Type 0
Exceeds k StepLimit = step_limit Third < k.steps
Exceeds k WordLimit = word_limit < k.words
Exceeds k FrameLimit = (slot_limit < k.slots) ⊎ (depth_limit < k.depth)
Exceeds k _ = ⊥

-- `Judges k result` holds if the result is the bounds of the cost within the limits, or the refusal of a limit that it exceeds
abbrev pub Judges : Cost → Result Bounds Refusal → Type 0
Judges k (Ok b) = IsWithinLimits Third b × (b.steps ≡ k.steps) × (b.words ≡ k.words) × (b.slots ≡ k.slots) × (b.depth ≡ k.depth)
Judges k (Err r) = Exceeds k r

abbrev pub IsLimit : Refusal → Type 0
IsLimit StepLimit = Unit {0}
IsLimit WordLimit = Unit {0}
IsLimit FrameLimit = Unit {0}
IsLimit _ = ⊥

-- `IsOfBounds r` holds for the refusals that the computation of bounds can return
abbrev pub IsOfBounds : Refusal → Type 0
IsOfBounds NoMemory = Unit {0}
IsOfBounds LengthNotConstant = Unit {0}
IsOfBounds Recursive = Unit {0}
IsOfBounds NoProcess = Unit {0}
IsOfBounds r = IsLimit r
