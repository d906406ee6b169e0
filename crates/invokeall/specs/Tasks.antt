-- The effect of a task on several workers.
use Rattle.std.specs.Prelude.{ℕ, ◌<◌, List, length, slice_index_or}

-- `AreServed` holds if `leaves` relates each worker before the task to the same worker after it.
abbrev pub AreServed : {W : Type 0} → (W → W → Type 0) → List W → List W → Type 0
AreServed {W} leaves old new = (i : ℕ) (d : W) → i < length old → leaves (slice_index_or old i d) (slice_index_or new i d)
