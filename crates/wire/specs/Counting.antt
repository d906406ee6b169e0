-- A reader or writer with counts of its failed calls.
use Rattle.std.specs.Prelude.{◌≡◌, ◌⊎◌, ◌<◌, ◌+◌, ◌-◌, ◌^◌, min, ℕ}

-- The reader or writer, the number of calls that returned an error, and the number of nonempty writes that accepted no byte.
pub record Counting (T : Type 0) : Type 0 where
  pub inner : T
  pub failures : ℕ
  pub idle : ℕ

-- `IsOneMore` holds if `new` is `old` + 1, saturated at 2 ^ 64 - 1.
abbrev pub IsOneMore : ℕ → ℕ → Type 0
IsOneMore old new = new ≡ min (old + 1) (2 ^ 64 - 1)

-- `HasRisen` holds if the count has increased, or is saturated.
abbrev pub HasRisen : ℕ → ℕ → Type 0
HasRisen old new = (old < new) ⊎ (new ≡ 2 ^ 64 - 1)

abbrev pub CountsFailure : {T : Type 0} → Counting T → Counting T → Type 0
CountsFailure old new = IsOneMore old.failures new.failures × (new.idle ≡ old.idle)

abbrev pub CountsIdle : {T : Type 0} → Counting T → Counting T → Type 0
CountsIdle old new = (new.failures ≡ old.failures) × IsOneMore old.idle new.idle

-- `StaysCounted` holds if both counts are unchanged.
abbrev pub StaysCounted : {T : Type 0} → Counting T → Counting T → Type 0
StaysCounted old new = (new.failures ≡ old.failures) × (new.idle ≡ old.idle)

-- `HasFailed` holds if a call returned an error, or a nonempty write accepted no byte.
abbrev pub HasFailed : {T : Type 0} → Counting T → Counting T → Type 0
HasFailed old new = HasRisen old.failures new.failures ⊎ HasRisen old.idle new.idle
