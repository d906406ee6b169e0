-- The result of parsing a descriptor.
use Rattle.std.specs.Prelude.{Option, Some, None, Result, Ok, Err}
use Rattle.jtypes.specs.declared.refusal.Refusal.{Refusal}
use Rattle.jtypes.specs.declared.refusal.Refusal.TheVariants.{BadDescriptor}

-- the parsed value, or `BadDescriptor` if there is none
abbrev pub parsed : {A : Type 0} → Option A → Result A Refusal
parsed (Some x) = Ok x
parsed None = Err BadDescriptor
