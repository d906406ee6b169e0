-- The results of the search for the spot of a refusal of the shape.
use Rattle.std.specs.Prelude.{◌≡◌, ◌≢◌, ℕ, ◌<◌, true, List, Some, slice_get}
use Rattle.jtypes.specs.declared.refusal.Refusal.{Refusal}
use Rattle.jtypes.specs.declared.refusal.Refusal.TheVariants.{NoMemory}
use Rattle.jtypes.specs.Lists.{same_bytes}
use Rattle.constpool.specs.Lookup.{Slot}
use Rattle.classfile.specs.declared.class_file.Member.{Member}
use Rattle.classfile.specs.declared.class_file.Parts.{Parts}
use Rattle.classfile.specs.View.{text_at}
use Rattle.verdict.specs.Shaping.{MethodStands, are_doubles}

-- `AreGoodUpTo` holds if none of the first `n` methods is refused for its descriptor or its code.
abbrev pub AreGoodUpTo : List Slot → Parts → List Member → ℕ → Type 0
AreGoodUpTo pool p ms n = (k : ℕ) (m : Member) (r : Refusal) → k < n → slice_get ms k ≡ Some m → MethodStands pool p m r → ⊥

-- `IsBadAt` holds if method `j` is refused for its descriptor or its code.
abbrev pub IsBadAt : List Slot → Parts → List Member → ℕ → Refusal → Type 0
IsBadAt pool p ms j r = (r ≢ NoMemory) × (m : Member) × (slice_get ms j ≡ Some m) × MethodStands pool p m r

-- `IsNamedAt` holds if method `j` has this name.
abbrev pub IsNamedAt : List Slot → List Member → List ℕ → ℕ → Type 0
IsNamedAt pool ms name j = (m : Member) × (slice_get ms j ≡ Some m) × (same_bytes (text_at pool m.name) name ≡ true)

-- `AreDoublesAt` holds if method `j` has the name and the descriptor of an earlier one.
abbrev pub AreDoublesAt : List Slot → List Member → ℕ → Type 0
AreDoublesAt pool ms j = (i : ℕ) × (m : Member) × (n : Member) × (i < j) × (slice_get ms i ≡ Some m) × (slice_get ms j ≡ Some n) × (are_doubles pool m n ≡ true)
