-- The class of a constant pool and the parts of a class file.
use Rattle.std.specs.Prelude.{List}
use Rattle.constpool.specs.Lookup.{Slot}
use Rattle.classfile.specs.declared.class_file.Parts.{Parts}
use Rattle.typecheck.specs.Typing.{Class}
use Rattle.verdict.specs.Verdict.{IsClassOfFile}
use Rattle.soundness.proofs.OneClass.{class_prop}
use Rattle.jtypes.specs.Profile.{Third}

-- The class of the class file with this constant pool and these parts.
abbrev pub TheClass : List Slot → Parts → Type 0
TheClass pool parts = (c : Class) × ∥ IsClassOfFile Third pool parts c ∥₁

-- There is at most one.
pub TheClass-prop : (pool : List Slot) (parts : Parts) → IsProp (TheClass pool parts)
TheClass-prop pool parts = class_prop Third pool parts
