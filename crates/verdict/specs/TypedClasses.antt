-- A class that is checked up to the types of its methods.
use Rattle.std.specs.Prelude.{ℕ, List, length}
use Rattle.jtypes.specs.declared.refusal.Refusal.{Refusal}
use Rattle.jtypes.specs.declared.refusal.Refusal.TheVariants.{TypeMismatch}
use Rattle.constpool.specs.Lookup.{Slot}
use Rattle.classfile.specs.declared.class_file.Parts.{Parts}
use Rattle.classfile.specs.declared.class_file.CodeParts.{CodeParts}
use Rattle.classfile.specs.View.{view_of}
use Rattle.typecheck.specs.declared.typed.Typed.{Typed}
use Rattle.verdict.specs.declared.instructions.Found.{Found}
use Rattle.verdict.specs.declared.spot.Spot.{Spot}
use Rattle.verdict.specs.declared.spot.Spot.TheVariants.{InMethod, AtInstruction}
use Rattle.verdict.specs.Shaping.{HasGoodShape}
use Rattle.verdict.specs.Judging.{AreFound, AreTyped}
use Rattle.verdict.specs.Verdict.{IsClassFile}

-- `IsTypedClass` holds if the bytes are this class, no refusal of its layout, shape or instructions applies,
-- and its methods except the constructor are well typed.
pub record IsTypedClass (bytes : List ℕ) (pool : List Slot) (p : Parts) (rows : List Typed) : Type 0 where
  pub file : IsClassFile bytes pool p
  pub constructor : ℕ
  pub codes : List CodeParts
  pub shape : HasGoodShape pool p codes constructor
  pub items : List Found
  pub found : AreFound (view_of pool p) codes constructor (length codes) items
  pub typed : AreTyped pool p constructor (length codes) rows

-- The spot of a refusal of the types of method `j`.
abbrev pub type_spot : ℕ → Refusal → Spot
type_spot j (TypeMismatch place) = AtInstruction j place
type_spot j _ = InMethod j
