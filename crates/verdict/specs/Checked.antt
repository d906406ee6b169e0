-- The premises of type soundness on a class, independent of its bytes.
use Rattle.std.specs.Prelude.{◌≡◌, ℕ, ◌<◌, ◌≤◌, Bool, false, not, List, [], ◌∷◌, length, Option, Some, None, slice_get, IsNone, pos}
use Rattle.jtypes.specs.declared.types.JType.{JType}
use Rattle.jtypes.specs.declared.types.JType.TheVariants.{Top}
use Rattle.jtypes.specs.declared.operations.ArrayKind.{ArrayKind}
use Rattle.jtypes.specs.Lists.{result_list, is_one_of, same_bytes}
use Rattle.jtypes.specs.Types.{is_long, slots_by}
use Rattle.constpool.specs.Names.{init_name}
use Rattle.classfile.specs.View.{MethodView}
use Rattle.decode.specs.declared.instruction.Instruction.TheVariants.{NewArray}
use Rattle.decode.specs.declared.instruction.Placed.{Placed}
use Rattle.decode.specs.Places.{IsTarget, AreConsecutive}
use Rattle.frames.specs.Signatures.{method_signature, is_static}
use Rattle.frames.specs.Frames.{Frame}
use Rattle.typecheck.specs.Typing.{Method, Class, IsWellTyped, IsProcessOf, instruction_at, declared_at}
use Rattle.typecheck.specs.Mismatch.{HasLength}
use Rattle.bounds.specs.Recursion.{IsOrdered}
use Rattle.verdict.specs.Shape.{reserved_names}

-- `NoTop` holds if no type in the list is `Top`.
abbrev pub NoTop : List JType → Type 0
NoTop [] = Unit {0}
NoTop (t ∷ ts) = (t ≡ Top → ⊥) × NoTop ts

-- `IsFormed` holds if the method satisfies the premises other than well-typedness.
pub record IsFormed (m : Method) : Type 0 where
  pub params : NoTop m.environment.signature.params
  pub result : NoTop (result_list m.environment.signature.result)
  pub room : slots_by is_long m.environment.signature.params ≤ m.environment.max_locals
  pub declared : (p : ℕ) (d : Frame) → declared_at m p ≡ Some d → NoTop d.stack
  pub forward : (q r : ℕ) (p : Placed) → instruction_at m q ≡ Some p → IsTarget p.instruction (pos r) → q < r
  pub consecutive : AreConsecutive 0 m.code
  pub lengths : (q : ℕ) (p : Placed) (k : ArrayKind) → instruction_at m q ≡ Some p → p.instruction ≡ NewArray k → IsNone (declared_at m q) × HasLength m.code q

abbrev pub is_other : Option MethodView → Bool
is_other None = false
is_other (Some v) = not (same_bytes v.name init_name)

-- The indices of the methods except the constructor.
abbrev pub members : Class → ℕ → Bool
members c j = is_other (slice_get c.view.methods j)

-- `IsMember` holds if method `j` has this view and isn't the constructor.
pub record IsMember (c : Class) (j : ℕ) (v : MethodView) (m : Method) : Type 0 where
  pub view : slice_get c.view.methods j ≡ Some v
  pub method : slice_get c.methods j ≡ Some m
  pub other : v.name ≡ init_name → ⊥

pub record IsChecked (c : Class) : Type 0 where
  pub named : is_one_of c.view.name reserved_names ≡ false
  pub instance : (j : ℕ) (v : MethodView) → IsProcessOf c j → slice_get c.view.methods j ≡ Some v → is_static v.flags ≡ false
  pub count : length c.methods ≡ length c.view.methods
  pub signed : (j : ℕ) (v : MethodView) (m : Method) → slice_get c.view.methods j ≡ Some v → slice_get c.methods j ≡ Some m → method_signature c.view v ≡ Some m.environment.signature
  pub typed : (j : ℕ) (v : MethodView) (m : Method) → IsMember c j v m → IsWellTyped c.view m
  pub formed : (j : ℕ) (v : MethodView) (m : Method) → IsMember c j v m → IsFormed m
  pub ordered : (rank : ℕ → ℕ) × IsOrdered c rank
