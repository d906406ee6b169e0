-- The premises of type soundness on a class whose branches may lead back, independent of its bytes.
use Rattle.std.specs.Prelude.{◌≡◌, ℕ, false, length, Some, slice_get, IsNone}
use Rattle.jtypes.specs.declared.operations.ArrayKind.{ArrayKind}
use Rattle.jtypes.specs.Lists.{result_list, is_one_of}
use Rattle.classfile.specs.View.{MethodView}
use Rattle.decode.specs.declared.instruction.Instruction.TheVariants.{NewArray}
use Rattle.decode.specs.declared.instruction.Placed.{Placed}
use Rattle.decode.specs.Places.{AreConsecutive}
use Rattle.frames.specs.Signatures.{method_signature, is_static}
use Rattle.frames.specs.Frames.{Frame}
use Rattle.typecheck.specs.Typing.{Method, Class, IsWellTyped, IsProcessOf, instruction_at, declared_at}
use Rattle.typecheck.specs.Mismatch.{HasLength}
use Rattle.bounds.specs.Recursion.{IsOrdered}
use Rattle.verdict.specs.Shape.{reserved_names}
use Rattle.verdict.specs.Checked.{NoTop, IsMember}

-- The premises on a method other than well-typedness, except the direction of branches and the room for parameters.
pub record IsFormedWithLoops (m : Method) : Type 0 where
  pub params : NoTop m.environment.signature.params
  pub result : NoTop (result_list m.environment.signature.result)
  pub declared : (p : ℕ) (d : Frame) → declared_at m p ≡ Some d → NoTop d.stack
  pub consecutive : AreConsecutive 0 m.code
  pub lengths : (q : ℕ) (p : Placed) (k : ArrayKind) → instruction_at m q ≡ Some p → p.instruction ≡ NewArray k → IsNone (declared_at m q) × HasLength m.code q

-- The premises of a checked class, except those two.
pub record IsCheckedWithLoops (c : Class) : Type 0 where
  pub named : is_one_of c.view.name reserved_names ≡ false
  pub instance : (j : ℕ) (v : MethodView) → IsProcessOf c j → slice_get c.view.methods j ≡ Some v → is_static v.flags ≡ false
  pub count : length c.methods ≡ length c.view.methods
  pub signed : (j : ℕ) (v : MethodView) (m : Method) → slice_get c.view.methods j ≡ Some v → slice_get c.methods j ≡ Some m → method_signature c.view v ≡ Some m.environment.signature
  pub typed : (j : ℕ) (v : MethodView) (m : Method) → IsMember c j v m → IsWellTyped c.view m
  pub formed : (j : ℕ) (v : MethodView) (m : Method) → IsMember c j v m → IsFormedWithLoops m
  pub ordered : (rank : ℕ → ℕ) × IsOrdered c rank
