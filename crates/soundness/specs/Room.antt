-- The theorem without one premise that it doesn't need.
use Rattle.std.specs.Prelude.{◌≡◌, ℕ, ◌<◌, false, length, Some, slice_get, IsNone, pos}
use Rattle.jtypes.specs.declared.operations.ArrayKind.{ArrayKind}
use Rattle.jtypes.specs.Lists.{result_list, is_one_of}
use Rattle.classfile.specs.View.{MethodView}
use Rattle.decode.specs.declared.instruction.Instruction.TheVariants.{NewArray}
use Rattle.decode.specs.declared.instruction.Placed.{Placed}
use Rattle.decode.specs.Places.{IsTarget, AreConsecutive}
use Rattle.frames.specs.Signatures.{method_signature, is_static}
use Rattle.frames.specs.Frames.{Frame}
use Rattle.typecheck.specs.Typing.{Method, Class, IsWellTyped, IsProcessOf, instruction_at, declared_at}
use Rattle.typecheck.specs.Mismatch.{HasLength}
use Rattle.bounds.specs.Recursion.{IsOrdered}
use Rattle.verdict.specs.Shape.{reserved_names}
use Rattle.verdict.specs.Checked.{NoTop, IsMember}

-- The premises on a method other than well-typedness, except that its parameters fit into its local variables.
pub record IsFormedButForRoom (m : Method) : Type 0 where
  pub params : NoTop m.environment.signature.params
  pub result : NoTop (result_list m.environment.signature.result)
  pub declared : (p : ℕ) (d : Frame) → declared_at m p ≡ Some d → NoTop d.stack
  pub forward : (q r : ℕ) (p : Placed) → instruction_at m q ≡ Some p → IsTarget p.instruction (pos r) → q < r
  pub consecutive : AreConsecutive 0 m.code
  pub lengths : (q : ℕ) (p : Placed) (k : ArrayKind) → instruction_at m q ≡ Some p → p.instruction ≡ NewArray k → IsNone (declared_at m q) × HasLength m.code q

-- All premises of a checked class except that parameters fit into local variables.
pub record IsCheckedButForRoom (c : Class) : Type 0 where
  pub named : is_one_of c.view.name reserved_names ≡ false
  pub instance : (j : ℕ) (v : MethodView) → IsProcessOf c j → slice_get c.view.methods j ≡ Some v → is_static v.flags ≡ false
  pub count : length c.methods ≡ length c.view.methods
  pub signed : (j : ℕ) (v : MethodView) (m : Method) → slice_get c.view.methods j ≡ Some v → slice_get c.methods j ≡ Some m → method_signature c.view v ≡ Some m.environment.signature
  pub typed : (j : ℕ) (v : MethodView) (m : Method) → IsMember c j v m → IsWellTyped c.view m
  pub formed : (j : ℕ) (v : MethodView) (m : Method) → IsMember c j v m → IsFormedButForRoom m
  pub ordered : (rank : ℕ → ℕ) × IsOrdered c rank
