-- The theorem for classes that satisfy fewer premises.
use Rattle.std.specs.Prelude.{◌≡◌, ℕ, ◌<◌, ◌≤◌, false, length, Some, slice_get, IsNone, pos}
use Rattle.jtypes.specs.declared.operations.ArrayKind.{ArrayKind}
use Rattle.jtypes.specs.Lists.{result_list, is_one_of}
use Rattle.jtypes.specs.Types.{is_long, slots_by}
use Rattle.classfile.specs.View.{MethodView}
use Rattle.decode.specs.declared.instruction.Instruction.TheVariants.{NewArray}
use Rattle.decode.specs.declared.instruction.Placed.{Placed}
use Rattle.decode.specs.Places.{IsTarget}
use Rattle.frames.specs.Signatures.{method_signature, is_static}
use Rattle.frames.specs.Frames.{Frame}
use Rattle.typecheck.specs.Typing.{Method, Class, IsWellTyped, IsProcessOf, instruction_at, declared_at}
use Rattle.typecheck.specs.Mismatch.{HasLength}
use Rattle.bounds.specs.Recursion.{IsOrdered}
use Rattle.bounds.specs.Paths.{Bounds, Cost, Path, IsWithin}
use Rattle.verdict.specs.Shape.{reserved_names}
use Rattle.verdict.specs.Checked.{NoTop, IsFormed, IsMember}
use Rattle.verdict.specs.Sound.{IsSafe}

-- The theorem for the classes that satisfy `P`.
abbrev pub SoundnessOver : (Class → Type 0) → Type 0
SoundnessOver P = (c : Class) (j : ℕ) (b : Bounds) → P c → IsProcessOf c j → ((k : Cost) → Path c j 0 k → IsWithin k b) → IsSafe c b

-- `HasTypedMethods` holds if the methods have the signatures of their descriptors, are well typed, and call methods of lower rank.
pub record HasTypedMethods (c : Class) : Type 0 where
  pub count : length c.methods ≡ length c.view.methods
  pub signed : (j : ℕ) (v : MethodView) (m : Method) → slice_get c.view.methods j ≡ Some v → slice_get c.methods j ≡ Some m → method_signature c.view v ≡ Some m.environment.signature
  pub typed : (j : ℕ) (v : MethodView) (m : Method) → IsMember c j v m → IsWellTyped c.view m
  pub ordered : (rank : ℕ → ℕ) × IsOrdered c rank

-- `HasFreeName` holds if the class name isn't reserved.
abbrev pub HasFreeName : Class → Type 0
HasFreeName c = is_one_of c.view.name reserved_names ≡ false

-- `HasInstanceProcess` holds if `process` isn't static.
abbrev pub HasInstanceProcess : Class → Type 0
HasInstanceProcess c = (j : ℕ) (v : MethodView) → IsProcessOf c j → slice_get c.view.methods j ≡ Some v → is_static v.flags ≡ false

-- `AllMembers` holds if `P` holds of each method except the constructor.
abbrev pub AllMembers : Class → (Method → Type 0) → Type 0
AllMembers c P = (j : ℕ) (v : MethodView) (m : Method) → IsMember c j v m → P m

-- The premises on a method other than well-typedness, except that its instructions are consecutive.
pub record IsFormedButForPlaces (m : Method) : Type 0 where
  pub params : NoTop m.environment.signature.params
  pub result : NoTop (result_list m.environment.signature.result)
  pub room : slots_by is_long m.environment.signature.params ≤ m.environment.max_locals
  pub declared : (p : ℕ) (d : Frame) → declared_at m p ≡ Some d → NoTop d.stack
  pub forward : (q r : ℕ) (p : Placed) → instruction_at m q ≡ Some p → IsTarget p.instruction (pos r) → q < r
  pub lengths : (q : ℕ) (p : Placed) (k : ArrayKind) → instruction_at m q ≡ Some p → p.instruction ≡ NewArray k → IsNone (declared_at m q) × HasLength m.code q

-- All premises of a checked class except that its name isn't reserved.
abbrev pub IsCheckedButForName : Class → Type 0
IsCheckedButForName c = HasTypedMethods c × HasInstanceProcess c × AllMembers c IsFormed

-- All premises except that `process` isn't static.
abbrev pub IsCheckedButForInstance : Class → Type 0
IsCheckedButForInstance c = HasTypedMethods c × HasFreeName c × AllMembers c IsFormed

-- All premises except that the instructions are consecutive.
abbrev pub IsCheckedButForPlaces : Class → Type 0
IsCheckedButForPlaces c = HasTypedMethods c × HasFreeName c × HasInstanceProcess c × AllMembers c IsFormedButForPlaces
