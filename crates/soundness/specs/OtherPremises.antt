-- The theorem without one of the premises that aren't in `Premises`.
use Rattle.std.specs.Prelude.{◌≡◌, ℕ, ◌<◌, ◌≤◌, length, Some, slice_get, IsNone, pos}
use Rattle.jtypes.specs.declared.operations.ArrayKind.{ArrayKind}
use Rattle.jtypes.specs.Lists.{result_list}
use Rattle.jtypes.specs.Types.{is_long, slots_by}
use Rattle.classfile.specs.View.{MethodView}
use Rattle.decode.specs.declared.instruction.Instruction.TheVariants.{NewArray}
use Rattle.decode.specs.declared.instruction.Placed.{Placed}
use Rattle.decode.specs.Places.{IsTarget, AreConsecutive}
use Rattle.frames.specs.Signatures.{method_signature}
use Rattle.frames.specs.Frames.{Frame}
use Rattle.typecheck.specs.Typing.{Method, Class, IsWellTyped, IsProcessOf, instruction_at, declared_at}
use Rattle.typecheck.specs.Mismatch.{HasLength}
use Rattle.bounds.specs.Paths.{Bounds, Cost, Path, IsWithin}
use Rattle.verdict.specs.Checked.{NoTop, IsFormed, IsChecked}
use Rattle.verdict.specs.Sound.{IsSafe}
use Rattle.soundness.specs.Ordering.{HasRanks}
use Rattle.soundness.specs.Premises.{HasTypedMethods, HasFreeName, HasInstanceProcess, AllMembers}

-- ---- the premises on a class

abbrev pub IsCounted : Class → Type 0
IsCounted c = length c.methods ≡ length c.view.methods

abbrev pub IsSigned : Class → Type 0
IsSigned c = (j : ℕ) (v : MethodView) (m : Method) → slice_get c.view.methods j ≡ Some v → slice_get c.methods j ≡ Some m → method_signature c.view v ≡ Some m.environment.signature

-- `AllWellTyped` holds if each method except the constructor is well typed.
abbrev pub AllWellTyped : Class → Type 0
AllWellTyped c = AllMembers c (IsWellTyped c.view)

-- ---- the premises on a method other than well-typedness

abbrev pub HasPlainSignature : Method → Type 0
HasPlainSignature m = NoTop m.environment.signature.params × NoTop (result_list m.environment.signature.result)

abbrev pub HasRoom : Method → Type 0
HasRoom m = slots_by is_long m.environment.signature.params ≤ m.environment.max_locals

abbrev pub DeclaresNoTop : Method → Type 0
DeclaresNoTop m = (p : ℕ) (d : Frame) → declared_at m p ≡ Some d → NoTop d.stack

abbrev pub GoesForward : Method → Type 0
GoesForward m = (q r : ℕ) (p : Placed) → instruction_at m q ≡ Some p → IsTarget p.instruction (pos r) → q < r

abbrev pub HasLengths : Method → Type 0
HasLengths m = (q : ℕ) (p : Placed) (k : ArrayKind) → instruction_at m q ≡ Some p → p.instruction ≡ NewArray k → IsNone (declared_at m q) × HasLength m.code q

-- Signatures that match the descriptors contain no `Top`.
abbrev pub SignedIsPlain : Type 0
SignedIsPlain = (c : Class) → IsSigned c → AllMembers c HasPlainSignature

-- ---- all premises of a checked class except one

-- All premises except that the methods are well typed.
abbrev pub IsCheckedButForTypes : Class → Type 0
IsCheckedButForTypes c = HasFreeName c × HasInstanceProcess c × IsCounted c × IsSigned c × AllMembers c IsFormed × HasRanks c

-- All premises except that the own calls have ranks.
abbrev pub IsCheckedButForRanks : Class → Type 0
IsCheckedButForRanks c = HasFreeName c × HasInstanceProcess c × IsCounted c × IsSigned c × AllMembers c IsFormed × AllWellTyped c

-- All premises except that the class has as many methods as its view.
abbrev pub IsCheckedButForCount : Class → Type 0
IsCheckedButForCount c = HasFreeName c × HasInstanceProcess c × IsSigned c × AllMembers c IsFormed × AllWellTyped c × HasRanks c

-- All premises except that the signatures match the descriptors.
abbrev pub IsCheckedButForSignatures : Class → Type 0
IsCheckedButForSignatures c = HasFreeName c × HasInstanceProcess c × IsCounted c × AllMembers c IsFormed × AllWellTyped c × HasRanks c

-- All premises except that branches go forward.
abbrev pub IsCheckedButForDirection : Class → Type 0
IsCheckedButForDirection c =
    HasTypedMethods c × HasFreeName c × HasInstanceProcess c
    × AllMembers c (λ m. HasPlainSignature m × HasRoom m × DeclaresNoTop m × HasLengths m × AreConsecutive 0 m.code)

-- All premises except that the lengths of new arrays are constants.
abbrev pub IsCheckedButForLengths : Class → Type 0
IsCheckedButForLengths c =
    HasTypedMethods c × HasFreeName c × HasInstanceProcess c
    × AllMembers c (λ m. HasPlainSignature m × HasRoom m × DeclaresNoTop m × GoesForward m × AreConsecutive 0 m.code)

-- All premises except that no declared frame has `Top` on its operand stack.
abbrev pub IsCheckedButForOperands : Class → Type 0
IsCheckedButForOperands c =
    HasTypedMethods c × HasFreeName c × HasInstanceProcess c
    × AllMembers c (λ m. HasPlainSignature m × HasRoom m × GoesForward m × HasLengths m × AreConsecutive 0 m.code)

-- ---- the theorem without its other premises

-- The theorem for any bounds.
abbrev pub SoundnessWithoutBounds : Type 0
SoundnessWithoutBounds = (c : Class) (j : ℕ) (b : Bounds) → IsChecked c → IsProcessOf c j → IsSafe c b

-- The theorem for bounds on the paths of any method.
abbrev pub SoundnessByAnyMethod : Type 0
SoundnessByAnyMethod = (c : Class) (j : ℕ) (b : Bounds) → IsChecked c → ((k : Cost) → Path c j 0 k → IsWithin k b) → IsSafe c b

-- ---- a stronger counterexample

-- `SomeIsNeverSafe` holds if a class satisfies `P` and isn't safe within any bounds.
abbrev pub SomeIsNeverSafe : (Class → Type 0) → Type 0
SomeIsNeverSafe P = (c : Class) × P c × ((b : Bounds) → IsSafe c b → ⊥)
