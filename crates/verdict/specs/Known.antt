-- The types and library methods that a profile knows.
use Rattle.std.specs.Prelude.{Bool, true, false, ◌&&◌, List, [], ◌∷◌, Option, Some, None}
use Rattle.jtypes.specs.Profile.{Profile, Third}
use Rattle.jtypes.specs.declared.types.RefType.{RefType}
use Rattle.jtypes.specs.declared.types.RefType.TheVariants as ref
use Rattle.jtypes.specs.declared.types.JType.{JType}
use Rattle.jtypes.specs.declared.types.JType.TheVariants.{Ref}
use Rattle.jtypes.specs.declared.operations.Native.{Native}
use Rattle.jtypes.specs.declared.operations.Native.TheVariants as native
use Rattle.classfile.specs.View.{ClassView}
use Rattle.decode.specs.declared.instruction.Instruction.{Instruction}
use Rattle.decode.specs.declared.instruction.Instruction.TheVariants.{Invoke, CheckCast, InstanceOf}
use Rattle.frames.specs.declared.signatures.Signature.{Signature}
use Rattle.frames.specs.declared.members.Callee.{Callee}
use Rattle.frames.specs.declared.members.Reached.{Reached}
use Rattle.frames.specs.declared.members.Reached.TheVariants.{Library, Own}
use Rattle.frames.specs.Frames.{Frame}
use Rattle.frames.specs.Signatures.{constant_type}
use Rattle.frames.specs.Members.{callee_at}

-- The third profile knows all types and library methods of the definitions, those before it all but `java.lang.Boolean` with its methods, and `java.lang.Void`.
abbrev pub knows_class : Profile → RefType → Bool
knows_class Third r = true
knows_class profile ref.Boolean = false
knows_class profile ref.Void = false
knows_class profile r = true

abbrev pub knows_native : Profile → Native → Bool
knows_native Third n = true
knows_native profile native.BooleanValueOf = false
knows_native profile native.BooleanValue = false
knows_native profile n = true

abbrev pub knows_type : Profile → JType → Bool
knows_type profile (Ref r) = knows_class profile r
knows_type profile t = true

abbrev pub knows_types : Profile → List JType → Bool
knows_types profile [] = true
knows_types profile (t ∷ ts) = knows_type profile t && knows_types profile ts

abbrev pub knows_result : Profile → Option JType → Bool
knows_result profile None = true
knows_result profile (Some t) = knows_type profile t

abbrev pub knows_signature : Profile → Signature → Bool
knows_signature profile s = knows_types profile s.params && knows_result profile s.result

abbrev pub knows_frame : Profile → Frame → Bool
knows_frame profile f = knows_types profile f.locals && knows_types profile f.stack

abbrev pub knows_reached : Profile → Reached → Bool
knows_reached profile (Library n) = knows_native profile n
knows_reached profile (Own k) = true

abbrev pub knows_callee : Profile → Option Callee → Bool
knows_callee profile None = true
knows_callee profile (Some callee) = knows_reached profile callee.reached

abbrev pub knows_constant : Profile → Option RefType → Bool
knows_constant profile None = true
knows_constant profile (Some r) = knows_class profile r

-- Whether a profile knows the member or the type that an instruction names, if the definitions know it.
abbrev pub knows_named : Profile → ClassView → Instruction → Bool
knows_named profile v (Invoke kind i) = knows_callee profile (callee_at v kind i)
knows_named profile v (CheckCast i) = knows_constant profile (constant_type v i)
knows_named profile v (InstanceOf i) = knows_constant profile (constant_type v i)
knows_named profile v _ = true
