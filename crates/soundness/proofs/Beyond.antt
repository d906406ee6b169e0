-- What a later profile doesn't know, the one before it doesn't know either.
use Rattle.std.proofs.Common.{◌≡◌, ℕ, Bool, true, false, List, [], ◌∷◌, Option, Some, None, refl, cond, ◌⊎◌, inl, inr}
use Rattle.std.specs.Prelude.{◌&&◌, IsFalse}
use Rattle.jtypes.specs.Profile.{Profile, First, Second, Third}
use Rattle.jtypes.specs.declared.types.RefType.{RefType}
use Rattle.jtypes.specs.declared.types.RefType.TheVariants as ref
use Rattle.jtypes.specs.declared.types.JType.{JType}
use Rattle.jtypes.specs.declared.types.JType.TheVariants as type
use Rattle.jtypes.specs.declared.operations.Native.{Native}
use Rattle.jtypes.specs.declared.operations.Native.TheVariants as native
use Rattle.classfile.specs.View.{ClassView}
use Rattle.decode.specs.Profiles.{IsNext}
use Rattle.decode.specs.declared.instruction.Instruction.{Instruction}
use Rattle.decode.specs.declared.instruction.Instruction.TheVariants.{Invoke, CheckCast, InstanceOf}
use Rattle.frames.specs.declared.signatures.Signature.{Signature}
use Rattle.frames.specs.declared.members.Callee.{Callee}
use Rattle.frames.specs.declared.members.Reached.{Reached}
use Rattle.frames.specs.declared.members.Reached.TheVariants.{Library, Own}
use Rattle.frames.specs.Frames.{Frame}
use Rattle.frames.specs.Signatures.{constant_type}
use Rattle.frames.specs.Members.{callee_at}
use Rattle.verdict.specs.Known.{knows_class, knows_native, knows_type, knows_types, knows_result, knows_signature, knows_frame, knows_reached, knows_callee, knows_constant, knows_named}

class_beyond : (old new : Profile) → IsNext old new → (r : RefType) → IsFalse (knows_class new r) → IsFalse (knows_class old r)
class_beyond First Second next ref.Boolean h = refl
class_beyond First Second next ref.Void h = refl
class_beyond First Second next _ h = cc h
class_beyond Second Third next r h = cc h
class_beyond First First next r h = absurd next
class_beyond First Third next r h = absurd next
class_beyond Second First next r h = absurd next
class_beyond Second Second next r h = absurd next
class_beyond Third new next r h = absurd next

native_beyond : (old new : Profile) → IsNext old new → (n : Native) → IsFalse (knows_native new n) → IsFalse (knows_native old n)
native_beyond First Second next native.BooleanValueOf h = refl
native_beyond First Second next native.BooleanValue h = refl
native_beyond First Second next _ h = cc h
native_beyond Second Third next n h = cc h
native_beyond First First next n h = absurd next
native_beyond First Third next n h = absurd next
native_beyond Second First next n h = absurd next
native_beyond Second Second next n h = absurd next
native_beyond Third new next n h = absurd next

-- One of two is false.
either_false : (a b : Bool) → IsFalse (a && b) → IsFalse a ⊎ IsFalse b
either_false true b h = inr h
either_false false b h = inl refl

left_false : (a b : Bool) → IsFalse a → IsFalse (a && b)
left_false true b h = cc h
left_false false b h = refl

right_false : (a b : Bool) → IsFalse b → IsFalse (a && b)
right_false true b h = h
right_false false b h = refl

both_beyond : (a b c d : Bool) → (IsFalse a → IsFalse c) → (IsFalse b → IsFalse d) → IsFalse (a && b) → IsFalse (c && d)
both_beyond a b c d f g h = go (either_false a b h)
  where
    go : IsFalse a ⊎ IsFalse b → IsFalse (c && d)
    go (inl x) = left_false c d (f x)
    go (inr y) = right_false c d (g y)

module _ (old new : Profile) (next : IsNext old new) where
  type_beyond : (t : JType) → IsFalse (knows_type new t) → IsFalse (knows_type old t)
  type_beyond (type.Ref r) h = class_beyond old new next r h
  type_beyond type.Top h = cc h
  type_beyond type.Int h = cc h
  type_beyond type.Long h = cc h
  type_beyond type.Null h = cc h

  types_beyond : (ts : List JType) → IsFalse (knows_types new ts) → IsFalse (knows_types old ts)
  types_beyond [] h = cc h
  types_beyond (t ∷ ts) h = both_beyond (knows_type new t) (knows_types new ts) (knows_type old t) (knows_types old ts) (type_beyond t) (types_beyond ts) h

  result_beyond : (t : Option JType) → IsFalse (knows_result new t) → IsFalse (knows_result old t)
  result_beyond None h = cc h
  result_beyond (Some t) h = type_beyond t h

  pub signature_beyond : (s : Signature) → IsFalse (knows_signature new s) → IsFalse (knows_signature old s)
  signature_beyond s h = both_beyond (knows_types new s.params) (knows_result new s.result) (knows_types old s.params) (knows_result old s.result) (types_beyond s.params) (result_beyond s.result) h

  pub frame_beyond : (f : Frame) → IsFalse (knows_frame new f) → IsFalse (knows_frame old f)
  frame_beyond f h = both_beyond (knows_types new f.locals) (knows_types new f.stack) (knows_types old f.locals) (knows_types old f.stack) (types_beyond f.locals) (types_beyond f.stack) h

  reached_beyond : (r : Reached) → IsFalse (knows_reached new r) → IsFalse (knows_reached old r)
  reached_beyond (Library n) h = native_beyond old new next n h
  reached_beyond (Own k) h = cc h

  callee_beyond : (c : Option Callee) → IsFalse (knows_callee new c) → IsFalse (knows_callee old c)
  callee_beyond None h = cc h
  callee_beyond (Some c) h = reached_beyond c.reached h

  constant_beyond : (r : Option RefType) → IsFalse (knows_constant new r) → IsFalse (knows_constant old r)
  constant_beyond None h = cc h
  constant_beyond (Some r) h = class_beyond old new next r h

  pub named_beyond : (v : ClassView) (i : Instruction) → IsFalse (knows_named new v i) → IsFalse (knows_named old v i)
  named_beyond v (Invoke kind i) h = callee_beyond (callee_at v kind i) h
  named_beyond v (CheckCast i) h = constant_beyond (constant_type v i) h
  named_beyond v (InstanceOf i) h = constant_beyond (constant_type v i) h
  named_beyond v _ h = cc h
